use Rattle.std.proofs.Common.{[]}
use Rattle.text_parts.specs.Parts.{parts_of}
use Rattle.script_lines.specs.Line.{alone_word}
use Rattle.script_lines.proofs.FormLemmas.{line_read, line_refused}
use Rattle.script_lines.proofs.TableFacts.{alone_form}
use Rattle.script_lines.proofs.reading.read_alone.Goals as goal

pub returns-in-Ok : goal.returns-in-Ok
returns-in-Ok c = λ limit. line_read limit (alone_word c.args.word) (parts_of 32 c.args.rest) [] [] c.line_alone.result (alone_form c.args.word) c.line_alone.ensures (c.in-Ok.ensures limit)

pub returns-in-Err : goal.returns-in-Err
returns-in-Err c = λ limit. line_refused {T = Unit {0}} limit (λ _. []) (alone_word c.args.word) (parts_of 32 c.args.rest) [] c.in-Err.fault (alone_form c.args.word) (c.in-Err.ensures limit)
