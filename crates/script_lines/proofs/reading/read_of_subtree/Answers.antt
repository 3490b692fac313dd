use Rattle.text_parts.specs.Parts.{parts_of}
use Rattle.script_lines.specs.Line.{subtree_word}
use Rattle.script_lines.proofs.FormLemmas.{subtree_read, maybe_refused}
use Rattle.script_lines.proofs.TableFacts.{subtree_form}
use Rattle.script_lines.proofs.reading.read_of_subtree.Goals as goal

pub returns-in-Ok : goal.returns-in-Ok
returns-in-Ok c = λ limit. subtree_read limit (subtree_word c.args.word) (parts_of 32 c.args.rest) c.in-Ok.subtree c.line_of_subtree.result (subtree_form c.args.word) c.line_of_subtree.ensures (c.in-Ok.ensures limit)

pub returns-in-Err : goal.returns-in-Err
returns-in-Err c = λ limit. maybe_refused limit (subtree_word c.args.word) (parts_of 32 c.args.rest) c.in-Err.fault (subtree_form c.args.word) (c.in-Err.ensures limit)
