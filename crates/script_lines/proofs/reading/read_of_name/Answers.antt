use Rattle.std.proofs.Common.{ℕ, List, [], ◌∷◌}
use Rattle.text_parts.specs.Parts.{parts_of}
use Rattle.script_lines.specs.Forms.Field.{a_name}
use Rattle.script_lines.specs.Forms.Said.{name}
use Rattle.script_lines.specs.Line.{name_word}
use Rattle.script_lines.proofs.FormLemmas.{line_read, line_refused}
use Rattle.script_lines.proofs.TableFacts.{name_form}
use Rattle.script_lines.proofs.reading.read_of_name.Goals as goal

pub returns-in-Ok : goal.returns-in-Ok
returns-in-Ok c = λ limit. line_read limit (name_word c.args.word) (parts_of 32 c.args.rest) (a_name ∷ []) (name c.in-Ok.name ∷ []) c.line_of_name.result (name_form c.args.word) c.line_of_name.ensures (c.in-Ok.ensures limit)

pub returns-in-Err : goal.returns-in-Err
returns-in-Err c = λ limit. line_refused {T = List ℕ} limit (λ text. name text ∷ []) (name_word c.args.word) (parts_of 32 c.args.rest) (a_name ∷ []) c.in-Err.fault (name_form c.args.word) (c.in-Err.ensures limit)
