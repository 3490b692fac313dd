use Rattle.text_parts.specs.Parts.{parts_of}
use Rattle.script_lines.specs.Forms.Field.{below}
use Rattle.script_lines.specs.Forms.Said.{number}
use Rattle.script_lines.proofs.FieldLemmas.{alone}
use Rattle.script_lines.proofs.fields.number_alone.Goals as goal

pub returns : goal.returns
returns c = λ limit. alone limit (below c.args.end) number c.in_ok-one_word.field-0.now (parts_of 32 c.args.rest) c.read_number_below.result c.in_ok-one_word.ensures (c.read_number_below.ensures limit)
