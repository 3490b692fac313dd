use Rattle.text_parts.specs.Parts.{parts_of}
use Rattle.script_lines.specs.Forms.Field.{a_name}
use Rattle.script_lines.specs.Forms.Said.{name}
use Rattle.script_lines.proofs.FieldLemmas.{alone}
use Rattle.script_lines.proofs.fields.name_alone.Goals as goal

pub returns : goal.returns
returns c = λ limit. alone limit a_name name c.in_ok-one_word.field-0.now (parts_of 32 c.args.rest) c.read_name.result c.in_ok-one_word.ensures (c.read_name.ensures limit)
