use Rattle.text_parts.specs.Parts.{parts_of}
use Rattle.script_lines.specs.Forms.Field.{a_label}
use Rattle.script_lines.specs.Forms.Said.{label}
use Rattle.script_lines.proofs.FieldLemmas.{alone}
use Rattle.mirror_session.proofs.reading.label_alone.Goals as goal

pub returns : goal.returns
returns c = λ limit. alone limit a_label label c.in_ok-one_word.field-0.now (parts_of 32 c.args.rest) c.read_label.result c.in_ok-one_word.ensures (c.read_label.ensures limit)
