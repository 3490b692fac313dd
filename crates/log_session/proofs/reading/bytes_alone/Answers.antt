use Rattle.text_parts.specs.Parts.{parts_of}
use Rattle.script_lines.specs.Forms.Field.{some_bytes}
use Rattle.script_lines.specs.Forms.Said.{bytes}
use Rattle.script_lines.proofs.FieldLemmas.{alone}
use Rattle.log_session.proofs.reading.bytes_alone.Goals as goal

pub returns : goal.returns
returns c = alone c.args.limit some_bytes bytes c.in_ok-one_word.field-0.now (parts_of 32 c.args.rest) c.read_bytes.result c.in_ok-one_word.ensures c.read_bytes.ensures
