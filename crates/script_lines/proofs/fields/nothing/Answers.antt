use Rattle.script_lines.proofs.FieldLemmas.{some_words}
use Rattle.script_lines.proofs.fields.nothing.Goals as goal

pub returns-in-Some : goal.returns-in-Some
returns-in-Some c = λ limit. some_words c.args.rest c.in-Some.field-0 c.in-Some.is
