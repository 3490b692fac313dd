use Rattle.std.proofs.lemmas.Str.{IsUtf8-from_ascii}
use Rattle.image_file.proofs.LawfulLemmas.{label_is_ascii}
use Rattle.image_file.proofs.fields.label_from.Goals as goal

pub returns-in_default : goal.returns-in_default
returns-in_default c = λ is. c.in_default.ensures.cases.0 (IsUtf8-from_ascii c.args.label.now (label_is_ascii c.args.label.now is))
