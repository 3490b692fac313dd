use Rattle.setting_name.proofs.KeyLemmas.{name_bytes}
use Rattle.setting_name.proofs.laws.bytes_of_a_name.Goals as goal

pub returns : goal.returns
returns c = λ text name. name_bytes text name.bytes
