use Rattle.setting_name.proofs.KeyLemmas.{longer_key, same_key}
use Rattle.setting_name.proofs.laws.keys_of_one_name.Goals as goal

pub returns-clause-longer : goal.returns-clause-longer
returns-clause-longer c = longer_key

pub returns-clause-same : goal.returns-clause-same
returns-clause-same c = same_key
