use Rattle.backend_api.proofs.CommandLemmas.{walks-keys}
use Rattle.backend_api.proofs.laws.walk_names.Goals as goal

pub returns : goal.returns
returns c = walks-keys
