use Rattle.backend_api.proofs.CommandLemmas.{follow}
use Rattle.backend_api.proofs.laws.follow_commands.Goals as goal

pub returns : goal.returns
returns c = follow
