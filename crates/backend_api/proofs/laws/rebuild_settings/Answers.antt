use Rattle.backend_api.proofs.CommandLemmas.{is-rebuilt}
use Rattle.backend_api.proofs.laws.rebuild_settings.Goals as goal

pub returns : goal.returns
returns c = is-rebuilt
