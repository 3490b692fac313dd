use Rattle.mirror_session.proofs.PowerLemmas.{runs_in_row}
use Rattle.mirror_session.proofs.laws.two_runs.Goals as goal

pub returns : goal.returns
returns c = runs_in_row
