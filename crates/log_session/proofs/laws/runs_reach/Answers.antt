use Rattle.log_session.proofs.ReachLemmas.{runs_reach}
use Rattle.log_session.proofs.laws.runs_reach.Goals as goal

pub returns : goal.returns
returns c = runs_reach
