use Rattle.log_session.proofs.HistoryLemmas.{runs_in_row}
use Rattle.log_session.proofs.laws.two_runs.Goals as goal

pub returns : goal.returns
returns c = runs_in_row
