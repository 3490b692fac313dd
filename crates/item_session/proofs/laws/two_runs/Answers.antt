use Rattle.item_session.proofs.HistoryLemmas.{runs_in_row}
use Rattle.item_session.proofs.laws.two_runs.Goals as goal

pub returns : goal.returns
returns c = runs_in_row
