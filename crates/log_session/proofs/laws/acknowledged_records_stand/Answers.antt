use Rattle.log_session.proofs.HistoryLemmas.{holds_acknowledged}
use Rattle.log_session.proofs.laws.acknowledged_records_stand.Goals as goal

pub returns : goal.returns
returns c = holds_acknowledged
