use Rattle.item_session.proofs.HistoryLemmas.{holds_acknowledged}
use Rattle.item_session.proofs.laws.acknowledged_items_stand.Goals as goal

pub returns : goal.returns
returns c = holds_acknowledged
