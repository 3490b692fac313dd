use Rattle.item_session.proofs.WholeLemmas.{history_stays_whole}
use Rattle.item_session.proofs.laws.history_stays_whole.Goals as goal

pub returns : goal.returns
returns c = history_stays_whole
