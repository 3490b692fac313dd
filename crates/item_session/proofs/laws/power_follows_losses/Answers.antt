use Rattle.item_session.proofs.HistoryLemmas.{loses_power}
use Rattle.item_session.proofs.laws.power_follows_losses.Goals as goal

pub returns : goal.returns
returns c = loses_power
