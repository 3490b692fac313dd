use Rattle.item_history.proofs.FitLemmas.{items_fit}
use Rattle.item_history.proofs.laws.items_fit.Goals as goal

pub returns : goal.returns
returns c = items_fit
