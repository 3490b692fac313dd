use Rattle.item_session.proofs.ServedLemmas.{lines_are_served}
use Rattle.item_session.proofs.laws.lines_fit.Goals as goal

pub returns : goal.returns
returns c = lines_are_served
