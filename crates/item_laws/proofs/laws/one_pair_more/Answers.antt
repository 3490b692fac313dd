use Rattle.item_laws.proofs.Pairs.{last-push}
use Rattle.item_laws.proofs.laws.one_pair_more.Goals as goal

pub returns : goal.returns
returns c = last-push
