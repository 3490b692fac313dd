use Rattle.handlers.proofs.PairLemmas.{held-none}
use Rattle.handlers.proofs.pairs.Pairs.new.Goals as goal

pub returns : goal.returns
returns c = held-none c.new.result c.new.ensures.empty
