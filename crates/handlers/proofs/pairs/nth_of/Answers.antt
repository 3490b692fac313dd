use Rattle.std.proofs.lemmas.Iterator.Consumers.{nth_from_yields_List, YieldsList-from_rest}
use Rattle.handlers.proofs.pairs.nth_of.Goals as goal

pub returns-then-i-len-clause-pair : goal.returns-then-i-len-clause-pair
returns-then-i-len-clause-pair c = nth_from_yields_List c.nth.result c.nth.new.self c.args.i c.nth.ensures.ran (YieldsList-from_rest _ c.iter.ensures.rest)
