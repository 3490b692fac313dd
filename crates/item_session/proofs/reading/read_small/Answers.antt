use Rattle.std.proofs.Common.{arith}
use Rattle.item_session.proofs.reading.read_small.Goals as goal

pub overflow_cast-result : goal.overflow_cast-result
overflow_cast-result c = let says = c.in-Ok.ensures 0 in omega (arith, says.1, c.requires)
