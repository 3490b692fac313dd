use Rattle.migrator.proofs.Puts.{puts-in-order}
use Rattle.migrator.proofs.copying.put_in_order.Goals as goal

pub returns : goal.returns
returns c = puts-in-order
