use Rattle.std.proofs.Common.{arith}
use Rattle.nvs_store.proofs.SlotReads.{slot_size_bounds}
use Rattle.nvs_store.proofs.sector.is_closed.Goals as goal

pub slot_of-requires-clause-inside : goal.slot_of-requires-clause-inside
slot_of-requires-clause-inside c = let size = slot_size_bounds c.args.unit c.requires.unit in omega arith
