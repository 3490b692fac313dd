use Rattle.std.proofs.Common.{◌+◌, arith}
use Rattle.nvs_store.specs.Geometry.{slot_size}
use Rattle.nvs_store.proofs.SlotReads.{slot_size_bounds}
use Rattle.item_laws.proofs.SlotLemmas.{factor_le}
use Rattle.nvs_store.proofs.slots.slot_start.Goals as goal

pub overflow_add-result : goal.overflow_add-result
overflow_add-result c =
    let bounds = slot_size_bounds c.args.unit c.requires.unit in
    omega (arith, factor_le (c.args.index + 1) (slot_size c.args.unit) c.args.len (omega arith) c.requires.inside)
