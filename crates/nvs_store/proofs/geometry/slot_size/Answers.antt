use Rattle.std.proofs.Common.{◌∙◌, arith}
use Rattle.nvs_store.proofs.SlotReads.{slot_size_bounds, slot_size-is}
use Rattle.nvs_store.proofs.geometry.slot_size.Goals as goal

pub returns-clause-size : goal.returns-clause-size
returns-clause-size c = c.max.ensures ∙ slot_size-is c.args.unit c.requires

pub returns-clause-at_least : goal.returns-clause-at_least
returns-clause-at_least c = omega (arith, c.max.ensures)

pub returns-clause-at_most : goal.returns-clause-at_most
returns-clause-at_most c =
    let bounds = slot_size_bounds c.args.unit c.requires in
    omega (arith, c.max.ensures, slot_size-is c.args.unit c.requires)
