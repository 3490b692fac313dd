use Rattle.flash_sim.specs.Device.{Device}
use Rattle.flash_map.specs.declared.area.Area.{Area}
use Rattle.flash_map.specs.Area.{geometry_of}
use Rattle.item_store.specs.SectorFormat.{SectorFormat}
use Rattle.item_store.proofs.latest.fill_last_slots.Goals as goal

pub index_all-requires-clause-none : goal.index_all-requires-clause-none
index_all-requires-clause-none g c =
    let d : Device = g.F.Flash.device c.args.flash.now in
    let area : Area = c.args.on.now.area.now in
    let k : SectorFormat = g.T.SlotSectors.format_of (geometry_of d area) in
    c.clear.ensures k.ids
