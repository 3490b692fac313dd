use Rattle.flash_sim.specs.Device.{Device}
use Rattle.flash_map.specs.declared.area.Area.{Area}
use Rattle.flash_map.specs.Area.{geometry_of}
use Rattle.item_store.specs.SectorFormat.{IsSectorFormat}
use Rattle.item_store.proofs.Areas.{unit_is}
use Rattle.item_store.proofs.KnownSlots.{known_on}
use Rattle.item_store.proofs.store.Store.walk.Goals as goal

pub walk-requires-clause-on : goal.walk-requires-clause-on
walk-requires-clause-on g c =
    let d : Device = g.F.Flash.device c.args.flash.now in
    let area : Area = c.args.self.now.area in
    let law : IsSectorFormat (g.T.SlotSectors.format_of (geometry_of d area)) = g.met.T.SlotSectors.lawful (geometry_of d area) (unit_is d area (g.met.F.Flash.is_lawful c.args.flash.now) c.requires.stands.area.lawful) in
    record { area = c.requires.stands.area; kept = c.requires.stands.opened; current = c.requires.stands.current; known = known_on g.T.SlotSectors.role g.T.SlotSectors.format_of g.T.SlotSectors.kept d c.args.self.now law (g.met.F.Flash.is_lawful c.args.flash.now) c.requires.stands c.tops-tops.result.now c.tops-tops.ensures }
