use Rattle.std.proofs.Common.{ℕ, List, Some, refl}
use Rattle.flash_sim.specs.Device.{Device}
use Rattle.flash_map.specs.declared.area.Area.{Area}
use Rattle.flash_map.specs.Area.{geometry_of, sectors_of}
use Rattle.item_store.specs.SectorFormat.{SectorFormat}
use Rattle.item_store.proofs.SeenSteps.{seen_before}
use Rattle.item_store.proofs.latest.index_entry.Goals as goal

pub returns : goal.returns
returns g c =
    let d : Device = g.F.Flash.device c.args.flash.now in
    let area : Area = c.args.on.now.area.now in
    let k : SectorFormat = g.T.SlotSectors.format_of (geometry_of d area) in
    let sectors : List (List ℕ) = sectors_of d area in
    λ later at covers. record {
      covered = c.take_older.ensures k.ids later c.requires.known (c.has_later-older.ensures later at covers.ids) covers.covered;
      ids = seen_before k.ids c.args.seen.now c.add.new.self later c.args.placed.now (Some c.args.placed.now) refl c.requires.known c.add.ensures.bits c.add.ensures.mixed c.add.ensures.long covers.ids;
    }
