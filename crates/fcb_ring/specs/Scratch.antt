-- The scratch sector while a collection copies records into it.
use Rattle.std.specs.Prelude.{◌≡◌, []}
use Rattle.flash_sim.specs.Device.{Device}
use Rattle.flash_map.specs.Area.{OthersStay}
use Rattle.fcb_ring.specs.declared.ring.Ring.{Ring}
use Rattle.fcb_ring.specs.declared.ring.Stage.TheVariants.{Collecting}
use Rattle.fcb_ring.specs.Changing.{newest_place, header_on, sector_list}
use Rattle.fcb_ring.specs.Standing.{StandsOn, KeepsEntries}

-- The scratch sector is open, and has no copies yet.
pub record HasEmptyScratch (d : Device) (ring : Ring) : Type 0 where
  pub stands : StandsOn d ring
  pub collecting : ring.stage ≡ Collecting
  pub no_copies : sector_list d ring.area (newest_place ring) ≡ []
  pub end : ring.end ≡ header_on d ring.area

-- Only the scratch sector changes, which does not count yet. The list stays.
pub record ChangesScratch (old new : Device) (before after : Ring) : Type 0 where
  pub list : KeepsEntries old new before.area
  pub others : OthersStay old new before.area (newest_place before)
  pub area : after.area ≡ before.area
  pub reserve : after.reserve ≡ before.reserve
