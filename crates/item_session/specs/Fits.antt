-- Lines that make no room, and so drop no version.
use Rattle.std.specs.Prelude.{◌≡◌, ℕ, ⊤, true, List, ◌++◌, length}
use Rattle.flash_sim.specs.Device.{Device}
use Rattle.flash_map.specs.declared.area.Area.{Area}
use Rattle.flash_map.specs.declared.area.Geometry.{Geometry}
use Rattle.item_session.specs.declared.line.Line.{Line}
use Rattle.item_session.specs.declared.line.Line.TheVariants.{Set, Delete, Mount}
use Rattle.item_session.specs.declared.answer.Answer.{Answer}
use Rattle.item_store.specs.SectorFormat.{SectorFormat}
use Rattle.item_store.specs.Listed.{format_on, list_on}
use Rattle.item_store.specs.Room.{has_room_at}
use Rattle.item_session.specs.Device.{RestsOn}
use Rattle.item_session.specs.History.{Adds}

-- the entry of a set or of a delete fits the open sector, and a mount finds nothing to do
abbrev pub FitsOpen : (Geometry → SectorFormat) → Device → Area → Line → Type 0
FitsOpen format_of d area (Set id value) = has_room_at (format_on format_of d area) d area (length value)
    ≡ true
FitsOpen format_of d area (Delete id) = has_room_at (format_on format_of d area) d area 0 ≡ true
FitsOpen format_of d area Mount = RestsOn format_of d area
FitsOpen format_of d area line = ⊤

-- the pairs of the area are as before, except for what the line adds: each version that
-- was kept still is
pub record ForgetsNone (format_of : Geometry → SectorFormat) (area : Area) (line : Line) (answer : Answer)
    (old new : Device)
    : Type 0 where
  pub added : List (ℕ × List ℕ)
  pub adds : Adds new.spent line answer added
  pub list : list_on format_of new area ≡ list_on format_of old area ++ added
