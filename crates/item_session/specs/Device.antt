-- What the table knows of an area on a device, for any format of sectors.
use Rattle.std.specs.Prelude.{ℕ, ◌<◌, ◌≤◌, ⊤, true, length}
use Rattle.flash_sim.specs.Device.{Device}
use Rattle.flash_map.specs.declared.area.Area.{Area}
use Rattle.flash_map.specs.declared.area.Geometry.{Geometry}
use Rattle.flash_map.specs.Area.{sector_size, value_limit}
use Rattle.item_session.specs.declared.line.Line.{Line}
use Rattle.item_session.specs.declared.line.Line.TheVariants.{Set, Get, Delete, Older}
use Rattle.item_store.specs.SectorFormat.{SectorFormat}
use Rattle.item_store.specs.Listed.{format_on, list_on}
use Rattle.item_store.specs.Room.{IsShort}
use Rattle.item_store.specs.Standing.{RestsAt}
use Rattle.item_session.specs.Step.{Rules, State}

-- the rules of a format, in an area of `sectors` sectors of `size` bytes
abbrev pub rules_of : SectorFormat → ℕ → ℕ → Rules
rules_of k size sectors = record {
  cost = k.cost;
  cap = k.cap size;
  sectors = sectors;
  round = k.units.round size;
  entry = k.units.entry;
  mount = k.units.mount size;
}

abbrev pub rules_on : (Geometry → SectorFormat) → Device → Area → Rules
rules_on format_of d area = rules_of (format_on format_of d area) (sector_size d area) area.sectors

-- the state, by the bytes and the power of the flash
abbrev pub state_of : (Geometry → SectorFormat) → Area → Device → State
state_of format_of area d = record { list = list_on format_of d area; is_on = d.is_on }

abbrev pub turned_on : Device → Device
turned_on d = record d { is_on = true }

-- nothing is left to do for a mount
abbrev pub RestsOn : (Geometry → SectorFormat) → Device → Area → Type 0
RestsOn format_of d area = RestsAt (format_on format_of d area) d area

-- each value within the area's limit fits a sector
abbrev pub TakesValues : (Geometry → SectorFormat) → Device → Area → Type 0
TakesValues format_of d area = (len : ℕ) → len ≤ value_limit area
    → IsShort (format_on format_of d area) d area len

-- the line's id is below `ids`, and its value has 1 to `limit` bytes
abbrev pub IsServed : ℕ → ℕ → Line → Type 0
IsServed ids limit (Set id value) = (id < ids) × (1 ≤ length value) × (length value ≤ limit)
IsServed ids limit (Get id) = id < ids
IsServed ids limit (Delete id) = id < ids
IsServed ids limit (Older id n) = id < ids
IsServed ids limit line = ⊤

-- the same, by the format and the limit of an area
abbrev pub IsServedOn : (Geometry → SectorFormat) → Device → Area → Line → Type 0
IsServedOn format_of d area line = IsServed (format_on format_of d area).ids (value_limit area) line
