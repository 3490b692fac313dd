-- Entries of the list of an area, each in its slot.
use Rattle.std.specs.Prelude.{◌≡◌, ℕ, ◌+◌, ◌-◌, ◌<◌, ◌≤◌, true, List, length, Some, ◌==◌, if◌then◌else◌}
use Rattle.std.specs.Option.{option_map}
use Rattle.flash_sim.specs.Device.{Device}
use Rattle.flash_map.specs.declared.area.Area.{Area}
use Rattle.flash_map.specs.declared.area.Geometry.{Geometry}
use Rattle.flash_map.specs.Area.{geometry_of, sector_at, sectors_of}
use Rattle.lookup_cache.specs.Places.{top_of}
use Rattle.item_laws.specs.Items.{Items}
use Rattle.item_laws.specs.Area.{counts_at}
use Rattle.item_laws.specs.Live as live
use Rattle.item_store.specs.declared.entry.Placed.{Placed}
use Rattle.item_store.specs.SectorFormat.{SectorFormat, placed_at, slots}
use Rattle.item_store.specs.Standing.{list_of, items}

-- the entry is that of its slot, in the list of its sector
pub record IsListed (k : SectorFormat) (sectors : List (List ℕ)) (p : Placed) : Type 0 where
  pub within : p.sector < length sectors
  pub from : k.first ≤ p.slot
  pub listed : p.slot < k.first + k.count (sector_at sectors p.sector)
  pub read : option_map (placed_at p.sector) (k.in_slot (sector_at sectors p.sector) p.slot) ≡ Some p

-- and its sector counts, with this one open
pub record IsPlaced (k : SectorFormat) (sectors : List (List ℕ)) (current : ℕ) (p : Placed) : Type 0 where
  pub listed : IsListed k sectors p
  pub counts : counts_at k.reading sectors current p.sector ≡ true

-- ---- an area on a device

abbrev pub format_on : (Geometry → SectorFormat) → Device → Area → SectorFormat
format_on format_of d area = format_of (geometry_of d area)

abbrev pub list_on : (Geometry → SectorFormat) → Device → Area → List (ℕ × List ℕ)
list_on format_of d area = list_of (format_on format_of d area) (sectors_of d area)

abbrev pub items_on : (Geometry → SectorFormat) → Device → Area → Items
items_on format_of d area = items (format_on format_of d area) (sectors_of d area)

-- the entries of the list, with their places
abbrev pub entries_on : (Geometry → SectorFormat) → Device → Area → List Placed
entries_on format_of d area = live.all_placed (slots (format_on format_of d area)) (sectors_of d area)

abbrev pub IsListedOn : (Geometry → SectorFormat) → Device → Area → Placed → Type 0
IsListedOn format_of d area p = IsListed (format_on format_of d area) (sectors_of d area) p

abbrev pub IsPlacedOn : (Geometry → SectorFormat) → Device → Area → ℕ → Placed → Type 0
IsPlacedOn format_of d area current p = IsPlaced (format_on format_of d area) (sectors_of d area) current p

-- the slot is one of the list of a sector
abbrev pub HasSlotOn : (Geometry → SectorFormat) → Device → Area → ℕ → ℕ → Type 0
HasSlotOn format_of d area place slot =
    let k = format_on format_of d area in
    (k.first ≤ slot) × (slot < k.first + k.count (sector_at (sectors_of d area) place))

-- the bytes of the sector's entries lie in it
abbrev pub IsWithinOn : (Geometry → SectorFormat) → Device → Area → ℕ → Type 0
IsWithinOn format_of d area place = (format_on format_of d area).within (sector_at (sectors_of d area) place)
    ≡ true

-- the list of a sector has so many slots at least
abbrev pub HasSlotsOn : (Geometry → SectorFormat) → Device → Area → ℕ → ℕ → Type 0
HasSlotsOn format_of d area place slots =
    slots ≤ (format_on format_of d area).count (sector_at (sectors_of d area) place)

-- how many slots of a list stand up to this one of it; if it is 0, none is known
abbrev pub known_to : ℕ → ℕ → ℕ
known_to first top = if top == 0 then 0 else top + 1 - first

-- the top of each sector, if it has one, is a slot of its list
abbrev pub KnowsSlots : (Geometry → SectorFormat) → Device → Area → List ℕ → Type 0
KnowsSlots format_of d area tops =
    let first = (format_on format_of d area).first in
    (place : ℕ) → HasSlotsOn format_of d area place (known_to first (top_of tops place))
