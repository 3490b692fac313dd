-- When an NVS store stands on the bytes of its area: the definitions of `item_store`, over the
-- sectors of NVS.
use Rattle.std.specs.Prelude.{ℕ, List}
use Rattle.flash_sim.specs.Device.{Device}
use Rattle.flash_sim.specs.declared.flash.Bank.{Bank}
use Rattle.flash_map.specs.declared.area.Area.{Area}
use Rattle.flash_map.specs.declared.area.Geometry.{Geometry}
use Rattle.flash_map.specs.declared.area.Role.TheVariants.{Nvs as NvsRole}
use Rattle.flash_map.specs.Area.{geometry_of, unit_of, sectors_of}
use Rattle.item_laws.specs.Items.{Items}
use Rattle.item_laws.specs.PairRounds.{live_cost}
use Rattle.nvs_store.specs.declared.scan.Found.{Found}
use Rattle.nvs_store.specs.Geometry.{cost}
use Rattle.nvs_store.specs.Sector.{low, data_end, has_gc_done}
use Rattle.nvs_format.specs.Formats.{format_of}
use Rattle.nvs_gc.specs.declared.sectors.NvsOpen.{NvsOpen}
use Rattle.nvs_gc.specs.Places.{IsPlaced}
use Rattle.item_store.specs.declared.entry.Placed.{Placed}
use Rattle.item_store.specs.SectorFormat.{SectorFormat}
use Rattle.item_store.specs.Listed as listed
use Rattle.item_store.specs.Standing as ring
use Rattle.item_store.specs.Stands as stands
use Rattle.nvs_gc.specs.declared.nvs.Nvs.{Nvs}

-- how its sectors read
abbrev pub format_on : Device → Area → SectorFormat
format_on d area = format_of (geometry_of d area)

-- what is kept of the open sector, by its bytes
abbrev pub kept : Geometry → List ℕ → NvsOpen
kept geometry b =
    record {
      low = low geometry.unit b;
      data_end = data_end geometry.unit b;
      gc_done = has_gc_done geometry.unit b;
    }

-- an area on which a store may stand
abbrev pub IsNvsArea : List Bank → Area → Type 0
IsNvsArea banks area = ring.IsStoreArea NvsRole banks area

-- ids with their bytes, from the oldest to the newest
abbrev pub list_on : Device → Area → List (ℕ × List ℕ)
list_on d area = listed.list_on format_of d area

-- the map of ids to bytes that the area holds
abbrev pub items_on : Device → Area → Items
items_on d area = listed.items_on format_of d area

-- what all items cost, in bytes: the bytes of each, padded, and its entry
abbrev pub live_cost_on : Device → Area → ℕ
live_cost_on d area = live_cost (cost (unit_of d area)) (list_on d area)

-- the entries of the list, with their places
abbrev pub entries_on : Device → Area → List Placed
entries_on d area = listed.entries_on format_of d area

-- an entry of a sector that counts, as its slot has it
abbrev pub IsPlacedOn : Device → Nvs → Found → Type 0
IsPlacedOn d nvs p = IsPlaced (unit_of d nvs.store.area) (sectors_of d nvs.store.area) nvs.store.current p

abbrev pub IsUndamaged : Device → Area → Type 0
IsUndamaged d area = ring.IsUndamagedAt (format_on d area) d area

-- The store is up: the area is not damaged and at rest, and the store knows its open sector.
abbrev pub StandsOn : Device → Nvs → Type 0
StandsOn d nvs = stands.StandsOn NvsRole format_of kept d nvs.store

-- the area holds the same items, the newest versions of each stay, and it is not damaged
abbrev pub KeepsItems : Device → Device → Area → Type 0
KeepsItems old new area = ring.KeepsItems (format_on old area) (sectors_of old area) (sectors_of new area)
