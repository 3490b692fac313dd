-- When a ZMS store stands on the bytes of its area: the definitions of `item_store`, over the
-- sectors of ZMS.
use Rattle.std.specs.Prelude.{ℕ, ◌-◌, ◌^◌, length, min, List}
use Rattle.flash_sim.specs.Device.{Device}
use Rattle.flash_sim.specs.declared.flash.Bank.{Bank}
use Rattle.flash_map.specs.declared.area.Area.{Area}
use Rattle.flash_map.specs.declared.area.Geometry.{Geometry}
use Rattle.flash_map.specs.declared.area.Role.TheVariants.{Zms as ZmsRole}
use Rattle.flash_map.specs.Area.{geometry_of, sectors_of}
use Rattle.item_laws.specs.Items.{Items}
use Rattle.item_laws.specs.PairRounds.{live_cost}
use Rattle.item_store.specs.declared.entry.Placed.{Placed}
use Rattle.item_store.specs.SectorFormat.{SectorFormat}
use Rattle.item_store.specs.Listed as listed
use Rattle.item_store.specs.Standing as ring
use Rattle.item_store.specs.Stands as stands
use Rattle.zms_cycle.specs.Sector.{cost, cycle_of, data_end, has_gc_done, valid_slots}
use Rattle.zms_format.specs.declared.sector.Found.{Found}
use Rattle.zms_format.specs.Area.{IsPlaced}
use Rattle.zms_format.specs.Formats.{format_of}
use Rattle.zms_store.specs.declared.sectors.ZmsOpen.{ZmsOpen}
use Rattle.zms_store.specs.declared.store.Zms.{Zms}

-- how its sectors read
abbrev pub format_on : Device → Area → SectorFormat
format_on d area = format_of (geometry_of d area)

-- what is kept of the open sector, by its bytes
abbrev pub kept : Geometry → List ℕ → ZmsOpen
kept geometry b =
    record {
      gc_done = has_gc_done b;
      cycle = cycle_of b;
      slots = length (valid_slots b);
      data_end = min (data_end geometry.kind b) (2 ^ 32 - 1);
    }

-- an area on which a store may stand, on a bank of either kind
abbrev pub IsZmsArea : List Bank → Area → Type 0
IsZmsArea banks area = ring.IsStoreArea ZmsRole banks area

-- ids with their bytes, from the oldest to the newest
abbrev pub list_on : Device → Area → List (ℕ × List ℕ)
list_on d area = listed.list_on format_of d area

-- the map of ids to bytes that the area holds
abbrev pub items_on : Device → Area → Items
items_on d area = listed.items_on format_of d area

-- what all items cost, in bytes: the bytes of each, padded, and its entry
abbrev pub live_cost_on : Device → Area → ℕ
live_cost_on d area = live_cost cost (list_on d area)

-- the entries of the list, with their places
abbrev pub entries_on : Device → Area → List Placed
entries_on d area = listed.entries_on format_of d area

-- an entry of a sector that counts, as its slot has it
abbrev pub IsPlacedOn : Device → Zms → Found → Type 0
IsPlacedOn d zms p = IsPlaced (sectors_of d zms.store.area) zms.store.current p

abbrev pub IsUndamaged : Device → Area → Type 0
IsUndamaged d area = ring.IsUndamagedAt (format_on d area) d area

-- The store is up: the area is not damaged and at rest, and the store knows its open sector.
abbrev pub StandsOn : Device → Zms → Type 0
StandsOn d zms = stands.StandsOn ZmsRole format_of kept d zms.store

-- the area holds the same items, the newest versions of each stay, and it is not damaged
abbrev pub KeepsItems : Device → Device → Area → Type 0
KeepsItems old new area = ring.KeepsItems (format_on old area) (sectors_of old area) (sectors_of new area)
