-- What the calls of a ZMS store spend, in numbers: units of sixteen bytes, and erases.
use Rattle.std.specs.Prelude.{◌≡◌, ℕ, ◌+◌, ◌-◌, ◌*◌, ◌/◌, true, List, length, Result, Ok, Err}
use Rattle.flash_sim.specs.Device.{Device}
use Rattle.flash_sim.specs.declared.flash.Kind.{Kind as BankKind}
use Rattle.flash_sim.specs.declared.flash.Kind.TheVariants.{Erasing, Rewritable}
use Rattle.flash_map.specs.declared.area.Area.{Area}
use Rattle.flash_map.specs.declared.faults.WriteFault.{WriteFault}
use Rattle.flash_map.specs.Area.{geometry_of, sector_at, sector_size, sectors_of}
use Rattle.flash_map.specs.Spending.{SpendsBetween}
use Rattle.item_laws.specs.Area.{next, open_sector}
use Rattle.item_laws.specs.Forms.{to_copy}
use Rattle.item_laws.specs.PairRounds.{copies_cost}
use Rattle.item_store.specs.Room as room
use Rattle.item_store.specs.Writing as writing
use Rattle.zms_cycle.specs.Sector.{cost}
use Rattle.zms_store.specs.Standing.{format_on}

-- the units of a sector
abbrev pub sector_units : Device → Area → ℕ
sector_units d area = sector_size d area / 16

-- those of a value of this length and its entry
abbrev pub entry_units : ℕ → ℕ
entry_units len = cost len / 16

-- the free bytes of a sector
abbrev pub free_at : Device → Area → ℕ → ℕ
free_at d area place = (format_on d area).free (sector_at (sectors_of d area) place)

-- the bytes of the values and entries that a collection into this sector copies: the live ones of
-- the next sector
abbrev pub copied_at : Device → Area → ℕ → ℕ
copied_at d area place = copies_cost cost (to_copy (format_on d area).reading (sectors_of d area) place)

-- A round of close and collect from this open sector, at most.
abbrev pub most_round : Device → Area → ℕ → ℕ
most_round d area place =
    (free_at d area place + 2 * copied_at d area (next (sectors_of d area) place)) / 16 + 9

-- A mount, at most.
abbrev pub most_mount : Device → Area → ℕ
most_mount d area =
    2 * copied_at d area (open_sector (format_on d area).reading (sectors_of d area)) / 16 + 8

-- ---- writing

-- a value of this length fits the open sector; a length of 0 is a delete
abbrev pub HasRoom : Device → Area → ℕ → Type 0
HasRoom d area len = room.has_room_at (format_on d area) d area len ≡ true

-- the item has these bytes
abbrev pub Holds : Device → Area → ℕ → List ℕ → Type 0
Holds d area id bytes = writing.Holds (format_on d area) d area id bytes

-- A write, at most: a round for each sector but the blank one, and the entry.
abbrev pub most_write : Device → Area → ℕ → ℕ
most_write d area len = (area.sectors - 1) * (3 * sector_units d area + 9) + entry_units len + 4

-- Bytes that the item has cost nothing. Others cost no less than their entry, where they fit the
-- open sector.
pub record SpendsWriting (old new : Device) (area : Area) (id : ℕ) (bytes : List ℕ) : Type 0 where
  pub equal : Holds old area id bytes → SpendsBetween old new 0 0
  pub fitting : ¬ Holds old area id bytes → HasRoom old area (length bytes)
      → SpendsBetween old new (entry_units (length bytes)) (entry_units (length bytes) + 4)
  pub at_most : SpendsBetween old new 0 (most_write old area (length bytes))

-- the same of a write that was refused or cut
pub record StopsSpending (old new : Device) (area : Area) (bytes : List ℕ) : Type 0 where
  pub fitting : HasRoom old area (length bytes)
      → SpendsBetween old new 0 (entry_units (length bytes) + 4)
  pub at_most : SpendsBetween old new 0 (most_write old area (length bytes))

abbrev pub WriteSpends : {T : Type 0} → Device → Device → Area → ℕ → List ℕ → Result T WriteFault → Type 0
WriteSpends old new area id bytes (Ok _) = SpendsWriting old new area id bytes
WriteSpends old new area id bytes (Err _) = StopsSpending old new area bytes

-- ---- deleting

-- A delete that needs a round, at most, by the kind of the bank and the units of a sector. Before that
-- round fewer than two slots were free, so on a rewritable bank its close takes at most two units.
abbrev pub most_delete : BankKind → ℕ → ℕ
most_delete Rewritable units = 2 * units + 5
most_delete Erasing units = units + 4

-- A delete, cut or not. One of an absent item costs nothing.
pub record DeleteSpends (old new : Device) (area : Area) (id : ℕ) : Type 0 where
  pub absent : writing.IsAbsent (format_on old area) old area id → SpendsBetween old new 0 0
  pub fitting : HasRoom old area 0 → SpendsBetween old new 0 5
  pub at_most : SpendsBetween old new 0 (most_delete (geometry_of old area).kind (sector_units old area))
