-- What is said of an NVS area on a device: its scan, damage and list, and what steps make of it.
use Rattle.std.specs.Prelude.{◌≡◌, ℕ, ◌+◌, ◌/◌, ◌<◌, ◌≤◌, Bool, true, List, [], ◌∷◌, ◌++◌, Option, None, IsTrue, Result, OnOk, OnErr}
use Rattle.flash_sim.specs.Device.{Device}
use Rattle.flash_map.specs.declared.area.Area.{Area}
use Rattle.flash_map.specs.declared.faults.Damaged.{Damaged}
use Rattle.flash_map.specs.Area.{unit_of, sector_size, sectors_of, sector_bytes}
use Rattle.flash_map.specs.declared.area.Role.TheVariants.{Nvs}
use Rattle.flash_map.specs.Lawful.{IsLawfulFor}
use Rattle.flash_map.specs.Pieces.{LosesWithin}
use Rattle.flash_map.specs.Spending.{Spends, SpendsAtMost}
use Rattle.flash_map.specs.Units.{is_erased}
use Rattle.item_laws.specs.Area.{is_closed_at, counts_at, open_sector}
use Rattle.nvs_store.specs.declared.scan.Found.{Found}
use Rattle.nvs_store.specs.declared.scan.Redo.{Redo}
use Rattle.nvs_store.specs.declared.scan.Scan.{Scan}
use Rattle.nvs_store.specs.Geometry.{slot_size, cost, capacity}
use Rattle.nvs_store.specs.Images.{after_append}
use Rattle.nvs_store.specs.Sector.{is_sound}
use Rattle.nvs_store.specs.Scans.{reading, scan_of, redo_of, fits, damage_of, list_of, all_placed, counted_in, last_placed, placed_bytes, AddsPairAt, StopsAddingAt, MarksDoneAt, StopsMarkingAt, ClosesAt}

-- ---- reading

abbrev pub scan_on : Device → Area → Scan
scan_on d area = scan_of (unit_of d area) (sectors_of d area)

abbrev pub damage_on : Device → Area → Option Damaged
damage_on d area = damage_of (unit_of d area) (sectors_of d area)

abbrev pub IsUndamaged : Device → Area → Type 0
IsUndamaged d area = damage_on d area ≡ None

-- the pairs of the area, from the oldest to the newest
abbrev pub list_on : Device → Area → List (ℕ × List ℕ)
list_on d area = list_of (unit_of d area) (sectors_of d area)

-- the entries of the list, with their places
abbrev pub placed_on : Device → Area → List Found
placed_on d area = all_placed (unit_of d area) (sectors_of d area)

-- the last entry of an id; it may be a delete
abbrev pub last_placed_on : Device → Area → ℕ → Option Found
last_placed_on d area id = last_placed (unit_of d area) (sectors_of d area) id

-- the data of an entry
abbrev pub bytes_on : Device → Area → Found → List ℕ
bytes_on d area placed = placed_bytes (sectors_of d area) placed

abbrev pub open_on : Device → Area → ℕ
open_on d area = open_sector (reading (unit_of d area)) (sectors_of d area)

abbrev pub is_closed_on : Device → Area → ℕ → Bool
is_closed_on d area place = is_closed_at (reading (unit_of d area)) (sectors_of d area) place

abbrev pub is_blank_on : Device → Area → ℕ → Bool
is_blank_on d area place = is_erased (sector_bytes d area place)

-- whether a sector counts, with this one open
abbrev pub counts_on : Device → Area → ℕ → ℕ → Bool
counts_on d area current place = counts_at (reading (unit_of d area)) (sectors_of d area) current place

-- the entries of a sector, if it counts with this one open
abbrev pub counted_on : Device → Area → ℕ → ℕ → List Found
counted_on d area current place = counted_in (unit_of d area) (sectors_of d area) current place

-- what a mount has to do with this sector open
abbrev pub redo_on : Device → Area → ℕ → Redo
redo_on d area place = redo_of (unit_of d area) (sectors_of d area) place

-- ---- room and units

-- what data of this length and its entry take up, in bytes
abbrev pub cost_on : Device → Area → ℕ → ℕ
cost_on d area len = cost (unit_of d area) len

-- what a sector has for data and entries, in bytes
abbrev pub capacity_on : Device → Area → ℕ
capacity_on d area = capacity (unit_of d area) (sector_size d area)

-- data of this length fits the sector that was scanned
abbrev pub FitsOn : Device → Area → Scan → ℕ → Type 0
FitsOn d area scan len = IsTrue (fits (unit_of d area) scan len)

-- the units of data of this length and its entry
abbrev pub entry_units : Device → Area → ℕ → ℕ
entry_units d area len = cost_on d area len / unit_of d area

-- the units of a slot
abbrev pub slot_units : Device → Area → ℕ
slot_units d area = slot_size (unit_of d area) / unit_of d area

-- ---- what a step leaves

-- the list is as before
abbrev pub KeepsListOn : Device → Device → Area → Type 0
KeepsListOn old new area = list_of (unit_of old area) (sectors_of new area) ≡ list_on old area

-- the list has one more pair, this one, as its newest
abbrev pub AppendsOn : Device → Device → Area → ℕ → List ℕ → Type 0
AppendsOn old new area id bytes =
    list_of (unit_of old area) (sectors_of new area) ≡ list_on old area ++ (id, bytes) ∷ []

-- a sound sector stays sound
abbrev pub StaysSoundOn : Device → Device → Area → ℕ → Type 0
StaysSoundOn old new area place =
    is_sound (unit_of old area) (sector_bytes old area place) ≡ true
    → is_sound (unit_of old area) (sector_bytes new area place) ≡ true

-- an undamaged area stays undamaged
abbrev pub StaysUndamaged : Device → Device → Area → Type 0
StaysUndamaged old new area = IsUndamaged old area → damage_of (unit_of old area) (sectors_of new area) ≡ None

-- one sector has one more pair, and no other sector changed
abbrev pub AddsPairOn : Device → Device → Area → ℕ → ℕ → List ℕ → Type 0
AddsPairOn old new area place id bytes =
    AddsPairAt (unit_of old area) (sectors_of old area) (sectors_of new area) place id bytes

-- the programming of that pair was cut
abbrev pub StopsAddingOn : Device → Device → Area → ℕ → ℕ → List ℕ → Type 0
StopsAddingOn old new area place id bytes =
    StopsAddingAt (unit_of old area) (sectors_of old area) (sectors_of new area) place id bytes

-- gc-done stands in one sector, and no other sector changed
abbrev pub MarksDoneOn : Device → Device → Area → ℕ → Type 0
MarksDoneOn old new area place =
    MarksDoneAt (unit_of old area) (sectors_of old area) (sectors_of new area) place

-- the programming of gc-done was cut
abbrev pub StopsMarkingOn : Device → Device → Area → ℕ → Type 0
StopsMarkingOn old new area place =
    StopsMarkingAt (unit_of old area) (sectors_of old area) (sectors_of new area) place

-- one sector is closed, and no other sector changed
abbrev pub ClosesOn : Device → Device → Area → ℕ → Type 0
ClosesOn old new area place = ClosesAt (unit_of old area) (sectors_of old area) (sectors_of new area) place

-- ---- what a call in the open sector asks for, and how it ends

-- The area of a store, with the scan that a mount makes of it.
pub record IsScanned (d : Device) (on : Area) (held : Scan) : Type 0 where
  pub lawful : IsLawfulFor d.banks on
  pub role : on.role ≡ Nvs
  pub scan : held ≡ scan_on d on

-- An ordinary entry of another sector, whose data ends in that sector.
pub record IsSource (d : Device) (on : Area) (held : Scan) (from : Found) : Type 0 where
  pub has_source : from.sector < on.sectors
  pub other : from.sector ≡ held.current → ⊥
  pub ordinary : from.entry.id < 0xFFFF
  pub inside : from.entry.offset + from.entry.len ≤ sector_size d on

-- the most bytes that one call of an append programs, and one of a copy
abbrev pub append_piece : ℕ
append_piece = 400

abbrev pub copy_piece : ℕ
copy_piece = 32

-- How a call ends that puts a pair in the open sector, in calls of at most so many bytes. It got the
-- scan `before` and left `after`.
pub record PairEnds {X E : Type 0} (piece : ℕ) (old new : Device) (on : Area) (before after : Scan)
    (id len : ℕ) (bytes : List ℕ) (result : Result X E) : Type 0 where
  pub ok : OnOk result (AddsPairOn old new on before.current id bytes)
  pub image : OnOk result
      (sector_bytes new on before.current
      ≡ after_append (unit_of old on) (sector_bytes old on before.current) id bytes)
  pub scan : OnOk result (after ≡ scan_on new on)
  pub spent : OnOk result (Spends old new (entry_units old on len))
  pub lost : OnErr result (StopsAddingOn old new on before.current id bytes)
  pub in_pieces : OnErr result (LosesWithin piece old new)
  pub spent_at_most : OnErr result (SpendsAtMost old new (entry_units old on len))
