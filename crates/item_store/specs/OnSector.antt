-- What is said of one sector of an area, on a device. `held` is what a store keeps of the sector.
use Rattle.std.specs.Prelude.{◌≡◌, ◌⊎◌, ℕ, ◌+◌, ◌*◌, ◌<◌, ◌≤◌, true, false, List, length, Option, Some, None, IsTrue, Result, OnOk, OnErr}
use Rattle.std.specs.Option.{option_map}
use Rattle.flash_sim.specs.Device.{Device}
use Rattle.flash_map.specs.declared.area.Area.{Area}
use Rattle.flash_map.specs.declared.area.Geometry.{Geometry}
use Rattle.flash_map.specs.Area.{geometry_of, sector_at, sectors_of, ChangesOnly}
use Rattle.item_laws.specs.Area.{next, is_closed_at, ignored_place, open_sector}
use Rattle.item_laws.specs.Reading.{is_sound}
use Rattle.item_laws.specs.Live as live
use Rattle.item_store.specs.declared.entry.Placed.{Placed}
use Rattle.item_store.specs.declared.open_area.OpenArea.{OpenArea}
use Rattle.item_store.specs.SectorFormat.{Range, SectorFormat, fits, placed_at, slots}
use Rattle.item_store.specs.Listed.{format_on, HasSlotOn, KnowsSlots}
use Rattle.flash_map.specs.declared.area.Role.{Role}
use Rattle.item_store.specs.Standing.{IsStoreArea, SpendsIn, SpendsUpTo}
use Rattle.item_store.specs.Steps.{Keeps, KeepsMarks, LeavesRoom, Begins, Adds, Marks, Closes, Clears, StopsClearing}

-- the bytes of the sector at a place
abbrev pub sector_on : Device → Area → ℕ → List ℕ
sector_on d area place = sector_at (sectors_of d area) place

-- how many bytes are free in it, between its values and its slots
abbrev pub free_on : (Geometry → SectorFormat) → Device → Area → ℕ → ℕ
free_on format_of d area place = (format_on format_of d area).free (sector_on d area place)

-- the bytes of an entry
abbrev pub bytes_on : (Geometry → SectorFormat) → Device → Area → Placed → List ℕ
bytes_on format_of d area p = live.bytes_of (slots (format_on format_of d area)) (sectors_of d area) p

-- what a copy into it spends, of an entry with a value of this length
abbrev pub copy_units_on : (Geometry → SectorFormat) → Device → Area → ℕ → ℕ → Range
copy_units_on format_of d area place len =
    (format_on format_of d area).units.copy (sector_on d area place) len

-- what its emptying spends
abbrev pub clear_units_on : (Geometry → SectorFormat) → Device → Area → ℕ → Range
clear_units_on format_of d area place = (format_on format_of d area).units.clear (sector_on d area place)

-- ---- what it is

-- this is what is kept of the sector
abbrev pub IsKeptOn : {T : Type 0} → (Geometry → List ℕ → T) → Device → Area → ℕ → T → Type 0
IsKeptOn kept d area place held = held ≡ kept (geometry_of d area) (sector_on d area place)

-- after a call, by the geometry that the area had before
abbrev pub IsKeptAfter : {T : Type 0} → (Geometry → List ℕ → T) → Device → Device → Area → ℕ → T → Type 0
IsKeptAfter kept old new area place held = held ≡ kept (geometry_of old area) (sector_on new area place)

abbrev pub IsReadyOn : (Geometry → SectorFormat) → Device → Area → ℕ → Type 0
IsReadyOn format_of d area place = (format_on format_of d area).is_ready (sector_on d area place) ≡ true

abbrev pub IsSoundOn : (Geometry → SectorFormat) → Device → Area → ℕ → Type 0
IsSoundOn format_of d area place = is_sound (format_on format_of d area).reading (sector_on d area place)
    ≡ true

abbrev pub IsOpenOn : (Geometry → SectorFormat) → Device → Area → ℕ → Type 0
IsOpenOn format_of d area place = place ≡ open_sector (format_on format_of d area).reading (sectors_of d area)

abbrev pub IsNotClosedOn : (Geometry → SectorFormat) → Device → Area → ℕ → Type 0
IsNotClosedOn format_of d area place =
    is_closed_at (format_on format_of d area).reading (sectors_of d area) place ≡ false

-- whether the sector behind it is closed
abbrev pub NextIsClosedOn : (Geometry → SectorFormat) → Device → Area → ℕ → Type 0
NextIsClosedOn format_of d area place =
    is_closed_at (format_on format_of d area).reading (sectors_of d area) (next (sectors_of d area) place)
    ≡ true

abbrev pub NextIsNotClosedOn : (Geometry → SectorFormat) → Device → Area → ℕ → Type 0
NextIsNotClosedOn format_of d area place =
    is_closed_at (format_on format_of d area).reading (sectors_of d area) (next (sectors_of d area) place)
    ≡ false

-- The sector that does not count with this one open; none if the sector behind it is not closed.
abbrev pub Ignores : SectorFormat → List (List ℕ) → ℕ → Option ℕ → Type 0
Ignores k sectors current None = is_closed_at k.reading sectors (next sectors current) ≡ false
Ignores k sectors current (Some ignored) =
    (is_closed_at k.reading sectors (next sectors current) ≡ true)
    × (ignored ≡ ignored_place k.reading sectors current)

abbrev pub HasNoGcDoneOn : (Geometry → SectorFormat) → Device → Area → ℕ → Type 0
HasNoGcDoneOn format_of d area place =
    (format_on format_of d area).reading.has_gc_done (sector_on d area place) ≡ false

-- a value of this length fits it
abbrev pub FitsOn : (Geometry → SectorFormat) → Device → Area → ℕ → ℕ → Type 0
FitsOn format_of d area place len = IsTrue (fits (format_on format_of d area) (sector_on d area place) len)

-- a copy of this length and three slots more fit it
abbrev pub HasCopyRoomOn : (Geometry → SectorFormat) → Device → Area → ℕ → ℕ → Type 0
HasCopyRoomOn format_of d area place len =
    let k = format_on format_of d area in k.cost len + 3 * k.slot ≤ free_on format_of d area place

-- the entry stands in its slot
abbrev pub StandsThereOn : (Geometry → SectorFormat) → Device → Area → Placed → Type 0
StandsThereOn format_of d area p =
    option_map (placed_at p.sector) ((format_on format_of d area).in_slot (sector_on d area p.sector) p.slot)
    ≡ Some p

-- ---- what a step makes of it

abbrev pub ChangesOnlyOn : Device → Device → Area → ℕ → Type 0
ChangesOnlyOn old new area place = ChangesOnly (sectors_of old area) (sectors_of new area) place

-- a step in a sector, by the format of the area before it
abbrev pub StepOn : (SectorFormat → List ℕ → List ℕ → Type 0) → (Geometry → SectorFormat) → Device → Device
    → Area → ℕ
    → Type 0
StepOn step format_of old new area place =
    step (format_on format_of old area) (sector_on old area place) (sector_on new area place)

abbrev pub KeepsOn : (Geometry → SectorFormat) → Device → Device → Area → ℕ → Type 0
KeepsOn = StepOn Keeps

abbrev pub KeepsMarksOn : (Geometry → SectorFormat) → Device → Device → Area → ℕ → Type 0
KeepsMarksOn = StepOn KeepsMarks

abbrev pub MarksOn : (Geometry → SectorFormat) → Device → Device → Area → ℕ → Type 0
MarksOn = StepOn Marks

abbrev pub BeginsOn : (Geometry → SectorFormat) → Device → Device → Area → ℕ → Type 0
BeginsOn = StepOn Begins

abbrev pub ClosesOn : (Geometry → SectorFormat) → Device → Device → Area → ℕ → Type 0
ClosesOn = StepOn Closes

abbrev pub ClearsOn : (Geometry → SectorFormat) → Device → Device → Area → ℕ → Type 0
ClearsOn = StepOn Clears

abbrev pub StopsClearingOn : (Geometry → SectorFormat) → Device → Device → Area → ℕ → Type 0
StopsClearingOn = StepOn StopsClearing

abbrev pub AddsOn : (Geometry → SectorFormat) → Device → Device → Area → ℕ → ℕ → List ℕ → Type 0
AddsOn format_of old new area place id bytes =
    Adds (format_on format_of old area) (sector_on old area place) (sector_on new area place) id bytes

-- no more free space is lost than a value of this length and its entry cost
abbrev pub LeavesRoomOn : (Geometry → SectorFormat) → Device → Device → Area → ℕ → ℕ → Type 0
LeavesRoomOn format_of old new area place len =
    let k = format_on format_of old area in
    LeavesRoom k (sector_on old area place) (sector_on new area place) (k.cost len)

-- a sound sector stays sound
abbrev pub KeepsSoundOn : (Geometry → SectorFormat) → Device → Device → Area → ℕ → Type 0
KeepsSoundOn format_of old new area place =
    let k = format_on format_of old area in
    is_sound k.reading (sector_on old area place) ≡ true
    → is_sound k.reading (sector_on new area place) ≡ true

-- ---- what a call in the open sector asks for, and how it ends

-- The open sector of a store's area, which takes entries, with what is kept of it.
pub record IsOpenSector {T : Type 0} (role : Role) (format_of : Geometry → SectorFormat)
    (keep : Geometry → List ℕ → T)
    (d : Device) (on : Area) (place : ℕ) (held : T) : Type 0 where
  pub area : IsStoreArea role d.banks on
  pub inside : place < on.sectors
  pub kept : IsKeptOn keep d on place held
  pub ready : IsReadyOn format_of d on place
  pub opened : IsOpenOn format_of d on place

-- A store's area with one of its sectors, with what is kept of that, and with known slots.
pub record IsKeptAt {T : Type 0} (role : Role) (format_of : Geometry → SectorFormat)
    (keep : Geometry → List ℕ → T)
    (d : Device) (on : OpenArea T) : Type 0 where
  pub area : IsStoreArea role d.banks on.area.now
  pub kept : IsKeptOn keep d on.area.now on.current on.opened
  pub current : on.current < on.area.now.sectors
  pub known : KnowsSlots format_of d on.area.now on.tops.now

-- The sector is the open one.
pub record IsOpenAt {T : Type 0} (role : Role) (format_of : Geometry → SectorFormat)
    (keep : Geometry → List ℕ → T)
    (d : Device) (on : OpenArea T) : Type 0 where
  pub area : IsStoreArea role d.banks on.area.now
  pub kept : IsKeptOn keep d on.area.now on.current on.opened
  pub current : IsOpenOn format_of d on.area.now on.current
  pub known : KnowsSlots format_of d on.area.now on.tops.now

-- The sector behind it is the victim of a collection, which is not done.
pub record IsCollecting (format_of : Geometry → SectorFormat) (d : Device) (on : Area) (place : ℕ)
    : Type 0 where
  pub collecting : NextIsClosedOn format_of d on place
  pub not_done : HasNoGcDoneOn format_of d on place

-- The entry has bytes, and stands in another sector, which is sound.
pub record IsSource (format_of : Geometry → SectorFormat) (d : Device) (on : Area) (place : ℕ)
    (from : Placed) :
    Type 0 where
  pub has_source : from.sector < on.sectors
  pub other : from.sector ≡ place → ⊥
  pub source : IsSoundOn format_of d on from.sector
  pub listed : HasSlotOn format_of d on from.sector from.slot
  pub there : StandsThereOn format_of d on from
  pub some : 0 < from.len

-- How a put ends. On `Ok` the sector has one more pair. If power was lost, its list is as before or
-- has the pair.
pub record PutEnds {T X E : Type 0} (format_of : Geometry → SectorFormat) (keep : Geometry → List ℕ → T)
    (old new : Device)
    (on : Area) (place id : ℕ) (bytes : List ℕ) (held : T) (result : Result X E) : Type 0 where
  pub only : ChangesOnlyOn old new on place
  pub adds : OnOk result (AddsOn format_of old new on place id bytes)
  pub kept : OnOk result (IsKeptAfter keep old new on place held)
  pub lost : OnErr result (KeepsOn format_of old new on place ⊎ AddsOn format_of old new on place id bytes)
  pub room_lost : OnErr result (LeavesRoomOn format_of old new on place (length bytes))
  pub sound : KeepsSoundOn format_of old new on place
  pub spends : OnOk result
      (SpendsIn old new ((format_on format_of old on).units.put (sector_on old on place) (length bytes)))
  pub spends_lost : OnErr result
      (SpendsUpTo old new ((format_on format_of old on).units.put (sector_on old on place) (length bytes)))

-- gc-done stands in the sector
pub record IsMarked {T : Type 0} (format_of : Geometry → SectorFormat) (keep : Geometry → List ℕ → T)
    (old new : Device) (on : Area) (place : ℕ) (held : T) : Type 0 where
  pub marks : MarksOn format_of old new on place
  pub kept : IsKeptAfter keep old new on place held
  pub spends : SpendsIn old new ((format_on format_of old on).units.done (sector_on old on place))

-- power was lost while gc-done was programmed
pub record StopsMarking (format_of : Geometry → SectorFormat) (old new : Device) (on : Area) (place : ℕ)
    : Type 0 where
  pub lost : KeepsMarksOn format_of old new on place
  pub spends_lost : SpendsUpTo old new ((format_on format_of old on).units.done (sector_on old on place))

-- How a sector is made ready for entries. Where power was lost, its list is as before.
pub record BeginEnds {T X E : Type 0} (format_of : Geometry → SectorFormat) (keep : Geometry → List ℕ → T)
    (old new : Device) (on : Area) (place : ℕ) (held : T) (result : Result X E) : Type 0 where
  pub only : ChangesOnlyOn old new on place
  pub begins : OnOk result (BeginsOn format_of old new on place)
  pub kept : OnOk result (IsKeptAfter keep old new on place held)
  pub lost : OnErr result (KeepsOn format_of old new on place)
  pub room_lost : OnErr result
      (LeavesRoom (format_on format_of old on) (sector_on old on place) (sector_on new on place) 0)
  pub spends : OnOk result
      (SpendsIn old new ((format_on format_of old on).units.begin (sector_on old on place)))
  pub spends_lost : OnErr result
      (SpendsUpTo old new ((format_on format_of old on).units.begin (sector_on old on place)))

-- How a close ends. Where power was lost, the sector's list is as before, or the sector is closed.
pub record CloseEnds {X E : Type 0} (format_of : Geometry → SectorFormat) (old new : Device) (on : Area)
    (place : ℕ)
    (result : Result X E) : Type 0 where
  pub only : ChangesOnlyOn old new on place
  pub closes : OnOk result (ClosesOn format_of old new on place)
  pub lost : OnErr result (KeepsOn format_of old new on place ⊎ ClosesOn format_of old new on place)
  pub blank_lost : OnErr result
      ((format_on format_of old on).reading.is_blank (sector_on old on place) ≡ true
      → (sector_on new on place ≡ sector_on old on place) ⊎ ClosesOn format_of old new on place)
  pub spends : OnOk result
      (SpendsIn old new ((format_on format_of old on).units.close (sector_on old on place)))
  pub spends_lost : OnErr result
      (SpendsUpTo old new ((format_on format_of old on).units.close (sector_on old on place)))
