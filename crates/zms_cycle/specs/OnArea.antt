-- What holds of a sector of an area on a flash, and what a call makes of it.
use Rattle.std.specs.Prelude.{◌≡◌, ◌≢◌, ℕ, ◌+◌, ◌/◌, ◌%◌, ◌<◌, ◌≤◌, List, length, IsSome, IsTrue, Result, OnOk, OnErr}
use Rattle.flash_sim.specs.Device.{Device}
use Rattle.flash_map.specs.declared.area.Area.{Area}
use Rattle.flash_sim.specs.declared.flash.Kind.{Kind}
use Rattle.flash_sim.specs.declared.flash.Kind.TheVariants.{Erasing, Rewritable}
use Rattle.flash_map.specs.Area.{sector_size, sectors_of, sector_bytes}
use Rattle.flash_map.specs.Copies.{pieces_of}
use Rattle.flash_map.specs.Pieces.{LosesWithin}
use Rattle.flash_map.specs.Spending.{SpendsBetween}
use Rattle.zms_cycle.specs.declared.reading.TheConstants.{SLOT}
use Rattle.zms_cycle.specs.Areas.{IsZmsSector, CanPutAt, kind_on}
use Rattle.zms_cycle.specs.Changes.{HasPart, guard_units, emptying, first_guard, KeepsList, left_over, AddsPair, closing_most}
use Rattle.zms_cycle.specs.Sector.{cycle_of, valid_slots, entry_len, pair_at, cost, data_len, free, is_sound, can_close, fits}

-- the sector has a cycle
abbrev pub IsUsedOn : Device → Area → ℕ → Type 0
IsUsedOn d area sector = IsSome (cycle_of (sector_bytes d area sector))

abbrev pub IsSoundOn : Device → Area → ℕ → Type 0
IsSoundOn d area sector = IsTrue (is_sound (sector_bytes d area sector))

-- a value of this length fits; a length of 0 is a delete
abbrev pub FitsOn : Device → Area → ℕ → ℕ → Type 0
FitsOn d area sector len = IsTrue (fits (kind_on d area) (sector_bytes d area sector) len)

-- the close entry can be put
abbrev pub IsClosableOn : Device → Area → ℕ → Type 0
IsClosableOn d area sector = IsTrue (can_close (kind_on d area) (sector_bytes d area sector))

-- the free bytes of the sector
abbrev pub free_on : Device → Area → ℕ → ℕ
free_on d area sector = free (kind_on d area) (sector_bytes d area sector)

-- The entry in a slot of the sector's list.

abbrev pub IsListedOn : Device → Area → ℕ → ℕ → Type 0
IsListedOn d area sector slot = slot < length (valid_slots (sector_bytes d area sector)) + 2

abbrev pub entry_len_on : Device → Area → ℕ → ℕ → ℕ
entry_len_on d area sector slot = entry_len (sector_bytes d area sector) slot

-- What a call makes of the sector.

-- by the kind of its bank
abbrev pub Makes : (Kind → List ℕ → List ℕ → Type 0) → Device → Device → Area → ℕ → Type 0
Makes step old new area sector =
    step (kind_on old area) (sector_bytes old area sector) (sector_bytes new area sector)

-- its list and marks stay, and at most so many free bytes are lost
abbrev pub Keeps : ℕ → Device → Device → Area → ℕ → Type 0
Keeps most old new area sector = Makes (λ kind. KeepsList kind most) old new area sector

-- the same if a value of this length may be torn
abbrev pub KeepsBut : ℕ → Device → Device → Area → ℕ → Type 0
KeepsBut len old new area sector = Keeps (left_over (kind_on old area) (data_len len)) old new area sector

-- the pair joins its list
abbrev pub Adds : Device → Device → Area → ℕ → ℕ → List ℕ → Type 0
Adds old new area sector id bytes =
    AddsPair (kind_on old area) (sector_bytes old area sector) (sector_bytes new area sector) id bytes

-- the pair of a slot of another sector joins its list
abbrev pub Copies : Device → Device → Area → ℕ → ℕ → ℕ → Type 0
Copies old new area sector from_sector from_slot =
    let pair = pair_at (sector_bytes old area from_sector) from_slot in
    AddsPair (kind_on old area) (sector_bytes old area sector) (sector_bytes new area sector) pair.0 pair.1

-- Units.

-- a value of this length and its entry
abbrev pub entry_units : ℕ → ℕ
entry_units len = cost len / 16

-- the guard under the next entry
abbrev pub next_guard : Device → Area → ℕ → ℕ
next_guard d area sector =
    let b = sector_bytes d area sector in
    guard_units (kind_on d area) (cycle_of b) (length (valid_slots b) + 2 + 1) b

abbrev pub emptying_units : Device → Area → ℕ → ℕ
emptying_units d area sector = emptying (kind_on d area) (sector_bytes d area sector)

-- the guard under the first entry after the sector is emptied
abbrev pub first_guard_units : Device → Area → ℕ → ℕ
first_guard_units d area sector = first_guard (kind_on d area) (sector_bytes d area sector)

-- a close, at most
abbrev pub closing_units : Device → Area → ℕ → ℕ
closing_units d area sector = closing_most (kind_on d area) (free_on d area sector)

-- ---- what a call asks for, and how it ends

-- So many bytes can be programmed there.
pub record HasPlace (d : Device) (on : Area) (sector at len : ℕ) : Type 0 where
  pub fits : at + len ≤ sector_size d on
  pub aligned : at % 16 ≡ 0
  pub erased : CanPutAt d on sector at len

-- An entry with a value, in the list of another sector, which is sound.
pub record IsSource (d : Device) (on : Area) (sector from_sector from_slot : ℕ) : Type 0 where
  pub from_zms : IsZmsSector d on from_sector
  pub from_sound : IsSoundOn d on from_sector
  pub other : from_sector ≢ sector
  pub from : 2 ≤ from_slot
  pub listed : IsListedOn d on from_sector from_slot
  pub some : 0 < entry_len_on d on from_sector from_slot

-- The units of one slot, at most one. A power loss changes no byte.
pub record UnitEnds {X E : Type 0} (units : ℕ) (old new : Device) (on : Area) (result : Result X E) :
    Type 0 where
  pub few : units ≤ 1
  pub lost : OnErr result (sectors_of new on ≡ sectors_of old on)
  pub spends : OnOk result (SpendsBetween old new units units)
  pub in_pieces : OnErr result (LosesWithin SLOT old new)
  pub spends_lost : OnErr result (SpendsBetween old new 0 0)

-- one view on a rewritable bank, and none on an erasing one
pub record ReadsGuard (kind : Kind) (before after : ℕ) : Type 0 where
  pub step : kind ≡ Rewritable → after ≡ before + 1
  pub no_step : kind ≡ Erasing → after ≡ before

-- at most one view on a rewritable bank, and none on an erasing one
pub record ViewsAtMostOnce (kind : Kind) (before after : ℕ) : Type 0 where
  pub step : after ≤ before + 1
  pub no_step : kind ≡ Erasing → after ≡ before

-- how many slots a guard looks at
abbrev pub guard_views : Kind → ℕ
guard_views Rewritable = 1
guard_views Erasing = 0

-- How many views the copy of an entry with a value of this length makes: one for the entry, one for
-- each piece of its value, and those for the slot of its guard.
abbrev pub copy_views : Kind → ℕ → ℕ
copy_views kind len = 1 + pieces_of (data_len len) + guard_views kind

-- Bytes that are programmed piece by piece. A power loss leaves a part of them.
pub record BytesEnd {X E : Type 0} (piece : ℕ) (old new : Device) (on : Area) (sector at len : ℕ)
    (result : Result X E) : Type 0 where
  pub lost : OnErr result (HasPart (sector_bytes old on sector) (sector_bytes new on sector) at len)
  pub spends : OnOk result (SpendsBetween old new (len / 16) (len / 16))
  pub in_pieces : OnErr result (LosesWithin piece old new)
  pub spends_lost : OnErr result (SpendsBetween old new 0 (len / 16))

-- An entry behind its value of this length, which is programmed piece by piece. A power loss keeps
-- the list.
pub record EntryEnds {X E : Type 0} (piece len : ℕ) (old new : Device) (on : Area) (sector : ℕ)
    (result : Result X E) : Type 0 where
  pub lost : OnErr result (KeepsBut len old new on sector)
  pub spends : OnOk result (SpendsBetween old new (entry_units len) (entry_units len + 1))
  pub guards : OnOk result
      (SpendsBetween old new (entry_units len + next_guard old on sector)
      (entry_units len + next_guard old on sector))
  pub in_pieces : OnErr result (LosesWithin piece old new)
  pub spends_lost : OnErr result (SpendsBetween old new 0 (entry_units len))

-- gc-done in what was the guard slot. A power loss keeps the list.
pub record DoneEnds {X E : Type 0} (old new : Device) (on : Area) (sector : ℕ) (result : Result X E) :
    Type 0 where
  pub lost : OnErr result (Keeps 0 old new on sector)
  pub spends : OnOk result (SpendsBetween old new 1 2)
  pub guards : OnOk result
      (SpendsBetween old new (1 + next_guard old on sector) (1 + next_guard old on sector))
  pub in_pieces : OnErr result (LosesWithin SLOT old new)
  pub spends_lost : OnErr result (SpendsBetween old new 0 1)

-- The fill of what is free, and the close entry. A power loss keeps the list. On an erasing bank it
-- changes no byte of the sector.
pub record CloseEnds {X E : Type 0} (old new : Device) (on : Area) (sector : ℕ) (result : Result X E) :
    Type 0 where
  pub lost : OnErr result (Keeps 0 old new on sector)
  pub idle_lost : kind_on old on ≡ Erasing
      → OnErr result (sector_bytes new on sector ≡ sector_bytes old on sector)
  pub spends : OnOk result (SpendsBetween old new 1 (closing_units old on sector))
  pub spends_lost : OnErr result (SpendsBetween old new 0 (closing_units old on sector))
