-- How the calls of a selector change its area.
use Rattle.std.specs.Prelude.{◌≡◌, ◌⊎◌, ℕ, ◌+◌, ◌-◌, ◌*◌, ◌≤◌, true, false, List, [], ◌∷◌, ◌++◌, length, Option, Some, None, Result, Ok, Err, ◌==◌, if◌then◌else◌}
use Rattle.flash_sim.specs.Device.{Device}
use Rattle.flash_map.specs.declared.area.Area.{Area}
use Rattle.flash_map.specs.declared.faults.MountFault.{MountFault}
use Rattle.flash_map.specs.declared.faults.MountFault.TheVariants.{Damaged as HasDamage, PowerLost as MountLost, NoMemory}
use Rattle.flash_map.specs.Spending.{Spends}
use Rattle.fcb_ring.specs.declared.record.RecordAt.{RecordAt}
use Rattle.fcb_ring.specs.declared.ring.Ring.{Ring}
use Rattle.fcb_ring.specs.declared.ring.Stage.TheVariants.{Ready}
use Rattle.fcb_ring.specs.declared.writing.AppendFault.{AppendFault}
use Rattle.fcb_ring.specs.declared.writing.AppendFault.TheVariants.{Full, TooLong, PowerLost}
use Rattle.fcb_ring.specs.Changing.{newest_place, sector_list, body_at, header_on, header_units, cost_on, record_units, is_scratch_left, stays_for, place_for, units_for, CanAppend, AddsRecord}
use Rattle.fcb_ring.specs.Entries.{bodies}
use Rattle.fcb_ring.specs.Standing.{StandsOn as RingStandsOn, HasEntriesOn, entries_on, ring_damage, is_up}
use Rattle.migrator.specs.declared.selecting.Selector.{Selector}
use Rattle.migrator.specs.Active.{active_in, last_record}

-- a ring that takes records and has no reserve
pub record IsOpen (d : Device) (ring : Ring) : Type 0 where
  pub stands : RingStandsOn d ring
  pub ready : ring.stage ≡ Ready
  pub reserve : ring.reserve ≡ 0

-- the body of the record that names an area
abbrev pub choice_of : ℕ → List ℕ
choice_of index = index ∷ (0xFF - index) ∷ []

-- ---- mounting

-- how a mount ends: the area shows this damage, and nothing changed; or it shows none
abbrev pub SelectorMounts : Device → Device → Area → Result Selector MountFault → Type 0
SelectorMounts old new area (Ok selector) =
    (ring_damage old area ≡ None) × IsOpen new selector.ring × (selector.ring.area ≡ area)
SelectorMounts old new area (Err (HasDamage damaged)) = (ring_damage old area ≡ Some damaged) × (new ≡ old)
SelectorMounts old new area (Err MountLost) = ring_damage old area ≡ None
SelectorMounts old new area (Err NoMemory) = ⊥

-- ---- a record that names an area

-- the active area is as before, or the one that was chosen
abbrev pub OldOrChosen : List Area → Device → Device → Area → ℕ → Type 0
OldOrChosen areas old new area index =
    (active_in areas new area ≡ active_in areas old area) ⊎ (active_in areas new area ≡ index)

-- power was lost while an area was chosen
abbrev pub ChoiceIsCut : List Area → Device → Device → Area → Ring → ℕ → Type 0
ChoiceIsCut areas old new area after index =
    OldOrChosen areas old new area index × (ring_damage new area ≡ None) × (is_up after.stage ≡ false)

-- The record that names the area fits, or a sector beside the scratch one is free. The record
-- stands after the others of the list. The record's units were spent, and those of a header if a
-- sector was opened.
pub record AddsChoice (old new : Device) (ring : Ring) (index : ℕ) : Type 0 where
  pub room : CanAppend old ring (choice_of index) 0
  pub list : AddsRecord old new ring.area (place_for old ring (choice_of index) 0) (choice_of index)
  pub units : Spends old new (units_for old ring (choice_of index) 0)

-- how the put of the record that names the area ends; it is put only if it fits
abbrev pub PutEnds : {T : Type 0} → List Area → Device → Device → Ring → Ring → ℕ → Result T AppendFault
    → Type 0
PutEnds areas old new before after index (Ok x) =
    IsOpen new after × (active_in areas new before.area ≡ index) × AddsChoice old new before index
PutEnds areas old new before after index (Err TooLong) = ⊥
PutEnds areas old new before after index (Err Full) =
    (stays_for old before (choice_of index) 0 ≡ false) × (is_scratch_left before ≡ true) × (new ≡ old)
    × (after ≡ before)
PutEnds areas old new before after index (Err PowerLost) = ChoiceIsCut areas old new before.area after index

-- how the choice of an area ends
abbrev pub ChooseEnds : {T E : Type 0} → List Area → Device → Device → Ring → Ring → ℕ → Result T E → Type 0
ChooseEnds areas old new before after index (Ok x) =
    IsOpen new after × (active_in areas new before.area ≡ index)
ChooseEnds areas old new before after index (Err lost) = ChoiceIsCut areas old new before.area after index

-- ---- a collection

-- the copies in the scratch sector: the given record, if it stands in the oldest sector
abbrev pub copies_of : Device → Ring → Option RecordAt → List (List ℕ)
copies_of d ring None = []
copies_of d ring (Some r) = if r.sector == ring.oldest then body_at d ring.area r ∷ [] else []

-- the units of these copies
abbrev pub copy_units : Device → Area → List (RecordAt × List ℕ) → ℕ
copy_units d area copies = length copies * record_units d area 2

-- The scratch sector has these copies, and the ring goes on after them.
pub record Copied (old new : Device) (before after : Ring) (last : Option RecordAt) : Type 0 where
  pub copies : bodies (sector_list new before.area (newest_place before)) ≡ copies_of old before last
  pub oldest : after.oldest ≡ before.oldest
  pub used : after.used ≡ before.used
  pub end : after.end ≤ header_on old before.area + cost_on old before.area 2

-- The list that a collection of the oldest sector leaves: the records of the other sectors, and
-- then a copy of the last record that names a store area, if that was in the oldest sector.
pub record LeavesList (areas : List Area) (old : Device) (ring : Ring) (list : List (RecordAt × List ℕ)) :
    Type 0 where
  pub rest : List (RecordAt × List ℕ)
  pub copies : List (RecordAt × List ℕ)
  pub old_list : entries_on old ring.area ≡ sector_list old ring.area ring.oldest ++ rest
  pub copied : bodies copies ≡ copies_of old ring (last_record areas (entries_on old ring.area))
  pub are : list ≡ rest ++ copies

-- the units of a collection with these copies: those of a header and of the copies, and one erase
abbrev pub collection_units : Device → Area → List (RecordAt × List ℕ) → ℕ
collection_units d area copies = header_units d area + copy_units d area copies + 1

-- the active area stays, and there is room for one more record
pub record Collected (areas : List Area) (old new : Device) (before after : Ring) : Type 0 where
  pub open_ring : IsOpen new after
  pub active : active_in areas new before.area ≡ active_in areas old before.area
  pub used : after.used ≡ before.used
  pub end : after.end ≤ header_on old before.area + cost_on old before.area 2
  pub list : LeavesList areas old before (entries_on new before.area)
  pub units : Spends old new (collection_units old before.area list.copies)

-- The oldest sector was collected, and the record that names the area stands after the list
-- that this leaves.
pub record CollectsAndAdds (areas : List Area) (old new : Device) (ring : Ring) (index : ℕ) : Type 0 where
  pub left : List (RecordAt × List ℕ)
  pub collected : LeavesList areas old ring left
  pub at : RecordAt
  pub list : HasEntriesOn new ring.area (left ++ (at, choice_of index) ∷ [])
  pub units : Spends old new (collection_units old ring.area collected.copies + record_units old ring.area 2)

-- How the choice of an area changes the list: by one record more, which names the area. If that
-- does not fit, and no sector but the scratch one is free, the oldest is collected first.
abbrev pub Chooses : List Area → Device → Device → Ring → ℕ → Type 0
Chooses areas old new ring index =
    AddsChoice old new ring index
    ⊎
    ((stays_for old ring (choice_of index) 0 ≡ false) × (is_scratch_left ring ≡ true)
    × CollectsAndAdds areas old new ring index)

-- the most units and erases of the choice of an area, whole or cut: two headers, a copy, a
-- record, and one erase
abbrev pub choice_units : Device → Area → ℕ
choice_units d area = 2 * header_units d area + 2 * record_units d area 2 + 1
