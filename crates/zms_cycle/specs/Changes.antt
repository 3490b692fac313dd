-- What a step leaves of a sector.
use Rattle.std.specs.Prelude.{◌≡◌, ◌⊎◌, ℕ, ◌+◌, ◌-◌, ◌*◌, ◌/◌, ◌%◌, ◌<◌, ◌≤◌, slice_range, nat_le, nat_lt, Bool, true, false, not, ◌&&◌, List, [], ◌∷◌, ◌++◌, length, replicate, Option, Some, if◌then◌else◌}
use Rattle.std.specs.List.{list_any}
use Rattle.std.specs.Option.{option_map_or}
use Rattle.flash_sim.specs.Device.{overwritten}
use Rattle.flash_sim.specs.declared.flash.Kind.{Kind}
use Rattle.flash_sim.specs.declared.flash.Kind.TheVariants.{Erasing, Rewritable}
use Rattle.flash_map.specs.Units.{padded_bytes, is_erased}
use Rattle.zms_cycle.specs.Entries.{decoded, fill, offset_of, close_entry, done_entry, value_entry}
use Rattle.zms_cycle.specs.declared.reading.SlotEntry.{SlotEntry}
use Rattle.zms_cycle.specs.Sector.{slot_of, is_valid_under, is_valid, cycle_of, valid_slots, is_closed, entries, has_gc_done, data_len, low, data_end, is_sound, is_fresh, can_close, pairs, part_of_list}

-- the sector with these bytes in a slot
abbrev pub with_slot : List ℕ → ℕ → List ℕ → List ℕ
with_slot sector slot bytes = overwritten sector (length sector - (slot + 1) * 16) bytes

-- On a rewritable bank: the sector with the fill unit in a slot that was valid under the cycle. On
-- an erasing bank a guard puts nothing.
abbrev pub guarded : Kind → ℕ → ℕ → List ℕ → List ℕ
guarded Rewritable cycle slot sector =
    if is_valid_under cycle (slot_of sector slot) then with_slot sector slot fill else sector
guarded Erasing cycle slot sector = sector

-- the unit that a guard takes if the slot is valid
abbrev pub guard_units : Kind → Option ℕ → ℕ → List ℕ → ℕ
guard_units Rewritable cycle slot sector = if is_valid cycle (slot_of sector slot) then 1 else 0
guard_units Erasing cycle slot sector = 0

-- the sector with a value there, if it has more than 8 bytes
abbrev pub with_value : List ℕ → ℕ → List ℕ → List ℕ
with_value sector at bytes =
    if nat_le (length bytes) 8 then sector else overwritten sector at (padded_bytes 16 bytes)

-- the slots from this one to the one before the end hold the fill unit
abbrev pub IsFilled : List ℕ → ℕ → ℕ → Type 0
IsFilled sector from end = (k : ℕ) → from ≤ k → k < end → (slot_of sector k).bytes ≡ fill

-- at most so many bytes were put there
abbrev pub HasPart : List ℕ → List ℕ → ℕ → ℕ → Type 0
HasPart old new at most = (part : List ℕ) × (length part ≤ most) × (new ≡ overwritten old at part)

-- the cycle, the slots and the marks stay
pub record KeepsSlots (old new : List ℕ) : Type 0 where
  pub long : length new ≡ length old
  pub cycle : cycle_of new ≡ cycle_of old
  pub closed : is_closed new ≡ is_closed old
  pub slots : valid_slots new ≡ valid_slots old
  pub same_entries : entries new ≡ entries old
  pub gc_done : has_gc_done new ≡ has_gc_done old
  pub lower : low new ≡ low old

-- Slot 1 and the sector's part of the list stay too. The data end rises by at most so many bytes.
pub record KeepsList (kind : Kind) (most : ℕ) (old new : List ℕ) : Type 0 where
  pub kept : KeepsSlots old new
  pub list : pairs new ≡ pairs old
  pub close_slot : (slot_of new 1).bytes ≡ (slot_of old 1).bytes
  pub end_from : data_end kind old ≤ data_end kind new
  pub end_to : data_end kind new ≤ data_end kind old + most

-- what a torn value of so many bytes may take up: on an erasing bank nothing can be programmed over
-- it
abbrev pub left_over : Kind → ℕ → ℕ
left_over Rewritable len = 0
left_over Erasing len = len

-- the sector's part of the list has one more pair
pub record AddsPair (kind : Kind) (old new : List ℕ) (id : ℕ) (bytes : List ℕ) : Type 0 where
  pub list : pairs new ≡ pairs old ++ (id, bytes) ∷ []
  pub long : length new ≡ length old
  pub cycle : cycle_of new ≡ cycle_of old
  pub closed : is_closed new ≡ is_closed old
  pub gc_done : has_gc_done new ≡ has_gc_done old
  -- the entry that was put, in what was the guard slot
  pub found : SlotEntry
  pub more : entries new ≡ entries old ++ found ∷ []
  pub slot : found.slot ≡ length (valid_slots old) + 2
  pub entry_id : found.entry.id ≡ id
  pub entry_len : found.entry.len ≡ length bytes
  -- it is the entry of this value at the old data end, of the sector's cycle
  pub of_cycle : cycle_of old ≡ Some found.entry.cycle
  pub entry : found.entry ≡ value_entry found.entry.cycle id bytes (data_end kind old)
  -- if the entry does not hold the value, its units do
  pub stored : nat_le (length bytes) 8 ≡ false
      → slice_range new (data_end kind old) (data_end kind old + data_len (length bytes))
      ≡ padded_bytes 16 bytes
  pub close_slot : (slot_of new 1).bytes ≡ (slot_of old 1).bytes
  pub lower : low new + 16 ≡ low old
  pub grown : data_end kind new ≡ data_end kind old + data_len (length bytes)
  pub sound : is_sound new ≡ true

-- gc-done stands in the sector, and its list stays
pub record MarksDone (kind : Kind) (old new : List ℕ) : Type 0 where
  pub list : pairs new ≡ pairs old
  pub long : length new ≡ length old
  pub cycle : cycle_of new ≡ cycle_of old
  pub closed : is_closed new ≡ is_closed old
  pub gc_done : has_gc_done new ≡ true
  -- what was the guard slot names the data end
  pub mark : (c : ℕ) → cycle_of old ≡ Some c
      → decoded (slot_of new (length (valid_slots old) + 2)).bytes ≡ Some (done_entry c (data_end kind old))
  pub same_entries : entries new ≡ entries old
  pub close_slot : (slot_of new 1).bytes ≡ (slot_of old 1).bytes
  pub lower : low new + 16 ≡ low old
  pub same_end : data_end kind new ≡ data_end kind old
  pub sound : is_sound new ≡ true

-- The sector is closed, and its list stays. On a rewritable bank, every unit between its values and
-- its slots holds the fill unit.
pub record Closes (kind : Kind) (old new : List ℕ) : Type 0 where
  pub list : pairs new ≡ pairs old
  pub long : length new ≡ length old
  pub cycle : cycle_of new ≡ cycle_of old
  pub closed : is_closed new ≡ true
  -- slot 1 names the start of the lowest used slot
  pub mark : (c : ℕ) → cycle_of old ≡ Some c → decoded (slot_of new 1).bytes ≡ Some (close_entry c (low old))
  pub filled : kind ≡ Rewritable
      → IsFilled new (length (valid_slots old) + 2) ((length old - data_end kind old) / 16)
  pub slots : valid_slots new ≡ valid_slots old
  pub gc_done : has_gc_done new ≡ has_gc_done old
  pub same_entries : entries new ≡ entries old
  pub lower : low new ≡ low old
  pub same_end : data_end kind new ≡ data_end kind old

-- the most units that a close takes, by the kind of the bank and what is free
abbrev pub closing_most : Kind → ℕ → ℕ
closing_most Rewritable room = room / 16 + 1
closing_most Erasing room = 1

-- a blank sector begins with cycle 1; after 255 comes 0
abbrev pub next_cycle : Option ℕ → ℕ
next_cycle cycle = option_map_or (λ c. (c + 1) % 256) cycle 1

-- The sector is used in the next cycle, not closed, and slot 2 is not valid. Slot 3, where the
-- first entry's guard may be due, stays on a rewritable bank. On an erasing bank the sector is
-- fresh.
pub record Empties (kind : Kind) (old new : List ℕ) : Type 0 where
  pub long : length new ≡ length old
  pub cycle : cycle_of new ≡ Some (next_cycle (cycle_of old))
  pub closed : is_closed new ≡ false
  pub second : is_valid_under (next_cycle (cycle_of old)) (slot_of new 2) ≡ false
  pub third : kind ≡ Rewritable → slot_of new 3 ≡ slot_of old 3
  pub slots : valid_slots new ≡ []
  pub gc_done : has_gc_done new ≡ false
  pub list : pairs new ≡ []
  pub lower : low new ≡ length new - 32
  pub same_end : data_end kind new ≡ 0
  pub closable : can_close kind new ≡ true
  pub fresh : kind ≡ Erasing → is_fresh new ≡ true
  pub sound : is_sound new ≡ true

-- the units of an emptying: the guards of slots 1 and 2, or an erase of a sector that is not
-- erased; and the empty entry
abbrev pub emptying : Kind → List ℕ → ℕ
emptying Rewritable b =
    1 + guard_units Rewritable (Some (next_cycle (cycle_of b))) 1 b
    + guard_units Rewritable (Some (next_cycle (cycle_of b))) 2 b
emptying Erasing b = if is_erased b then 1 else 2

-- the unit that the guard under the first entry after an emptying takes, by the sector before the
-- emptying
abbrev pub first_guard : Kind → List ℕ → ℕ
first_guard kind b = guard_units kind (Some (next_cycle (cycle_of b))) 3 b

-- Its gc-done, its list, and whether it is closed are as before. A sector that was overfull still
-- is, and has no list.
pub record ReadsAsBefore (old new : List ℕ) : Type 0 where
  pub closed : is_closed new ≡ is_closed old
  pub gc_done : has_gc_done new ≡ has_gc_done old
  pub list : part_of_list new ≡ part_of_list old

-- the sector is not closed and its slot 2 is not valid, so that its list is empty and it has no
-- gc-done
pub record HoldsNothing (sector : List ℕ) : Type 0 where
  pub closed : is_closed sector ≡ false
  pub second : is_valid (cycle_of sector) (slot_of sector 2) ≡ false
  pub gc_done : has_gc_done sector ≡ false
  pub list : part_of_list sector ≡ Some []

-- bytes of a value of more than 8 bytes stand in the sixteen bytes of slot 1
unfoldable pub reaches_slot_1 : ℕ → SlotEntry → Bool
reaches_slot_1 size f =
    not (nat_le f.entry.len 8) && nat_lt (offset_of f.entry) (size - 16)
    && nat_lt (size - 32) (offset_of f.entry + f.entry.len)

-- the sector's emptying guards slot 1, and bytes of a value of its entries stand there; such a
-- sector is overfull
abbrev pub guards_over_value : List ℕ → Bool
guards_over_value sector =
    is_valid_under (next_cycle (cycle_of sector)) (slot_of sector 1)
    && list_any (reaches_slot_1 (length sector)) (entries sector)

-- An emptying by guards that was cut. The sector reads as before or holds nothing. Its cycle, its
-- slots and its marks stay, and so does each value, unless the guard of slot 1 has to overwrite
-- one.
pub record StopsGuarding (old new : List ℕ) : Type 0 where
  pub either : ReadsAsBefore old new ⊎ HoldsNothing new
  pub kept : KeepsSlots old new
  pub values : guards_over_value old ≡ false → pairs new ≡ pairs old

-- An emptying that was cut. On an erasing bank, the sector is as before, or each byte is FF.
abbrev pub StopsEmptying : Kind → List ℕ → List ℕ → Type 0
StopsEmptying Rewritable old new = StopsGuarding old new
StopsEmptying Erasing old new = (new ≡ old) ⊎ (new ≡ replicate (length old) 0xFF)
