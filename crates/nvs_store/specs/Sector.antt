-- How one sector reads. Data grows upward from the sector's start, and slots of entries grow
-- downward from its end.
use Rattle.std.specs.Prelude.{◌≡◌, ◌⊎◌, ℕ, ◌+◌, ◌-◌, ◌%◌, ◌≤◌, max, Bool, true, false, not, ◌&&◌, ◌||◌, List, [], ◌∷◌, ◌++◌, length, take, map, fold, sum_by, slice_range, Option, Some, None, ◌==◌, nat_le, nat_lt, if◌then◌else◌}
use Rattle.std.specs.List.{filter_map, list_any}
use Rattle.std.specs.Option.{option_and_then, option_map_or}
use Rattle.flash_map.specs.Units.{padded, is_erased, written_end}
use Rattle.item_laws.specs.Slots as shared
use Rattle.item_laws.specs.Slots.{Slot}
use Rattle.nvs_store.specs.declared.entry.Entry.{Entry}
use Rattle.nvs_store.specs.declared.scan.SlotEntry.{SlotEntry}
use Rattle.nvs_store.specs.Geometry.{slot_size, cost, capacity}
use Rattle.nvs_store.specs.Entries.{decoded}

-- ---- slots

-- slot 0 is that of the close entry
abbrev pub slot_at : ℕ → List ℕ → ℕ → Slot
slot_at unit sector k = shared.slot_at (slot_size unit) sector k

abbrev pub is_used : Slot → Bool
is_used slot = not (is_erased slot.bytes)

-- slot 1 and those under it, downward
abbrev pub slots : ℕ → List ℕ → List Slot
slots unit sector = shared.slots 1 (slot_size unit) sector

-- Entries are read down to the first erased slot, the fence.
abbrev pub used_slots : ℕ → List ℕ → List Slot
used_slots unit sector = shared.used_slots is_used 1 (slot_size unit) sector

-- ---- entries

-- The entry is not a special one, and its data is aligned and ends under its own slot.
abbrev pub counts : ℕ → ℕ → Entry → Bool
counts unit start e = not (e.id == 0xFFFF) && (e.offset % unit == 0) && nat_le (e.offset + e.len) start

-- the entry in a slot, if its CRC matches and it counts
unfoldable pub counting_entry : ℕ → Slot → Option SlotEntry
counting_entry unit slot =
    option_and_then
    (λ e. if counts unit slot.start e then Some (record { slot = slot.index; entry = e }) else None)
    (decoded slot.bytes)

-- the entries that count, in slot order
abbrev pub entries : ℕ → List ℕ → List SlotEntry
entries unit sector = filter_map (counting_entry unit) (used_slots unit sector)

-- the entry of close and of gc-done
abbrev pub special_entry : ℕ → Entry
special_entry place = record { id = 0xFFFF; offset = place; len = 0; part = 0xFF }

-- the slot holds gc-done: a special entry of length 0
unfoldable pub is_gc_done : Slot → Bool
is_gc_done slot = option_map_or (λ e. (e.id == 0xFFFF) && (e.len == 0)) (decoded slot.bytes) false

abbrev pub has_gc_done : ℕ → List ℕ → Bool
has_gc_done unit sector = list_any is_gc_done (used_slots unit sector)

-- slot 0 is not all FF
abbrev pub is_closed : ℕ → List ℕ → Bool
is_closed unit sector = is_used (slot_at unit sector 0)

-- ---- room

-- the start of the lowest used slot, where slot 0 counts as used
abbrev pub low : ℕ → List ℕ → ℕ
low unit sector = shared.low is_used 1 (slot_size unit) sector

-- where an entry's data ends, padded to the unit
abbrev pub entry_end : ℕ → SlotEntry → ℕ
entry_end unit f = f.entry.offset + padded unit f.entry.len

-- where the next data goes: above the written units, the data of the entries that count, and the
-- sum of their lengths
unfoldable pub data_end : ℕ → List ℕ → ℕ
data_end unit sector =
    max (written_end unit (low unit sector - slot_size unit) sector)
    (max (fold max 0 (map (entry_end unit) (entries unit sector)))
    (sum_by (λ f. padded unit f.entry.len) (entries unit sector)))

-- ---- pairs

abbrev pub pair_of : List ℕ → SlotEntry → ℕ × List ℕ
pair_of sector f = (f.entry.id, slice_range sector f.entry.offset (f.entry.offset + f.entry.len))

-- the sector's part of the list: ids with their bytes, in the order in which they were put
abbrev pub pairs : ℕ → List ℕ → List (ℕ × List ℕ)
pairs unit sector = map (pair_of sector) (entries unit sector)

-- whether an entry is wanted: one of this id, or any
abbrev pub is_wanted : Option ℕ → Entry → Bool
is_wanted (Some id) e = e.id == id
is_wanted None e = true

-- the last wanted entry; it may be a delete
abbrev pub last_found : Option ℕ → List SlotEntry → Option SlotEntry
last_found wanted found = fold (λ last f. if is_wanted wanted f.entry then Some f else last) None found

-- those of the first so many slots
abbrev pub entries_within : ℕ → List ℕ → ℕ → List SlotEntry
entries_within unit sector n = filter_map (counting_entry unit) (take n (used_slots unit sector))

-- what the pairs with bytes cost
abbrev pub pairs_cost : ℕ → List (ℕ × List ℕ) → ℕ
pairs_cost unit pairs = sum_by (λ pair. if length pair.1 == 0 then 0 else cost unit (length pair.1)) pairs

-- ---- soundness

-- what an entry with data takes up
abbrev pub entry_cost : ℕ → SlotEntry → ℕ
entry_cost unit f = if f.entry.len == 0 then 0 else cost unit f.entry.len

-- there is an erased slot under the used ones
abbrev pub has_fence : ℕ → List ℕ → Bool
has_fence unit sector = nat_lt (length (used_slots unit sector)) (length (slots unit sector))

-- An entry that counts ends above the fence's start, or the entries with data cost more than a
-- sector has for them.
abbrev pub is_overfull : ℕ → List ℕ → Bool
is_overfull unit sector =
    list_any (λ f. nat_lt (low unit sector - slot_size unit) (f.entry.offset + f.entry.len))
    (entries unit sector)
    || nat_lt (capacity unit (length sector)) (sum_by (entry_cost unit) (entries unit sector))

-- The sector is blank, or it has a fence and is not overfull.
abbrev pub is_sound : ℕ → List ℕ → Bool
is_sound unit sector = is_erased sector || (has_fence unit sector && not (is_overfull unit sector))

-- ---- what a step leaves

-- the sector's part of the list and its marks stay
pub record KeepsList (unit : ℕ) (old new : List ℕ) : Type 0 where
  pub list : pairs unit new ≡ pairs unit old
  pub gc_done : has_gc_done unit new ≡ has_gc_done unit old
  pub closed : is_closed unit new ≡ is_closed unit old
  pub long : length new ≡ length old
  pub same_entries : entries unit new ≡ entries unit old
  -- at most one more slot is used up
  pub lower : low unit old ≤ low unit new + slot_size unit
  -- a sector that was not blank stays so
  pub used : is_erased old ≡ false → is_erased new ≡ false

-- the sector's part of the list has one more pair
pub record AddsPair (unit : ℕ) (old new : List ℕ) (id : ℕ) (bytes : List ℕ) : Type 0 where
  pub list : pairs unit new ≡ pairs unit old ++ (id, bytes) ∷ []
  pub gc_done : has_gc_done unit new ≡ has_gc_done unit old
  pub closed : is_closed unit new ≡ is_closed unit old
  pub long : length new ≡ length old
  -- the entry that was put, in what was the fence
  pub found : SlotEntry
  pub more : entries unit new ≡ entries unit old ++ found ∷ []
  pub slot : found.slot ≡ length (used_slots unit old) + 1
  pub entry_id : found.entry.id ≡ id
  pub entry_len : found.entry.len ≡ length bytes
  pub count : length (used_slots unit new) ≡ length (used_slots unit old) + 1
  pub lower : low unit new + slot_size unit ≡ low unit old
  pub grown : data_end unit new ≡ data_end unit old + padded unit (length bytes)

-- The programming of a pair was cut: the list is as it was or has the pair, and no more room is
-- used up than the pair takes.
pub record StopsAdding (unit : ℕ) (old new : List ℕ) (id : ℕ) (bytes : List ℕ) : Type 0 where
  pub list : KeepsList unit old new ⊎ AddsPair unit old new id bytes
  pub lower : low unit old ≤ low unit new + slot_size unit
  pub grown : data_end unit new ≤ data_end unit old + padded unit (length bytes)

-- gc-done stands in the sector, and its list and its entries stay
pub record MarksDone (unit : ℕ) (old new : List ℕ) : Type 0 where
  pub list : pairs unit new ≡ pairs unit old
  pub gc_done : has_gc_done unit new ≡ true
  pub closed : is_closed unit new ≡ is_closed unit old
  pub long : length new ≡ length old
  pub same_entries : entries unit new ≡ entries unit old
  pub lower : low unit new + slot_size unit ≡ low unit old
  pub same_end : data_end unit new ≡ data_end unit old

-- the sector is closed, and its list stays
pub record Closes (unit : ℕ) (old new : List ℕ) : Type 0 where
  pub list : pairs unit new ≡ pairs unit old
  pub gc_done : has_gc_done unit new ≡ has_gc_done unit old
  pub closed : is_closed unit new ≡ true
  pub long : length new ≡ length old
  pub same_slots : used_slots unit new ≡ used_slots unit old
