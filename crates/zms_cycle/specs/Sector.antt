-- How one sector reads. Values grow upward from its start, and slots of sixteen bytes downward from
-- its end. Slot 0 holds the empty entry, which gives the sector's cycle; slot 1 is for the close
-- entry; entries follow from slot 2.
use Rattle.std.specs.Prelude.{ℕ, ◌+◌, ◌-◌, ◌*◌, ◌%◌, max, Bool, true, false, not, ◌&&◌, ◌||◌, List, [], length, take, map, fold, sum_by, slice_range, is_some, Option, Some, None, ◌==◌, nat_le, nat_lt, if◌then◌else◌}
use Rattle.std.specs.List.{filter_map, list_all, list_any}
use Rattle.std.specs.Option.{option_and_then, option_map_or}
use Rattle.flash_sim.specs.declared.flash.Kind.{Kind}
use Rattle.flash_sim.specs.declared.flash.Kind.TheVariants.{Erasing, Rewritable}
use Rattle.flash_map.specs.Units.{padded, is_erased, written_end}
use Rattle.item_laws.specs.Slots.{Slot, slot_at, used_slots, low as low_of}
use Rattle.zms_cycle.specs.declared.entry.ZEntry.{ZEntry}
use Rattle.zms_cycle.specs.declared.reading.SlotEntry.{SlotEntry}
use Rattle.zms_cycle.specs.Entries.{decoded, offset_of, is_special, is_empty, is_close, is_done}

-- Slots and cycles.

-- slot 0 ends at the sector's end
abbrev pub slot_of : List ℕ → ℕ → Slot
slot_of sector k = slot_at 16 sector k

-- its CRC matches, and it is of this cycle
unfoldable pub is_valid_under : ℕ → Slot → Bool
is_valid_under cycle slot = option_map_or (λ e. e.cycle == cycle) (decoded slot.bytes) false

-- the cycle of the empty entry in slot 0; a sector without one is blank
unfoldable pub cycle_of : List ℕ → Option ℕ
cycle_of sector =
    option_and_then (λ e. if is_empty e then Some e.cycle else None) (decoded (slot_of sector 0).bytes)

-- valid in a sector of this cycle; in a blank one no slot is
abbrev pub is_valid : Option ℕ → Slot → Bool
is_valid cycle slot = option_map_or (λ c. is_valid_under c slot) cycle false

-- the valid slots from slot 2 down to the first one that is not valid, the guard slot
abbrev pub valid_slots : List ℕ → List Slot
valid_slots sector = used_slots (is_valid (cycle_of sector)) 2 16 sector

unfoldable pub holds_close : Slot → Bool
holds_close slot = option_map_or is_close (decoded slot.bytes) false

-- the close entry stands in slot 1 and is valid
abbrev pub is_closed : List ℕ → Bool
is_closed sector = is_valid (cycle_of sector) (slot_of sector 1) && holds_close (slot_of sector 1)

-- slot 0 holds an empty entry, and every other byte is FF
unfoldable pub is_fresh : List ℕ → Bool
is_fresh sector = is_some (cycle_of sector) && is_erased (take (length sector - 16) sector)

-- The close entry can be put into slot 1, by the kind of the bank.
unfoldable pub can_close : Kind → List ℕ → Bool
can_close Rewritable sector = true
can_close Erasing sector = is_erased (slot_of sector 1).bytes

-- Entries.

-- special entries are skipped
unfoldable pub entry_in : Slot → Option SlotEntry
entry_in slot =
    option_and_then (λ e. if is_special e then None else Some (record { slot = slot.index; entry = e }))
    (decoded slot.bytes)

-- the ordinary entries of the valid slots
abbrev pub entries : List ℕ → List SlotEntry
entries sector = filter_map entry_in (valid_slots sector)

unfoldable pub holds_done : Slot → Bool
holds_done slot = option_map_or is_done (decoded slot.bytes) false

abbrev pub has_gc_done : List ℕ → Bool
has_gc_done sector = list_any holds_done (valid_slots sector)

-- Room.

-- what a value of this length takes up besides its entry
unfoldable pub data_len : ℕ → ℕ
data_len len = if nat_le len 8 then 0 else padded 16 len

-- what a value of this length and its entry take up
abbrev pub cost : ℕ → ℕ
cost len = 16 + data_len len

-- what a sector has for values and entries: all but the slots for empty, close, gc-done, one delete
-- and the guard
abbrev pub capacity : ℕ → ℕ
capacity size = size - 80

-- the start of the lowest used slot; slot 1 counts as used
abbrev pub low : List ℕ → ℕ
low sector = low_of (is_valid (cycle_of sector)) 2 16 sector

-- the end of the value that an entry names, if it has more than 8 bytes
unfoldable pub value_end : SlotEntry → ℕ
value_end f = if nat_le f.entry.len 8 then 0 else offset_of f.entry + padded 16 f.entry.len

-- above every value, and no less than the sum of their lengths
unfoldable pub end_of : List SlotEntry → ℕ
end_of found = max (fold max 0 (map value_end found)) (sum_by (λ f. data_len f.entry.len) found)

-- On an erasing bank, the end of the last unit under the slots that is not erased: nothing can be
-- programmed over what a torn value left there. A blank sector is emptied before anything is
-- programmed.
unfoldable pub written : Kind → List ℕ → ℕ
written Rewritable sector = 0
written Erasing sector = if is_some (cycle_of sector) then written_end 16 (low sector) sector else 0

-- where the next value goes
abbrev pub data_end : Kind → List ℕ → ℕ
data_end kind sector = max (end_of (entries sector)) (written kind sector)

-- the free bytes, between the values and the slots
abbrev pub free : Kind → List ℕ → ℕ
free kind sector = low sector - data_end kind sector

-- Whether a value of this length fits; a length of 0 is a delete. Slots stay for gc-done, a delete
-- and the guard.
abbrev pub fits : Kind → List ℕ → ℕ → Bool
fits kind sector len =
    if len == 0 then nat_le 32 (free kind sector) else nat_le
    (cost len + (if has_gc_done sector then 2 else 3) * 16) (free kind sector)

-- the value stands in whole units that end at the limit or under it
unfoldable pub is_under : ℕ → SlotEntry → Bool
is_under limit f =
    if nat_le f.entry.len 8 then true else (offset_of f.entry % 16 == 0)
    && nat_le (offset_of f.entry + padded 16 f.entry.len) limit

-- there is a guard slot under the entries
abbrev pub has_guard : List ℕ → Bool
has_guard sector = nat_le 16 (low sector)

-- the sector has a guard slot, and every value stands under it
abbrev pub is_sound : List ℕ → Bool
is_sound sector = has_guard sector && list_all (is_under (low sector - 16)) (entries sector)

-- what an entry and its value take up; a delete is not counted
unfoldable pub entry_cost : SlotEntry → ℕ
entry_cost f = if f.entry.len == 0 then 0 else cost f.entry.len

-- a value stands outside whole units or passes the start of the guard slot, or the values cost more
-- than a sector has for them
unfoldable pub holds_too_much : List ℕ → Bool
holds_too_much sector =
    list_any (λ f. not (is_under (low sector - 16) f)) (entries sector)
    || nat_lt (capacity (length sector)) (sum_by entry_cost (entries sector))

-- the damage Overfull, as one sector shows it: it has no guard slot, or it holds too much
abbrev pub is_overfull : List ℕ → Bool
is_overfull sector = not (has_guard sector) || holds_too_much sector

-- Pairs.

-- the bytes that an entry gives its id
abbrev pub value_of : List ℕ → ZEntry → List ℕ
value_of sector e =
    if nat_le e.len 8 then take e.len e.tail else slice_range sector (offset_of e) (offset_of e + e.len)

abbrev pub pair_of : List ℕ → SlotEntry → ℕ × List ℕ
pair_of sector f = (f.entry.id, value_of sector f.entry)

-- ids with their bytes, in the order in which they were put
abbrev pub pairs : List ℕ → List (ℕ × List ℕ)
pairs sector = map (pair_of sector) (entries sector)

-- The sector's part of the area's list. An overfull sector has none: if it counts, the area is
-- damaged.
abbrev pub part_of_list : List ℕ → Option (List (ℕ × List ℕ))
part_of_list sector = if is_overfull sector then None else Some (pairs sector)

-- the length of the value of the ordinary entry in a slot; 0 if there is none
abbrev pub entry_len : List ℕ → ℕ → ℕ
entry_len sector slot = option_map_or (λ f. f.entry.len) (entry_in (slot_of sector slot)) 0

-- the pair of the ordinary entry in a slot
abbrev pub pair_at : List ℕ → ℕ → ℕ × List ℕ
pair_at sector slot = option_map_or (pair_of sector) (entry_in (slot_of sector slot)) (0, [])
