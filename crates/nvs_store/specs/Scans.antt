-- What a scan says of an area, its list, and its damage.
use Rattle.std.specs.Prelude.{◌≡◌, ℕ, ◌+◌, ◌-◌, ◌*◌, ◌<◌, ◌≤◌, Bool, true, List, ◌∷◌, ◌++◌, length, fold, slice_range, Option, Some, None, ◌==◌, nat_le, if◌then◌else◌}
use Rattle.std.specs.List.{last_or}
use Rattle.flash_map.specs.declared.faults.Damaged.{Damaged}
use Rattle.flash_map.specs.Units.{is_erased}
use Rattle.item_laws.specs.Area.{next, is_closed_at, open_sector, first_damage}
use Rattle.flash_map.specs.Area.{sector_at, ChangesOnly}
use Rattle.item_laws.specs.Reading.{Reading}
use Rattle.item_laws.specs.Entries.{Entries}
use Rattle.item_laws.specs.Live as live
use Rattle.item_laws.specs.Walk as walk
use Rattle.nvs_store.specs.declared.scan.SlotEntry.{SlotEntry}
use Rattle.nvs_store.specs.declared.scan.Found.{Found}
use Rattle.nvs_store.specs.declared.scan.Redo.{Redo}
use Rattle.nvs_store.specs.declared.scan.Redo.TheVariants.{Nothing, EraseNext, CollectAgain}
use Rattle.nvs_store.specs.declared.scan.Scan.{Scan}
use Rattle.nvs_store.specs.Geometry.{slot_size, cost}
use Rattle.nvs_store.specs.Sector.{slot_at, used_slots, counting_entry, entries, is_wanted, pairs, low, data_end, has_gc_done, is_closed, has_fence, is_overfull, AddsPair, StopsAdding, KeepsList, MarksDone, Closes}

-- how NVS reads a sector
abbrev pub reading : ℕ → Reading
reading unit = record {
  is_blank = is_erased;
  is_closed = is_closed unit;
  has_gc_done = has_gc_done unit;
  pairs = pairs unit;
  has_fence = has_fence unit;
  is_overfull = is_overfull unit;
}

abbrev pub placed_at : ℕ → SlotEntry → Found
placed_at place found = record { sector = place; slot = found.slot; entry = found.entry }

-- how the entries of NVS stand in slots, and what they say
abbrev pub nvs : ℕ → Entries SlotEntry Found
nvs unit = record {
  reading = reading unit;
  entries = entries unit;
  in_slot = λ b n. counting_entry unit (slot_at unit b n);
  first = 1;
  slots = λ b. length (used_slots unit b);
  is_sound = λ b. true;
  placed_at = placed_at;
  sector = λ p. p.sector;
  slot = λ p. p.slot;
  id = λ p. p.entry.id;
  len = λ p. p.entry.len;
  bytes = λ b p. slice_range b p.entry.offset (p.entry.offset + p.entry.len);
  cost = cost unit;
}

-- ---- the scan

-- what the scan of one sector says, with this number
abbrev pub sector_scan : ℕ → ℕ → List ℕ → Scan
sector_scan unit place sector = record {
  current = place;
  low = low unit sector;
  data_end = data_end unit sector;
  gc_done = has_gc_done unit sector;
  redo = Nothing;
}

-- What a mount has to do with this sector open. The next sector is closed only during a garbage
-- collection.
abbrev pub redo_of : ℕ → List (List ℕ) → ℕ → Redo
redo_of unit sectors place =
    if is_closed_at (reading unit) sectors (next sectors place) then
    (if has_gc_done unit (sector_at sectors place) then EraseNext else CollectAgain) else Nothing

-- what it has to do once gc-done stands
abbrev pub marked_redo : Redo → Redo
marked_redo Nothing = Nothing
marked_redo EraseNext = EraseNext
marked_redo CollectAgain = EraseNext

-- the scan with this sector open
abbrev pub scan_at : ℕ → List (List ℕ) → ℕ → Scan
scan_at unit sectors place =
    record (sector_scan unit place (sector_at sectors place)) { redo = redo_of unit sectors place }

abbrev pub scan_of : ℕ → List (List ℕ) → Scan
scan_of unit sectors = scan_at unit sectors (open_sector (reading unit) sectors)

-- ---- room

-- the free bytes of the scanned sector, between its data and its slots
abbrev pub free : Scan → ℕ
free scan = scan.low - scan.data_end

-- Whether data of this length fits. A length of 0 is a delete. Slots stay for the close entry,
-- gc-done, a delete and the fence.
abbrev pub fits : ℕ → Scan → ℕ → Bool
fits unit scan len =
    if len == 0 then nat_le (2 * slot_size unit) (free scan) else nat_le
    (cost unit len + (if scan.gc_done then 2 else 3) * slot_size unit) (free scan)

-- ---- damage and list

abbrev pub damage_of : ℕ → List (List ℕ) → Option Damaged
damage_of unit sectors = first_damage (reading unit) sectors

-- ids with their bytes, from the oldest to the newest
abbrev pub list_of : ℕ → List (List ℕ) → List (ℕ × List ℕ)
list_of unit sectors = live.list_of (nvs unit) sectors

-- the entries of a sector with their places, if it counts with this one open
abbrev pub counted_in : ℕ → List (List ℕ) → ℕ → ℕ → List Found
counted_in unit sectors current place = live.counted_in (nvs unit) sectors current place

-- those of them in the first so many slots
abbrev pub counted_within : ℕ → List (List ℕ) → ℕ → ℕ → ℕ → List Found
counted_within unit sectors current place n = walk.counted_within (nvs unit) sectors current place n

-- the entries of the sectors before this one, and those in its first so many slots
abbrev pub placed_up_to : ℕ → List (List ℕ) → ℕ → ℕ → ℕ → List Found
placed_up_to unit sectors current place n = walk.placed_up_to (nvs unit) sectors current place n

-- the entries of the list, with their places
abbrev pub all_placed : ℕ → List (List ℕ) → List Found
all_placed unit sectors = live.all_placed (nvs unit) sectors

-- the last wanted entry
abbrev pub last_wanted : Option ℕ → List Found → Option Found
last_wanted wanted placed = fold (λ last p. if is_wanted wanted p.entry then Some p else last) None placed

-- the last entry of an id; it may be a delete
abbrev pub last_placed : ℕ → List (List ℕ) → ℕ → Option Found
last_placed unit sectors id = live.last_placed (nvs unit) sectors id

-- The next older entry of a list: the one before the entry at this place, or the newest if no place
-- is named.
abbrev pub IsNextOlder : List Found → Option (ℕ × ℕ) → Option Found → Type 0
IsNextOlder all None next = next ≡ last_or None all
IsNextOlder all (Some place) next =
    (older newer : List Found) (p : Found) → all ≡ older ++ p ∷ newer → place ≡ (p.sector, p.slot)
    → next ≡ last_or None older

-- It is an ordinary entry of one of so many sectors of this size, and its data ends in its sector.
pub record IsInArea (sectors size : ℕ) (p : Found) : Type 0 where
  pub sector : p.sector < sectors
  pub inside : p.entry.offset + p.entry.len ≤ size
  pub ordinary : p.entry.id ≡ 0xFFFF → ⊥

-- the data of an entry
abbrev pub placed_bytes : List (List ℕ) → Found → List ℕ
placed_bytes sectors p =
    slice_range (sector_at sectors p.sector) p.entry.offset (p.entry.offset + p.entry.len)

-- ---- what a step leaves

-- one sector has one more pair, and no other sector changed
pub record AddsPairAt (unit : ℕ) (old new : List (List ℕ)) (place id : ℕ) (bytes : List ℕ) : Type 0 where
  pub only : ChangesOnly old new place
  pub adds : AddsPair unit (sector_at old place) (sector_at new place) id bytes

-- the programming of that pair was cut
pub record StopsAddingAt (unit : ℕ) (old new : List (List ℕ)) (place id : ℕ) (bytes : List ℕ) : Type 0 where
  pub only : ChangesOnly old new place
  pub stops : StopsAdding unit (sector_at old place) (sector_at new place) id bytes

-- gc-done stands in one sector, and no other sector changed
pub record MarksDoneAt (unit : ℕ) (old new : List (List ℕ)) (place : ℕ) : Type 0 where
  pub only : ChangesOnly old new place
  pub marks : MarksDone unit (sector_at old place) (sector_at new place)

-- gc-done was cut: the sector's list and marks are as they were
pub record StopsMarkingAt (unit : ℕ) (old new : List (List ℕ)) (place : ℕ) : Type 0 where
  pub only : ChangesOnly old new place
  pub keeps : KeepsList unit (sector_at old place) (sector_at new place)

-- one sector is closed, and no other sector changed
pub record ClosesAt (unit : ℕ) (old new : List (List ℕ)) (place : ℕ) : Type 0 where
  pub only : ChangesOnly old new place
  pub closes : Closes unit (sector_at old place) (sector_at new place)
