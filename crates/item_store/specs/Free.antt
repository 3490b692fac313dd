-- Ids that have no item, each with the id a step above it, and the bits that say which have one.
use Rattle.std.specs.Prelude.{◌≡◌, ◌&&◌, ℕ, ◌+◌, ◌<◌, ◌≤◌, Bool, true, false, not, List, Option, Some, None, is_some}
use Rattle.std.specs.FinMap.{get}
use Rattle.item_laws.specs.Items.{Items}
use Rattle.item_store.specs.declared.entry.IdRange.{IdRange}
use Rattle.item_store.specs.declared.entry.Placed.{Placed}
use Rattle.item_store.specs.declared.free.Marks.{Marks}
use Rattle.item_store.specs.declared.free.Taken.{Taken}
use Rattle.item_store.specs.Latest.{last_of_id, with_bytes}
use Rattle.item_store.specs.Seen.{has_bit}

-- neither the id nor the one a step above it has an item
pub record IsFreePair (items : Items) (step id : ℕ) : Type 0 where
  pub lower : get items id ≡ None
  pub upper : get items (id + step) ≡ None

-- the least such id of a range; none if there is none
abbrev pub IsLeastFree : IdRange → ℕ → Items → Option ℕ → Type 0
IsLeastFree ids step items None = (id : ℕ) → ids.least ≤ id → id ≤ ids.most → ¬ IsFreePair items step id
IsLeastFree ids step items (Some found) =
    (ids.least ≤ found)
    × (found ≤ ids.most)
    × IsFreePair items step found
    × ((id : ℕ) → ids.least ≤ id → id < found → ¬ IsFreePair items step id)

-- ---- a bit for each candidate

-- the last of these entries with the id has bytes
abbrev pub has_item : ℕ → List Placed → Bool
has_item id placed = is_some (with_bytes (last_of_id id placed))

-- The bits are those of the 512 ids from this one on, after these entries.
pub record HasMarks (first : ℕ) (marks : Marks) (placed : List Placed) : Type 0 where
  pub same : marks.first ≡ first
  pub bit : (n : ℕ) → n < 512 → has_bit marks.bits n ≡ has_item (first + n) placed

-- The same of the ids of a range, and of those a step above them: as they were at a start.
pub record HasTaken (start taken : Taken) (placed : List Placed) : Type 0 where
  pub lower : HasMarks start.lower.first taken.lower placed
  pub upper : HasMarks start.upper.first taken.upper placed

-- neither of the two bits is set
abbrev pub is_unmarked : Taken → ℕ → Bool
is_unmarked taken n = not (has_bit taken.lower.bits n) && not (has_bit taken.upper.bits n)

-- the first such place below a count
abbrev pub IsFirstUnmarked : Taken → ℕ → Option ℕ → Type 0
IsFirstUnmarked taken count None = (n : ℕ) → n < count → is_unmarked taken n ≡ false
IsFirstUnmarked taken count (Some found) =
    (found < count)
    × (is_unmarked taken found ≡ true)
    × ((n : ℕ) → n < found → is_unmarked taken n ≡ false)
