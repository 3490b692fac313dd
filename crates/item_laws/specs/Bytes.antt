-- Looking for bytes among the items whose ids lie in a range.
use Rattle.std.specs.Prelude.{◌≡◌, ℕ, ◌≤◌, Bool, true, false, List, Option, Some, None}
use Rattle.std.specs.FinMap.{get}
use Rattle.std.specs.Ordering.{nat_cmp, is_lt}
use Rattle.std.specs.Cmp.Lexicographic.{slice_cmp}
use Rattle.item_laws.specs.Items.{Items}

-- greater than these bytes in byte order, if there are any
abbrev pub is_behind : Option (List ℕ) → List ℕ → Bool
is_behind None bytes = true
is_behind (Some after) bytes = is_lt (slice_cmp nat_cmp after bytes)

-- the item of this id, which is one from `least` to `most`, has these bytes
pub record HasBytes (least most : ℕ) (items : Items) (id : ℕ) (bytes : List ℕ) : Type 0 where
  pub from : least ≤ id
  pub to : id ≤ most
  pub has : get items id ≡ Some bytes

-- an id of the range whose item has these bytes; none if no id has
abbrev pub IsIdOf : ℕ → ℕ → Items → List ℕ → Option ℕ → Type 0
IsIdOf least most items bytes None = (id : ℕ) → ¬ HasBytes least most items id bytes
IsIdOf least most items bytes (Some id) = HasBytes least most items id bytes

-- the least bytes of an item of the range that are greater than these; none if there are none
abbrev pub IsNextOf : ℕ → ℕ → Items → Option (List ℕ) → Option (List ℕ) → Type 0
IsNextOf least most items after None =
    (id : ℕ) (bytes : List ℕ) → HasBytes least most items id bytes → is_behind after bytes ≡ false
IsNextOf least most items after (Some next) =
    ((id : ℕ) × HasBytes least most items id next)
    × (is_behind after next ≡ true)
    ×
    ((id : ℕ) (bytes : List ℕ) → HasBytes least most items id bytes → is_behind after bytes ≡ true
    → is_lt (slice_cmp nat_cmp bytes next) ≡ false)
