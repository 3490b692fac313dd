-- What holds of the ids that a loop looked at so far.
use Rattle.std.specs.Prelude.{◌≡◌, ◌⊎◌, ℕ, ◌-◌, ◌^◌, ◌<◌, Option, Some, None}
use Rattle.std.specs.FinMap.{get}
use Rattle.item_laws.specs.Items.{Items}
use Rattle.named_items.specs.Numbering.{Numbering}
use Rattle.named_items.specs.Pairs.{IsKept}

-- the id was looked at, with this one as the next
abbrev pub IsPast : Option ℕ → ℕ → Type 0
IsPast None id = Unit {0}
IsPast (Some next) id = id < next

-- how many ids are left
abbrev pub ids_left : Option ℕ → ℕ
ids_left None = 0
ids_left (Some id) = 2 ^ 32 - id

-- no id that was looked at has an orphan any more
abbrev pub HasNoneBefore : Numbering → Items → Option ℕ → Type 0
HasNoneBefore n items next = (id : ℕ) → IsPast next id → (get items id ≡ None) ⊎ IsKept n items id
