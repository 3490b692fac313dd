-- Which id is the next one with a value.
use Rattle.std.specs.Prelude.{◌≡◌, ℕ, ◌<◌, ◌≤◌, Bool, true, ◌&&◌, nat_lt, List, Option, Some, None}
use Rattle.std.specs.Option.{option_map_or}
use Rattle.std.specs.FinMap.{get}
use Rattle.item_laws.specs.Items.{Items}
use Rattle.item_laws.specs.LivePairs.{names}

-- greater than this id, if there is one
abbrev pub IsBehind : Option ℕ → ℕ → Type 0
IsBehind None id = Unit {0}
IsBehind (Some after) id = after < id

-- the least id greater than this one that has a value
abbrev pub IsNextId : Items → Option ℕ → Option ℕ → Type 0
IsNextId items after None = (id : ℕ) → IsBehind after id → get items id ≡ None
IsNextId items after (Some next) =
    IsBehind after next
    × (get items next ≡ None → ⊥)
    × ((id : ℕ) → IsBehind after id → id < next → get items id ≡ None)

-- greater than the one id and less than the other, as far as these are given
abbrev pub is_between : ℕ → Option ℕ → Option ℕ → Bool
is_between id after least =
    option_map_or (λ a. nat_lt a id) after true && option_map_or (λ l. nat_lt id l) least true

-- an id greater than this one that has a value
abbrev pub Follows : Items → Option ℕ → ℕ → Type 0
Follows items after id = IsBehind after id × (get items id ≡ None → ⊥)

-- there is an id, and it is not above this one
abbrev pub IsAtMost : Option ℕ → ℕ → Type 0
IsAtMost None id = ⊥
IsAtMost (Some least) id = least ≤ id

-- of the ids of these pairs that are greater than this one and have a value, none is below the
-- least
abbrev pub IsLeastOf : Items → Option ℕ → List (ℕ × List ℕ) → Option ℕ → Type 0
IsLeastOf items after pairs least =
    (id : ℕ) → Follows items after id → names id pairs ≡ true → IsAtMost least id
