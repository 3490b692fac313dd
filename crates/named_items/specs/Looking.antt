-- What two items say of a name.
use Rattle.std.specs.Prelude.{◌≡◌, ℕ, ◌+◌, ◌<◌, ◌≤◌, Bool, true, false, ◌&&◌, List, length, Option, Some, None, nat_le}
use Rattle.std.specs.FinMap.{get}
use Rattle.item_laws.specs.Items.{Items}
use Rattle.named_items.specs.Numbering.{Numbering}

-- a value of 1 to `longest` bytes
abbrev pub is_value : ℕ → Option (List ℕ) → Bool
is_value longest None = false
is_value longest (Some value) = nat_le 1 (length value) && nat_le (length value) longest

-- the first item is this name, and the second a value of at most `longest` bytes
pub record IsHere (longest : ℕ) (first second : Option (List ℕ)) (name : List ℕ) : Type 0 where
  pub named : first ≡ Some name
  pub valued : is_value longest second ≡ true

abbrev pub StandsHere : ℕ → Items → ℕ → ℕ → List ℕ → Type 0
StandsHere longest items first second name = IsHere longest (get items first) (get items second) name

-- the ids of a store are those below `top`
pub record HasIds (top : ℕ) (is_id : ℕ → Type 0) : Type 0 where
  pub all : (id : ℕ) → id < top → is_id id
  pub only : (id : ℕ) → is_id id → id < top

-- the id is for a name, not for the count or a value
pub record IsForName (n : Numbering) (id : ℕ) : Type 0 where
  pub from : n.first ≤ id
  pub to : id < n.first + n.step
