-- Which items of a store are names of settings, and which are their values.
use Rattle.std.specs.Prelude.{◌≡◌, ℕ, ◌<◌, ◌≤◌, Bool, false, List, Option, None}

pub record Numbering : Type 0 where
  -- the item that may hold a count, how many names it allows, and whether it is a count
  pub count_id : ℕ
  pub count_of : Option (List ℕ) → ℕ
  pub is_count : Option (List ℕ) → Bool
  -- the bytes of the item when it counts so many names
  pub count_bytes : ℕ → List ℕ
  -- the id of the first name, and by how much the id of a value is greater than that of its name
  pub first : ℕ
  pub step : ℕ
  -- a name may stand at this id
  pub is_candidate : ℕ → List ℕ → Bool
  -- the most bytes of a value
  pub longest : ℕ

-- The count, the names and the values have ids of their own: the count below the names, and these
-- below the values, a step apart. An item that is no count allows as many names as a missing one.
pub record IsNumbering (n : Numbering) : Type 0 where
  pub below : n.count_id < n.first
  pub apart : 0 < n.step
  pub few : (count : Option (List ℕ)) → n.count_of count ≤ n.step
  pub none : n.is_count None ≡ false
  pub other : (count : Option (List ℕ)) → n.is_count count ≡ false → n.count_of count ≡ n.count_of None
