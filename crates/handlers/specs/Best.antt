-- The best subtree for a name.
use Rattle.std.specs.Prelude.{◌≡◌, ℕ, ◌<◌, ◌≤◌, Bool, ◌&&◌, nat_lt, nat_le, List, [], length, get_or, map, position, Option, Some, ◌⊎◌}
use Rattle.std.specs.List.{list_all}
use Rattle.std.specs.Option.{option_map_or}
use Rattle.setting_name.specs.Name.{parts_of}
use Rattle.setting_name.specs.Match.{matched_rest}

-- how many parts of a name a subtree matches; 0 if it does not match
abbrev pub depth : List ℕ → List ℕ → ℕ
depth name subtree = option_map_or (λ rest. length (parts_of subtree)) (matched_rest name subtree) 0

-- a number above 0 that none of these exceeds
abbrev pub is_greatest : List ℕ → ℕ → Bool
is_greatest numbers n = nat_lt 0 n && list_all (λ m. nat_le m n) numbers

-- the place of the subtree that matches the name with the most parts; the first of several
abbrev pub best : List (List ℕ) → List ℕ → Option ℕ
best subtrees name = position (is_greatest (map (depth name) subtrees)) (map (depth name) subtrees)

-- ---- where no two subtrees are the same

abbrev pub AreDistinct : List (List ℕ) → Type 0
AreDistinct subtrees =
    (i j : ℕ) → i < length subtrees → j < length subtrees → get_or subtrees i [] ≡ get_or subtrees j []
    → i ≡ j

-- it has fewer parts and fewer bytes than the other
abbrev pub IsShorter : List ℕ → List ℕ → Type 0
IsShorter subtree other =
    (length (parts_of subtree) < length (parts_of other)) × (length subtree < length other)

-- the subtree at this place matches the name, and each other one that does is shorter
pub record IsLongest (subtrees : List (List ℕ)) (name : List ℕ) (place : ℕ) : Type 0 where
  pub within : place < length subtrees
  pub rest : List ℕ
  pub matches : matched_rest name (get_or subtrees place []) ≡ Some rest
  pub others : (k : ℕ) (left : List ℕ) → k < length subtrees
      → matched_rest name (get_or subtrees k []) ≡ Some left
      → (k ≡ place) ⊎ IsShorter (get_or subtrees k []) (get_or subtrees place [])
