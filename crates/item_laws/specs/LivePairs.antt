-- What a collection copies. Lists of pairs run from the oldest pair to the newest.
use Rattle.std.specs.Prelude.{ℕ, Bool, ◌||◌, List, [], ◌∷◌, ◌++◌, length, ◌==◌, if◌then◌else◌}
use Rattle.std.specs.List.{list_any}

-- a pair of this id is in the list
abbrev pub names : ℕ → List (ℕ × List ℕ) → Bool
names id pairs = list_any (λ pair. pair.0 == id) pairs

-- The pairs of the victim that are the last of their id in `victim ++ others` and have bytes, in
-- order.
unfoldable pub live_pairs : List (ℕ × List ℕ) → List (ℕ × List ℕ) → List (ℕ × List ℕ)
live_pairs [] others = []
live_pairs (pair ∷ rest) others =
    if names pair.0 (rest ++ others)
    || (length pair.1 == 0) then live_pairs rest others else pair ∷ live_pairs rest others
