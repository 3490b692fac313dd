-- Settings in memory, as a map from names to borrowed values.
use Rattle.std.specs.Prelude.{ℕ, List, map}
use Rattle.std.specs.BTreeMap.{BTreeMap}
use Rattle.std.specs.Borrow.{Bor}

-- the names and values that such a map has, in its order
abbrev pub pairs_in : BTreeMap (List ℕ) (Bor (List ℕ)) → List (List ℕ × List ℕ)
pairs_in found = map (λ pair. (pair.0, pair.1.now)) found.entries
