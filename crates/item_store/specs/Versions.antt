-- The versions of an item: what a list of pairs has said of its id, the newest first.
use Rattle.std.specs.Prelude.{◌≡◌, ℕ, List, [], ◌∷◌, ◌++◌, fold, slice_get, Some, IsSome, ◌==◌, if◌then◌else◌}
use Rattle.item_laws.specs.Items.{last}

-- each has the bytes of a pair; no bytes are a delete
abbrev pub versions : List (ℕ × List ℕ) → ℕ → List (List ℕ)
versions pairs id = fold (λ older pair. if pair.0 == id then pair.1 ∷ older else older) [] pairs

-- The newest versions of each id stay, at least one if the id has a value. So the items stay.
pub record KeepsVersions (old new : List (ℕ × List ℕ)) : Type 0 where
  pub gone : ℕ → List (List ℕ)
  pub newest : (id : ℕ) → versions old id ≡ versions new id ++ gone id
  pub some : (id : ℕ) → IsSome (last old id) → versions new id ≡ [] → ⊥

-- One more pair is the newest version of its id; it may be a delete. Of the other ids, and of the
-- versions before it, the newest stay.
pub record AddsVersion (old new : List (ℕ × List ℕ)) (id : ℕ) (bytes : List ℕ) : Type 0 where
  pub newest : slice_get (versions new id) 0 ≡ Some bytes
  pub keeps : KeepsVersions (old ++ (id, bytes) ∷ []) new
