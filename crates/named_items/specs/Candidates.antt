-- The candidate ids of a name: those at which it may stand.
use Rattle.std.specs.Prelude.{◌≡◌, ℕ, ◌+◌, ◌<◌, ◌≤◌, true, List, Option, Some, None}
use Rattle.item_laws.specs.Items.{Items}
use Rattle.named_items.specs.Numbering.{Numbering}
use Rattle.named_items.specs.Pairs.{count_in, IsInside}
use Rattle.named_items.specs.Ends.{IsFree}

-- the name may stand there
pub record IsCandidate (n : Numbering) (items : Items) (name : List ℕ) (id : ℕ) : Type 0 where
  pub inside : IsInside n items id
  pub candidate : n.is_candidate id name ≡ true

-- the least free candidate id of the name, if there is one
abbrev pub IsFreeCandidate : Numbering → Items → List ℕ → Option ℕ → Type 0
IsFreeCandidate n items name None = (id : ℕ) → IsCandidate n items name id
    → ¬ IsFree items id (id + n.step)
IsFreeCandidate n items name (Some free) =
    IsCandidate n items name free × IsFree items free (free + n.step)
    × ((id : ℕ) → IsCandidate n items name id → id < free → ¬ IsFree items id (id + n.step))

-- the candidate ids of the name are `count` in a row, the first at `from`
pub record CandidatesAre (n : Numbering) (items : Items) (name : List ℕ) (from count : ℕ) : Type 0 where
  pub low : n.first ≤ from
  pub high : from + count ≤ n.first + count_in n items
  pub candidate : (id : ℕ) → from ≤ id → id < from + count → n.is_candidate id name ≡ true
  pub only : (id : ℕ) → IsInside n items id → n.is_candidate id name ≡ true
      → (from ≤ id) × (id < from + count)
