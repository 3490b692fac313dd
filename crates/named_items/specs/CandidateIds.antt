-- The ids at which names may stand.
use Rattle.std.specs.Prelude.{◌≡◌, ℕ, ◌+◌, ◌<◌, ◌≤◌, true, List}
use Rattle.item_laws.specs.Items.{Items}
use Rattle.named_items.specs.Numbering.{Numbering}
use Rattle.named_items.specs.Candidates.{IsCandidate}
use Rattle.named_items.specs.Pairs.{IsInside}
use Rattle.item_store.specs.declared.lasts.TheConstants.{MOST_IDS}
use Rattle.item_store.specs.declared.entry.IdRange.{IdRange}

-- These ids are for names, not for a count or a value. They and the ids of their values are below
-- `top`. There are at most `MOST_IDS` of them.
pub record AreOfNames (n : Numbering) (top : ℕ) (ids : IdRange) : Type 0 where
  pub from : n.first ≤ ids.least
  pub to : ids.most < n.first + n.step
  pub least : ids.least < top
  pub most : ids.most + n.step < top
  pub few : ids.most < ids.least + MOST_IDS

-- the id is one of these
pub record IsCandidateId (ids : IdRange) (id : ℕ) : Type 0 where
  pub from : ids.least ≤ id
  pub to : id ≤ ids.most

-- each candidate id of the name, up to the count, is one of these
abbrev pub HasCandidates : Numbering → List ℕ → IdRange → Type 0
HasCandidates n name ids =
    (items : Items) (id : ℕ) → IsInside n items id → n.is_candidate id name ≡ true
    → IsCandidateId ids id

-- each id of names up to the count is one of these
abbrev pub HasAllCandidates : Numbering → IdRange → Type 0
HasAllCandidates n ids = (items : Items) (id : ℕ) → IsInside n items id → IsCandidateId ids id

-- at each of these ids the name may stand, by the count of some items
abbrev pub HasOnlyCandidates : Numbering → List ℕ → IdRange → Type 0
HasOnlyCandidates n name ids = (id : ℕ) → IsCandidateId ids id
    → (items : Items) × IsCandidate n items name id

-- each of these is an id of names, by the count of some items
abbrev pub HasOnlyNameIds : Numbering → IdRange → Type 0
HasOnlyNameIds n ids = (id : ℕ) → IsCandidateId ids id → (items : Items) × IsInside n items id
