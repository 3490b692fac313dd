-- Which items a set or a delete leaves.
use Rattle.std.specs.Prelude.{◌≡◌, ◌⊎◌, ℕ, ◌+◌, true, List, [], ◌∷◌, take, fold, Some, None, Result, Ok, Err}
use Rattle.std.specs.FinMap.{insert, remove}
use Rattle.backend_api.specs.declared.backend.SetFault.{SetFault}
use Rattle.backend_api.specs.declared.backend.SetFault.TheVariants.{NoSpace, TooManyNames, PowerLost}
use Rattle.item_laws.specs.Items.{Items}
use Rattle.named_items.specs.Candidates.{IsFreeCandidate}
use Rattle.named_items.specs.Numbering.{Numbering}
use Rattle.named_items.specs.Pairs.{count_in, IsAt, IsIdOfName}

-- ---- puts

-- the items after these puts of bytes at ids, in order
abbrev pub put_all : Items → List (ℕ × List ℕ) → Items
put_all items puts = fold (λ before put. insert before put.0 put.1) items puts

-- the value, and then the name at this candidate id
abbrev pub pair_at_id : Numbering → ℕ → List ℕ → List ℕ → List (ℕ × List ℕ)
pair_at_id n id name value = (id + n.step, value) ∷ (id, name) ∷ []

-- All puts are done; or there is no room, and none is; or power was lost, and the first ones are.
-- `TooManyNames` never comes.
abbrev pub MakesPuts : {T : Type 0} → Items → Items → List (ℕ × List ℕ) → Result T SetFault → Type 0
MakesPuts before after puts (Ok x) = after ≡ put_all before puts
MakesPuts before after puts (Err (NoSpace need live)) = after ≡ before
MakesPuts before after puts (Err TooManyNames) = ⊥
MakesPuts before after puts (Err PowerLost) = (done : ℕ) × (after ≡ put_all before (take done puts))

-- ---- sets

-- The name has a value: the value is put where it stands.
pub record Changes (n : Numbering) (before : Items) (name value : List ℕ) (puts : List (ℕ × List ℕ)) : Type 0
  where
    pub candidate : ℕ
    pub at : IsAt n before name candidate
    pub are : puts ≡ (candidate + n.step, value) ∷ []

-- The name is new: it goes to its least free candidate id.
pub record Takes (n : Numbering) (before : Items) (name value : List ℕ) (puts : List (ℕ × List ℕ)) : Type 0
  where
    pub absent : IsIdOfName n before name None
    pub free : ℕ
    pub least : IsFreeCandidate n before name (Some free)
    pub are : puts ≡ pair_at_id n free name value

-- The name is new, and no candidate id is free: the count rises by one, and the name goes to the id
-- that this allows, the one behind the last.
pub record Raises (n : Numbering) (before : Items) (name value : List ℕ) (puts : List (ℕ × List ℕ)) : Type 0
  where
    pub absent : IsIdOfName n before name None
    pub full : IsFreeCandidate n before name None
    pub count : List ℕ
    pub spelled : count ≡ n.count_bytes (count_in n before + 1)
    pub counts : n.is_count (Some count) ≡ true
    pub one_more : n.count_of (Some count) ≡ count_in n before + 1
    pub are : puts ≡ (n.count_id, count) ∷ pair_at_id n (n.first + count_in n before) name value

-- what a set puts, in order
abbrev pub ArePutsOfSet : Numbering → Items → List ℕ → List ℕ → List (ℕ × List ℕ) → Type 0
ArePutsOfSet n before name value puts =
    Changes n before name value puts ⊎ Takes n before name value puts ⊎ Raises n before name value puts

-- The items that a set leaves: those before with its puts. If it is refused, they are as before, or the
-- count alone is raised. If power was lost, the first of its puts are done.
abbrev pub SetLeavesItems : {T : Type 0} → Numbering → Items → Items → List ℕ → List ℕ → Result T SetFault
    → Type 0
SetLeavesItems n before after name value (Ok x) =
    (puts : List (ℕ × List ℕ)) × ArePutsOfSet n before name value puts × (after ≡ put_all before puts)
SetLeavesItems n before after name value (Err (NoSpace need live)) =
    (after ≡ before)
    ⊎ ((puts : List (ℕ × List ℕ)) × Raises n before name value puts × (after ≡ put_all before (take 1 puts)))
SetLeavesItems n before after name value (Err TooManyNames) = after ≡ before
SetLeavesItems n before after name value (Err PowerLost) =
    (puts : List (ℕ × List ℕ)) × ArePutsOfSet n before name value puts
    × ((done : ℕ) × (after ≡ put_all before (take done puts)))

-- ---- deletes

-- The name stands at this candidate id. Its item is gone, and then perhaps its value's.
pub record TakesAway (n : Numbering) (before after : Items) (name : List ℕ) : Type 0 where
  pub candidate : ℕ
  pub at : IsAt n before name candidate
  pub left : (after ≡ remove before candidate)
      ⊎ (after ≡ remove (remove before candidate) (candidate + n.step))

-- The items that a delete leaves: those before without the name and its value. If power was lost, they
-- are as before, or the name alone is gone, or both are.
abbrev pub DeleteLeavesItems : {T E : Type 0} → Numbering → Items → Items → List ℕ → Result T E → Type 0
DeleteLeavesItems n before after name (Ok x) =
    (IsIdOfName n before name None × (after ≡ before))
    ⊎ ((id : ℕ) × IsAt n before name id × (after ≡ remove (remove before id) (id + n.step)))
DeleteLeavesItems n before after name (Err lost) = (after ≡ before) ⊎ TakesAway n before after name
