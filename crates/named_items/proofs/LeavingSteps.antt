-- Which items a set or a delete leaves, from how its writes and deletes end.
use Rattle.std.proofs.Common.{◌≡◌, ◌⊎◌, ℕ, suc, ◌+◌, true, List, [], ◌∷◌, Some, None, Result, Ok, Err, refl, ap, ◌∙◌, inl, inr}
use Rattle.std.specs.Prelude.{take}
use Rattle.std.specs.FinMap.{insert, remove}
use Rattle.backend_api.specs.declared.backend.SetFault.{SetFault}
use Rattle.backend_api.specs.declared.backend.SetFault.TheVariants.{NoSpace, TooManyNames, PowerLost}
use Rattle.item_laws.specs.Items.{Items}
use Rattle.named_items.specs.Candidates.{IsFreeCandidate}
use Rattle.named_items.specs.Ends.{DeletesPair}
use Rattle.named_items.specs.Leaving.{put_all, pair_at_id, MakesPuts, Raises, ArePutsOfSet, SetLeavesItems, DeleteLeavesItems}
use Rattle.named_items.specs.Numbering.{Numbering}
use Rattle.named_items.specs.Pairs.{count_in, IsAt, IsIdOfName}

-- one put was cut
pub one-cut : (before after : Items) (id : ℕ) (bytes : List ℕ) → (after ≡ before) ⊎ (after ≡ insert before id bytes)
    → (done : ℕ) × (after ≡ put_all before (take done ((id, bytes) ∷ [])))
one-cut before after id bytes ends = elim ends [ inl none ↦ (0, none) | inr put ↦ (1, put) ]

module _ (n : Numbering) (before : Items) (name value : List ℕ) where
  -- the puts of a pair were cut
  pub pair-cut : (after : Items) (candidate second : ℕ) → second ≡ candidate + n.step
      → (after ≡ before) ⊎ (after ≡ insert before second value) ⊎ (after ≡ insert (insert before second value) candidate name)
      → (done : ℕ) × (after ≡ put_all before (take done (pair_at_id n candidate name value)))
  pair-cut after candidate second is ends = elim ends [
    | inl none ↦ (0, none)
    | inr more ↦ elim more [
      | inl first ↦ (1, first ∙ ap (λ (id : ℕ). insert before id value) is)
      | inr all ↦ (2, all ∙ ap (λ (id : ℕ). insert (insert before id value) candidate name) is)
    ]
  ]

  -- a set that makes its puts, or none
  pub puts-leave : {T : Type 0} (after : Items) (puts : List (ℕ × List ℕ)) (r : Result T SetFault) → ArePutsOfSet n before name value puts → MakesPuts before after puts r
      → SetLeavesItems n before after name value r
  puts-leave after puts (Ok x) are made = (puts, are, made)
  puts-leave after puts (Err (NoSpace need live)) are made = inl made
  puts-leave after puts (Err TooManyNames) are made = absurd made
  puts-leave after puts (Err PowerLost) are made = (puts, are, made)

  -- the name has a value
  pub changes : (candidate : ℕ) → IsAt n before name candidate → ArePutsOfSet n before name value ((candidate + n.step, value) ∷ [])
  changes candidate at = inl (record { candidate = candidate; at = at; are = refl })

  -- the name is new, and a candidate id is free
  pub takes : (free : ℕ) → IsIdOfName n before name None → IsFreeCandidate n before name (Some free) → ArePutsOfSet n before name value (pair_at_id n free name value)
  takes free absent least = inr (inl (record { absent = absent; free = free; least = least; are = refl }))

  -- the name is new, and no candidate id is free
  module _ (absent : IsIdOfName n before name None) (full : IsFreeCandidate n before name None) (count : List ℕ) (counts : n.is_count (Some count) ≡ true) (one_more : n.count_of (Some count) ≡ count_in n before + 1) (spelled : count ≡ n.count_bytes (count_in n before + 1)) where
    abbrev raise : List (ℕ × List ℕ)
    raise = (n.count_id, count) ∷ pair_at_id n (n.first + count_in n before) name value

    raises : Raises n before name value raise
    raises = record { absent = absent; full = full; count = count; spelled = spelled; counts = counts; one_more = one_more; are = refl }

    -- power is lost in the put of the count
    pub count-cut : (T : Type 0) (mid : Items) → (mid ≡ before) ⊎ (mid ≡ insert before n.count_id count) → SetLeavesItems {T = T} n before mid name value (Err PowerLost)
    count-cut T mid ends = elim ends [ inl none ↦ (raise, inr (inr raises), (0, none)) | inr put ↦ (raise, inr (inr raises), (1, put)) ]

    -- the count is put, and then the pair
    pub raised-leave : {T : Type 0} (mid after : Items) (candidate : ℕ) (r : Result T SetFault) → mid ≡ insert before n.count_id count → candidate ≡ n.first + count_in n before → MakesPuts mid after (pair_at_id n candidate name value) r
        → SetLeavesItems n before after name value r
    raised-leave mid after candidate (Ok x) is at made =
        (raise, inr (inr raises), made ∙ ap (λ (id : ℕ). put_all mid (pair_at_id n id name value)) at ∙ ap (λ (m : Items). put_all m (pair_at_id n (n.first + count_in n before) name value)) is)
    raised-leave mid after candidate (Err (NoSpace need live)) is at made = inr (raise, raises, made ∙ is)
    raised-leave mid after candidate (Err TooManyNames) is at made = absurd made
    raised-leave mid after candidate (Err PowerLost) is at made =
        (raise, inr (inr raises), (suc made.0, made.1 ∙ ap (λ (id : ℕ). put_all mid (take made.0 (pair_at_id n id name value))) at ∙ ap (λ (m : Items). put_all m (take made.0 (pair_at_id n (n.first + count_in n before) name value))) is))

-- a delete of a name that has a value
pub delete-leaves : {T E : Type 0} (n : Numbering) (before after : Items) (name : List ℕ) (candidate second : ℕ) (r : Result T E) → IsAt n before name candidate → second ≡ candidate + n.step → DeletesPair before after candidate second r
    → DeleteLeavesItems n before after name r
delete-leaves n before after name candidate second (Ok x) at is ends = inr (candidate, at, ends ∙ ap (remove (remove before candidate)) is)
delete-leaves n before after name candidate second (Err lost) at is ends = elim ends [
  | inl same ↦ inl same
  | inr more ↦ inr (record {
    candidate = candidate;
    at = at;
    left = elim more [ inl one ↦ inl one | inr both ↦ inr (both ∙ ap (remove (remove before candidate)) is) ];
  })
]
