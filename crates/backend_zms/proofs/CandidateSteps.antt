-- What the 16 ids of a group say of a name.
use Rattle.std.proofs.Common.{◌≡◌, ◌⊎◌, ℕ, ◌+◌, ◌-◌, ◌<◌, ◌≤◌, List, Some, None, sym, ap, subst, ◌∙◌, inl, inr, arith}
use Rattle.std.specs.FinMap.{get}
use Rattle.std.proofs.lemmas.Bool.{false≢true}
use Rattle.setting_name.specs.Name.{IsName}
use Rattle.item_laws.specs.Costs.{items_cost}
use Rattle.item_laws.specs.Items.{Items}
use Rattle.named_items.specs.Cost.{item_cost, settings_cost}
use Rattle.named_items.specs.Candidates.{CandidatesAre}
use Rattle.named_items.specs.Numbering.{Numbering}
use Rattle.named_items.specs.Pairs.{pair_at, settings_in, HasName, IsAt, IsKept, IsIdOfName, HasNoOrphans}
use Rattle.named_items.proofs.CostLemmas.{clean-cost}
use Rattle.named_items.proofs.CandidateLemmas.{least-candidate, nowhere-candidate}
use Rattle.named_items.proofs.PairLemmas.{pair-made}
use Rattle.named_items.specs.Looking.{StandsHere}
use Rattle.named_items.proofs.LookupSteps.{at-lawful, here-has}
use Rattle.named_items.proofs.OrphanSteps.{named-at}
use Rattle.backend_zms.specs.Hash.{first_of}
use Rattle.backend_zms.specs.IdLayout.{name_ids, zms_numbering, zms-numbering}
use Rattle.backend_zms.proofs.GroupLemmas.{all-ids, group-candidates}

some_none : (x : List ℕ) → Some x ≡ None → ⊥
some_none x e = cc

module _ (limit : ℕ) (items : Items) where
  abbrev n : Numbering
  n = zms_numbering limit

  module _ (name : List ℕ) (from : ℕ) (is : from ≡ first_of name) where
    candidates : CandidatesAre n items name from 16
    candidates = subst (λ (k : ℕ). CandidatesAre n items name k 16) (sym is) (group-candidates limit items name)

    -- the least id with the name
    pub found-at : (candidate : ℕ) → from ≤ candidate → candidate < from + 16 → IsName name → StandsHere limit items candidate (candidate + 0x40000000) name → ((k : ℕ) → from ≤ k → k < candidate → ¬ HasName (pair_at n items k) name) → IsAt n items name candidate
    found-at candidate low high named here none =
        least-candidate n items name from 16 candidates candidate low high (here-has n candidate name (get items candidate) (get items (candidate + 0x40000000)) here named (candidates.candidate candidate low high)) none

    -- no id of the group has an item
    pub empty-group : ((k : ℕ) → from ≤ k → k < from + 16 → get items k ≡ None) → IsIdOfName n items name None
    empty-group none =
        nowhere-candidate n items name from 16 candidates (λ candidate low high has.
        let made = pair-made n candidate name (get items candidate) (get items (candidate + 0x40000000)) has in
        some_none name (sym made.is_name ∙ none candidate low high))

  -- names stand below the values
  id-low : (name : List ℕ) (candidate : ℕ) → IsAt n items name candidate → candidate < 0x80010000
  id-low name candidate at =
      let to : candidate < 0x80000000 + name_ids = at.inside.to in
      let all = all-ids in
      omega arith

  -- an item is kept where the name at its candidate id is one of a setting
  pub not-kept : (id candidate : ℕ) → ((id < 0xC0000000) × (candidate ≡ id)) ⊎ ((0xC0000000 ≤ id) × (candidate ≡ id - 0x40000000)) → ((name : List ℕ) → ¬ IsAt n items name candidate) → IsKept n items id → ⊥
  not-kept id candidate is none kept =
      elim kept [
        | inl count ↦ false≢true count.counts
        | inr part ↦
            let low : part.candidate < 0x80010000 = id-low part.name part.candidate part.at in
            let from : 0x80000000 ≤ part.candidate = part.at.inside.from in
            let same : part.candidate ≡ candidate = at-id part.candidate part.is from low in
            none part.name (subst (λ (k : ℕ). IsAt n items part.name k) same part.at)
      ]
    where
      at-id : (own : ℕ) → (id ≡ own) ⊎ (id ≡ own + 0x40000000) → 0x80000000 ≤ own → own < 0x80010000 → own ≡ candidate
      at-id own part from low =
          elim is [
            | inl x ↦ let a = x.0 in let b = x.1 in elim part [ inl e ↦ omega arith | inr e ↦ absurd (omega arith) ]
            | inr x ↦ let a = x.0 in let b = x.1 in elim part [ inl e ↦ absurd (omega arith) | inr e ↦ omega arith ]
          ]

  -- a name stands nowhere at an id that is no lawful name
  pub unnamed : (id : ℕ) → ((name : List ℕ) → IsName name → ¬ (get items id ≡ Some name)) → (name : List ℕ) → ¬ IsAt n items name id
  unnamed id none name at = none name (at-lawful n items name id at) (named-at n items name id at)

  -- where there are no orphans, the items cost what the settings do
  pub cost-clean : HasNoOrphans n items → (price : ℕ → ℕ) → items_cost price items ≡ 0 + settings_cost price (settings_in n items)
  cost-clean clean price = clean-cost n (zms-numbering limit) items clean price ∙ ap (λ (x : ℕ). x + settings_cost price (settings_in n items)) (ap (item_cost price) none)
    where
      none : get items 0 ≡ None
      none = elim (clean 0) [
        | inl gone ↦ gone
        | inr kept ↦ elim kept [
          | inl count ↦ absurd (false≢true count.counts)
          | inr part ↦
              let low : 0x80000000 ≤ part.candidate = part.at.inside.from in
              elim part.is [ inl e ↦ absurd (omega arith) | inr e ↦ absurd (omega arith) ]
        ]
      ]
