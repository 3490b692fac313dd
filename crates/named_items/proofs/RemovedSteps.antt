-- Items that were only removed, one id after the other, also where power was lost.
use Rattle.std.proofs.Common.{◌≡◌, ◌⊎◌, ℕ, ◌<◌, ◌≤◌, Option, Some, None, Result, Ok, Err, refl, sym, ap, subst, ◌∙◌, inl, inr, arith}
use Rattle.std.specs.Prelude.{is_err, true}
use Rattle.std.specs.FinMap.{get, remove}
use Rattle.std.proofs.lemmas.Bool.{cases_eq, false≢true}
use Rattle.flash_sim.specs.Device.{Device}
use Rattle.flash_sim.specs.declared.flash.PowerLost.{PowerLost as Lost}
use Rattle.item_laws.specs.Items.{Items}
use Rattle.named_items.specs.Numbering.{Numbering, IsNumbering}
use Rattle.named_items.specs.Pairs.{IsKept, AltersOnly}
use Rattle.named_items.proofs.CostLemmas.{get-cut, get-cut_other}
use Rattle.named_items.proofs.OrphanLemmas.{kept-stays}
use Rattle.named_items.specs.StoreEnds.{IsNextId, DeleteEnds}
use Rattle.named_items.specs.Orphans.{OnlyRemoves, RemovalEnds, StaysKept, StopsAt}
use Rattle.named_items.proofs.SoFar.{HasNoneBefore}

-- ---- one delete, whatever its result

module _ (items after : Items) (id : ℕ) where
  -- the items are as before, or without the id
  abbrev Deleted : Type 0
  Deleted = (after ≡ items) ⊎ (after ≡ remove items id)

  deleted : {U : Type 0} (d e : Device) (r : Result U Lost) → DeleteEnds d e items after id r → Deleted
  deleted d e (Ok x) ends = inr ends.items
  deleted d e (Err l) ends = ends.items

  alters : Deleted → AltersOnly items after id
  alters (inl same) other apart = ap (λ (m : Items). get m other) same
  alters (inr cut) other apart = ap (λ (m : Items). get m other) cut ∙ get-cut_other items id other apart

  removes : Deleted → OnlyRemoves items after
  removes (inl same) other = inr (ap (λ (m : Items). get m other) same)
  removes (inr cut) other = elim (cases_eq other id) [
    | inl e ↦ inl (ap (λ (m : Items). get m other) cut ∙ subst (λ (k : ℕ). get (remove items id) k ≡ None) (sym e) (get-cut items id))
    | inr apart ↦ inr (alters (inr cut) other apart)
  ]

  pub delete-alters : {U : Type 0} (d e : Device) (r : Result U Lost) → DeleteEnds d e items after id r → AltersOnly items after id
  delete-alters d e r ends = alters (deleted d e r ends)

  pub delete-gone : {U : Type 0} (d e : Device) (r : Result U Lost) → DeleteEnds d e items after id r → OnlyRemoves items after
  delete-gone d e r ends = removes (deleted d e r ends)

  module _ (n : Numbering) (laws : IsNumbering n) (orphan : ¬ IsKept n items id) where
    stays : Deleted → StaysKept n items after
    stays (inl same) other kept = subst (λ (m : Items). IsKept n m other) (sym same) kept
    stays (inr cut) other kept = elim (cases_eq other id) [
      | inl e ↦ absurd (orphan (subst (IsKept n items) e kept))
      | inr apart ↦ subst (λ (m : Items). IsKept n m other) (sym cut)
          (kept-stays n laws items (remove items id) id (λ o a. get-cut_other items id o a) (get-cut items id) orphan other apart kept)
    ]

    pub delete-still : {U : Type 0} (d e : Device) (r : Result U Lost) → DeleteEnds d e items after id r → StaysKept n items after
    delete-still d e r ends = stays (deleted d e r ends)

-- ---- one after the other

pub gone-then : (start before after : Items) → OnlyRemoves start before → OnlyRemoves before after → OnlyRemoves start after
gone-then start before after first second id = elim (second id) [
  | inl none ↦ inl none
  | inr same ↦ elim (first id) [ inl none ↦ inl (same ∙ none) | inr was ↦ inr (same ∙ was) ]
]

-- the items of the ids that are still to be looked at, with this one as the next, are as before
abbrev pub StaysAhead : Items → Items → Option ℕ → Type 0
StaysAhead before after None = Unit {0}
StaysAhead before after (Some next) = (id : ℕ) → next ≤ id → get after id ≡ get before id

pub ahead-start : (items : Items) (first : Option ℕ) → StaysAhead items items first
ahead-start items None = tt
ahead-start items (Some at) = λ id from. refl

module _ (start before after : Items) (id : ℕ) (only : AltersOnly before after id) (ahead : StaysAhead start before (Some id)) where
  above : (other : ℕ) → id < other → get after other ≡ get start other
  above other more =
      let apart : ¬ (other ≡ id) = omega arith in
      let from : id ≤ other = omega arith in
      only other apart ∙ ahead other from

  pub ahead-step : (next : Option ℕ) → IsNextId after (Some id) next → StaysAhead start after next
  ahead-step None is = tt
  ahead-step (Some next) is = λ other from.
      let behind : id < next = is.0 in
      let more : id < other = omega arith in
      above other more

  -- where it was cut at this id
  pub stops-at : (n : Numbering) → StaysKept n before after → HasNoneBefore n before (Some id) → StopsAt n start after id
  stops-at n still so_far = record {
    below = λ other less.
        let apart : ¬ (other ≡ id) = omega arith in
        elim (so_far other less) [ inl none ↦ inl (only other apart ∙ none) | inr kept ↦ inr (still other kept) ];
    above = above;
  }

pub removal-cut : {T E : Type 0} (n : Numbering) (before after : Items) (result : Result T E) → is_err result ≡ true → ((id : ℕ) × StopsAt n before after id) → RemovalEnds n before after result
removal-cut n before after (Ok x) is stops = absurd (false≢true is)
removal-cut n before after (Err lost) is stops = stops
