-- What the items and the settings become where the parts of a setting are written or deleted.
use Rattle.std.proofs.Common.{◌≡◌, ◌⊎◌, ℕ, ◌+◌, ◌<◌, ◌≤◌, List, true, false, Some, None, Result, Ok, Err, refl, sym, ap, subst, ◌∙◌, inl, inr, arith}
use Rattle.std.specs.FinMap.{get, remove}
use Rattle.std.specs.Prelude.{is_err}
use Rattle.std.proofs.lemmas.Bool.{false≢true}
use Rattle.flash_sim.specs.Device.{Device}
use Rattle.flash_sim.specs.declared.flash.PowerLost.{PowerLost as Lost}
use Rattle.backend_api.specs.Ends.{SpendsSome, DeleteEnds}
use Rattle.backend_api.specs.Map.{Map}
use Rattle.backend_api.proofs.MapLemmas.{get-remove_same, remove-absent}
use Rattle.item_laws.specs.Items.{Items}
use Rattle.named_items.specs.Numbering.{Numbering, IsNumbering}
use Rattle.named_items.specs.Pairs.{count_in, settings_in, IsInside, IsAt, IsIdOfName, HasNoOrphans}
use Rattle.named_items.proofs.CostLemmas.{get-cut, get-cut_other}
use Rattle.named_items.proofs.PairLemmas.{id-bare, id-taken, no-name}
use Rattle.named_items.specs.Orphans.{HasOrphans}
use Rattle.named_items.proofs.OrphanLemmas.{bare-clean, one-id, taken-clean}
use Rattle.named_items.proofs.OrphanUnits.{no-orphans, one-orphan}
use Rattle.named_items.proofs.NameLemmas.{get-at, get-nowhere, at-value}
use Rattle.named_items.specs.Ends.{DeletesPair}

module _ (n : Numbering) (laws : IsNumbering n) (items : Items) (clean : HasNoOrphans n items) (name : List ℕ) (candidate : ℕ) (at : IsAt n items name candidate) where
  low : n.first ≤ candidate
  low = at.inside.from

  value_apart : candidate ≡ candidate + n.step → ⊥
  value_apart e =
      let high : candidate < n.first + count_in n items = at.inside.to in
      let few : count_in n items ≤ n.step = laws.few (get items n.count_id) in
      let from : n.first ≤ candidate = low in
      absurd (omega arith)

  -- without the name
  pub name-gone : settings_in n (remove items candidate) ≡ remove (settings_in n items) name
  name-gone =
      id-taken n items (remove items candidate) candidate (λ other apart. get-cut_other items candidate other apart) laws candidate at.inside (inl refl) name at
      (no-name n candidate (get (remove items candidate) candidate) (get (remove items candidate) (candidate + n.step)) (get-cut items candidate))
      (λ other above to has.
      let from : n.first ≤ candidate = low in
      let same : candidate ≡ other = one-id n laws items clean name candidate other at.inside (record { from = omega arith; to = to }) at.here has in
      absurd (omega arith))

  abbrev both : Items
  both = remove (remove items candidate) (candidate + n.step)

  both-name : get both candidate ≡ None
  both-name = get-cut_other (remove items candidate) (candidate + n.step) candidate value_apart ∙ get-cut items candidate

  both-others : (id : ℕ) → ¬ (id ≡ candidate) → ¬ (id ≡ candidate + n.step) → get both id ≡ get items id
  both-others id a b = get-cut_other (remove items candidate) (candidate + n.step) id b ∙ get-cut_other items candidate id a

  count-gone : count_in n (remove items candidate) ≡ count_in n items
  count-gone =
      let from : n.first ≤ candidate = low in
      let below : n.count_id < n.first = laws.below in
      ap n.count_of (get-cut_other items candidate n.count_id (λ (e : n.count_id ≡ candidate). absurd (omega arith)))

  -- and without the value
  pub both-gone : settings_in n (remove (remove items candidate) (candidate + n.step)) ≡ remove (settings_in n items) name
  both-gone =
      let inside : IsInside n (remove items candidate) candidate = record { from = low; to = subst (λ (c : ℕ). candidate < n.first + c) (sym count-gone) at.inside.to } in
      id-bare n (remove items candidate) both (candidate + n.step) (λ other apart. get-cut_other (remove items candidate) (candidate + n.step) other apart) laws candidate inside (inr refl)
      (no-name n candidate (get (remove items candidate) candidate) (get (remove items candidate) (candidate + n.step)) (get-cut items candidate))
      (no-name n candidate (get both candidate) (get both (candidate + n.step)) both-name)
      ∙ name-gone

  pub both-clean_after : HasNoOrphans n (remove (remove items candidate) (candidate + n.step))
  both-clean_after = taken-clean n laws items both candidate at.inside both-others both-name (get-cut (remove items candidate) (candidate + n.step)) clean

  -- the settings of a delete that was cut
  pub pair-cut : (after : Items) → (after ≡ items) ⊎ (after ≡ remove items candidate) ⊎ (after ≡ remove (remove items candidate) (candidate + n.step)) → (settings_in n after ≡ settings_in n items) ⊎ (settings_in n after ≡ remove (settings_in n items) name)
  pair-cut after ends =
      elim ends [
        | inl same ↦ inl (ap (settings_in n) same)
        | inr more ↦ elim more [
          | inl first ↦ inr (ap (settings_in n) first ∙ name-gone)
          | inr all ↦ inr (ap (settings_in n) all ∙ both-gone)
        ]
      ]

  present : get (settings_in n items) name ≡ None → ⊥
  present none =
      let value = at-value n items name candidate at in
      some_none value.0 (sym (get-at n items name value.0 candidate at value.1) ∙ none)
    where
      some_none : (x : List ℕ) → Some x ≡ None → ⊥
      some_none x e = cc

  -- how it ends
  pub delete-ends : {U : Type 0} (d e : Device) (after : Items) (r : Result U Lost) → (¬ (settings_in n after ≡ settings_in n items) → SpendsSome d e) → DeletesPair items after candidate (candidate + n.step) r → DeleteEnds d e (settings_in n items) (settings_in n after) name r
  delete-ends d e after (Ok x) spends ends =
      let is : settings_in n after ≡ remove (settings_in n items) name = ap (settings_in n) ends ∙ both-gone in
      record {
        settings = is;
        absent = λ none. absurd (present none);
        spends = λ some. spends (λ same. present (ap (λ (m : Map). get m name) (sym same ∙ is) ∙ get-remove_same (settings_in n items) name));
      }
  delete-ends d e after (Err lost) spends ends = present

  pub delete-cut : {U : Type 0} (after : Items) (r : Result U Lost) → is_err r ≡ true → DeletesPair items after candidate (candidate + n.step) r → (settings_in n after ≡ settings_in n items) ⊎ (settings_in n after ≡ remove (settings_in n items) name)
  delete-cut after (Ok x) is ends = absurd (false≢true is)
  delete-cut after (Err lost) is ends = pair-cut after ends

  -- where it was cut, at most the value is an orphan
  pub delete-orphans : {U : Type 0} (after : Items) (r : Result U Lost) → is_err r ≡ true → DeletesPair items after candidate (candidate + n.step) r → HasOrphans n after 1
  delete-orphans after (Ok x) is ends = absurd (false≢true is)
  delete-orphans after (Err lost) is ends = elim ends [
    | inl same ↦ no-orphans n after 1 (subst (HasNoOrphans n) (sym same) clean)
    | inr more ↦ elim more [
      | inl first ↦ subst (λ (m : Items). HasOrphans n m 1) (sym first)
          (one-orphan n (remove items candidate) (candidate + n.step)
          (bare-clean n laws items (remove items candidate) candidate at.inside (λ id a b. get-cut_other items candidate id a) (get-cut items candidate) clean))
      | inr all ↦ no-orphans n after 1 (subst (HasNoOrphans n) (sym all) both-clean_after)
    ]
  ]

  pub delete-clean : {U : Type 0} (after : Items) (r : Result U Lost) → is_err r ≡ false → DeletesPair items after candidate (candidate + n.step) r → HasNoOrphans n after
  delete-clean after (Ok x) is ends = subst (HasNoOrphans n) (sym ends) both-clean_after
  delete-clean after (Err lost) is ends = absurd (false≢true (sym is))

-- an absent name
pub delete-absent : (d : Device) (n : Numbering) (items : Items) (name : List ℕ) → IsIdOfName n items name None → DeleteEnds {T = Unit {0}} d d (settings_in n items) (settings_in n items) name (Ok tt)
delete-absent d n items name none =
    let absent = get-nowhere n items name none in
    record { settings = sym (remove-absent (settings_in n items) name absent); absent = λ is. refl; spends = λ some. absurd (some absent) }
