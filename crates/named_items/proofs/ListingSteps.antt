-- The settings in the order of their ids: which one is next, and what a map in memory says that has those up to an id.
use Rattle.std.proofs.Common.{◌≡◌, ◌⊎◌, ℕ, ◌+◌, ◌-◌, ◌<◌, ◌≤◌, Bool, true, false, cond, is_eq, List, Option, Some, None, Bor, nat_cmp, refl, sym, ap, subst, ◌∙◌, inl, inr, arith}
use Rattle.std.specs.FinMap.{get}
use Rattle.std.specs.Cmp.Lexicographic.{slice_cmp}
use Rattle.std.specs.Map.{lookup}
use Rattle.std.specs.Option.{option_map}
use Rattle.std.proofs.lemmas.Bool.{cases_Bool, cases_lt, cond-true, cond-false, false≢true}
use Rattle.backend_api.proofs.MapLemmas.{ties_itself, ties_same}
use Rattle.item_laws.specs.Items.{Items}
use Rattle.named_items.specs.CandidateIds.{AreOfNames, HasAllCandidates}
use Rattle.named_items.specs.Listing.{IsSettingAt, IsPastAll, HasNoneBetween, IsNextSetting}
use Rattle.named_items.specs.Looking.{IsForName}
use Rattle.named_items.specs.Numbering.{Numbering, IsNumbering}
use Rattle.named_items.specs.Pairs.{count_in, pair_at, settings_in, IsAt, HasNoOrphans}
use Rattle.named_items.specs.StoreEnds.{IsNextId}
use Rattle.named_items.specs.Walking.{IsNameIn}
use Rattle.item_store.specs.declared.entry.IdRange.{IdRange}
use Rattle.named_items.proofs.LookupSteps.{at-known, at-lawful, named-as}
use Rattle.named_items.proofs.NameLemmas.{get-at, get-nowhere, at-value}
use Rattle.named_items.proofs.OrphanLemmas.{seek, kept-id}
use Rattle.named_items.proofs.OrphanSteps.{named-at}
use Rattle.named_items.proofs.IdSteps.{kept-at}
use Rattle.named_items.proofs.RangePairs.{tie}

some_none : {A : Type 0} (x : A) → Some x ≡ None → ⊥
some_none x e = cc

-- ---- which one is next

module _ (n : Numbering) (items : Items) (after : ℕ) where
  -- there is no item above
  pub past-items : IsNextId items (Some after) None → IsPastAll n items after
  past-items none name id at =
      elim (cases_lt after id) [
        | inl behind ↦ absurd (some_none name (sym (named-at n items name id at) ∙ none id behind))
        | inr le ↦ le
      ]

  -- the next item is above the ids of names
  pub past-names : (ids : IdRange) → HasAllCandidates n ids → (next : ℕ) → IsNextId items (Some after) (Some next) → ids.most < next → IsPastAll n items after
  past-names ids candidates next is high name id at =
      let to : id ≤ ids.most = (candidates items id at.inside).to in
      elim (cases_lt after id) [
        | inl behind ↦ absurd (some_none name (sym (named-at n items name id at) ∙ is.2 id behind (omega arith)))
        | inr le ↦ le
      ]

-- the next item is at an id of names
module _ (n : Numbering) (laws : IsNumbering n) (items : Items) (clean : HasNoOrphans n items) (top : ℕ) (ids : IdRange) (own : AreOfNames n top ids)
    (after next : ℕ) (from : n.first ≤ after + 1) (is : IsNextId items (Some after) (Some next)) (to : next ≤ ids.most) where
  for-name : IsForName n next
  for-name =
      let behind : after < next = is.0 in
      let high : ids.most < n.first + n.step = own.to in
      record { from = omega arith; to = omega arith }

  named-next : (name : List ℕ) → get items next ≡ Some name → IsAt n items name next
  named-next name has =
      elim (clean next) [
        | inl none ↦ absurd (is.1 none)
        | inr kept ↦ kept-at n items laws name next for-name has kept
      ]

  stands-next : (o : Option (List ℕ)) → get items next ≡ o → (name : List ℕ) × IsAt n items name next
  stands-next None gone = absurd (is.1 gone)
  stands-next (Some name) has = (name, named-next name has)

  -- it is a lawful name, and has a value
  pub name-there : ¬ IsNameIn (get items next) None
  name-there none =
      let stands = stands-next (get items next) refl in
      none stands.0 (at-lawful n items stands.0 next stands.1) (named-at n items stands.0 next stands.1)

  pub value-there : (step : ℕ) → n.step ≡ step → ¬ (None ≡ get items (next + step))
  value-there step is_step none =
      let stands = stands-next (get items next) refl in
      let value = at-value n items stands.0 next stands.1 in
      some_none value.0 (sym (subst (λ (k : ℕ). get items (next + k) ≡ Some value.0) is_step value.1) ∙ sym none)

  pub id-known : ((count : Option (List ℕ)) → n.first + n.count_of count + n.step ≤ top) → next + n.step < top
  id-known within =
      let stands = stands-next (get items next) refl in
      at-known n items stands.0 next stands.1 top within

  pub next-setting : (name value : List ℕ) → get items next ≡ Some name → (step : ℕ) → n.step ≡ step → Some value ≡ get items (next + step) → IsNextSetting n items after (Some (next, name, value))
  next-setting name value named step is_step valued =
      (is.0, record { at = named-next name named; valued = ap (λ (k : ℕ). get items (next + k)) is_step ∙ sym valued }, none-between)
    where
      none-between : HasNoneBetween n items after next
      none-between other id at behind =
          elim (cases_lt id next) [
            | inl less ↦ absurd (some_none other (sym (named-at n items other id at) ∙ is.2 id behind less))
            | inr le ↦ le
          ]

-- ---- the map in memory

-- what it says of a name
abbrev pub answer : List (List ℕ × Bor (List ℕ)) → List ℕ → Option (List ℕ)
answer pairs name = option_map (λ bytes. bytes.now) (lookup (λ k. is_eq (slice_cmp nat_cmp name k)) pairs)

-- after an insert
pub answer-more : (old new : List (List ℕ × Bor (List ℕ))) (name : List ℕ) (value : Bor (List ℕ))
    → ((q : List ℕ) → lookup (λ k. is_eq (slice_cmp nat_cmp q k)) new ≡ cond (is_eq (slice_cmp nat_cmp name q)) (Some value) (lookup (λ k. is_eq (slice_cmp nat_cmp q k)) old))
    → (q : List ℕ) → answer new q ≡ cond (tie name q) (Some value.now) (answer old q)
answer-more old new name value updates q =
    ap (option_map (λ (bytes : Bor (List ℕ)). bytes.now)) (updates q) ∙ by (tie name q)
  where
    by : (t : Bool) → option_map (λ (bytes : Bor (List ℕ)). bytes.now) (cond t (Some value) (lookup (λ k. is_eq (slice_cmp nat_cmp q k)) old)) ≡ cond t (Some value.now) (answer old q)
    by true = refl
    by false = refl

-- it answers the names that stand up to this id as the settings do, and no others
pub record HasListed (n : Numbering) (items : Items) (found : List ℕ → Option (List ℕ)) (after : ℕ) : Type 0 where
  pub here : (name : List ℕ) (id : ℕ) → IsAt n items name id → id ≤ after → found name ≡ get (settings_in n items) name
  pub only : (name : List ℕ) → ((id : ℕ) → IsAt n items name id → after < id) → found name ≡ None

module _ (n : Numbering) (items : Items) where
  -- at first it is empty
  pub listed-none : (ids : IdRange) → HasAllCandidates n ids → 0 < ids.least → (found : List ℕ → Option (List ℕ)) → ((name : List ℕ) → found name ≡ None) → HasListed n items found (ids.least - 1)
  listed-none ids candidates some found none = record {
    here = λ name id at low. let from : ids.least ≤ id = (candidates items id at.inside).from in absurd (omega arith);
    only = λ name all. none name;
  }

  -- one setting more
  pub listed-more : (found more : List ℕ → Option (List ℕ)) (after next : ℕ) (name value : List ℕ) → IsSettingAt n items next name value → after < next → HasNoneBetween n items after next
      → ((q : List ℕ) → more q ≡ cond (tie name q) (Some value) (found q)) → HasListed n items found after → HasListed n items more next
  listed-more found more after next name value setting behind none adds so_far = record {
    here = λ q id at low. by-here q id at low (cases_Bool (tie name q));
    only = λ q all. by-only q all (cases_Bool (tie name q));
  }
    where
      by-here : (q : List ℕ) (id : ℕ) → IsAt n items q id → id ≤ next → (tie name q ≡ true) ⊎ (tie name q ≡ false) → more q ≡ get (settings_in n items) q
      by-here q id at low (inl same) =
          adds q ∙ cond-true (tie name q) (Some value) (found q) same
          ∙ sym (get-at n items name value next setting.at setting.valued) ∙ ap (get (settings_in n items)) (ties_same name q same)
      by-here q id at low (inr apart) =
          adds q ∙ cond-false (tie name q) (Some value) (found q) apart
          ∙ so_far.here q id at (earlier (cases_lt after id))
        where
          earlier : (after < id) ⊎ (id ≤ after) → id ≤ after
          earlier (inr le) = le
          earlier (inl later) =
              let le : next ≤ id = none q id at later in
              let e : id ≡ next = omega arith in
              let named : q ≡ name = named-as q name (get items next) (named-at n items q next (subst (IsAt n items q) e at)) (named-at n items name next setting.at) in
              absurd (false≢true (sym apart ∙ ap (tie name) named ∙ ties_itself name))

      by-only : (q : List ℕ) → ((id : ℕ) → IsAt n items q id → next < id) → (tie name q ≡ true) ⊎ (tie name q ≡ false) → more q ≡ None
      by-only q all (inl same) =
          let up : next < next = all next (subst (λ (x : List ℕ). IsAt n items x next) (ties_same name q same) setting.at) in
          absurd (omega arith)
      by-only q all (inr apart) =
          adds q ∙ cond-false (tie name q) (Some value) (found q) apart
          ∙ so_far.only q (λ id at. let up : next < id = all id at in omega arith)

  -- in the end it answers as the settings do
  pub listed-all : IsNumbering n → HasNoOrphans n items → (found : List ℕ → Option (List ℕ)) (after : ℕ) → IsPastAll n items after → HasListed n items found after
      → (q : List ℕ) → found q ≡ get (settings_in n items) q
  listed-all laws clean found after past so_far q =
      elim (seek (pair_at n items) q n.first (count_in n items)) [
        | inl some ↦
            let at : IsAt n items q some.0 = kept-id n laws items clean some.0 q (record { from = some.1; to = some.2 }) some.3 in
            so_far.here q some.0 at (past q some.0 at)
        | inr none ↦
            so_far.only q (λ id at. absurd (none id at.inside.from at.inside.to at.here))
            ∙ sym (get-nowhere n items q (λ id inside. none id inside.from inside.to))
      ]
