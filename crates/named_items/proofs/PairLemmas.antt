-- What the write or the delete of one item makes of the map that the items read as.
use Rattle.std.proofs.Common.{◌≡◌, ◌⊎◌, ℕ, ◌+◌, ◌<◌, ◌≤◌, Bool, true, cond, List, Option, Some, None, refl, sym, ap, subst, ◌∙◌, inl, inr, arith}
use Rattle.std.specs.FinMap.{get, insert, remove}
use Rattle.std.proofs.lemmas.Bool.{cases_Bool, cases_eq}
use Rattle.item_laws.specs.Items.{Items}
use Rattle.backend_api.specs.Map.{Map}
use Rattle.named_items.specs.Numbering.{Numbering, IsNumbering}
use Rattle.named_items.specs.Pairs.{count_in, is_pair, pair_of, pair_at, settings_in, HasName, IsInside, IsLowest, IsAt, AltersOnly}
use Rattle.named_items.proofs.RangePairs.{Pair, map_on, map-agree, map-more, on-put, on-take, on-hide}

some_none : {A : Type 0} (x : A) → Some x ≡ None → ⊥
some_none x e = cc

pub settings-on : (n : Numbering) (items : Items) → settings_in n items ≡ map_on (pair_at n items) n.first (count_in n items)
unfolding settings_in map_on
settings-on n items = refl

-- ---- one pair

-- what a pair of a name is made of
pub record Makes (n : Numbering) (id : ℕ) (name : List ℕ) (first second : Option (List ℕ)) : Type 0 where
  pub value : List ℕ
  pub is_name : first ≡ Some name
  pub is_value : second ≡ Some value
  pub passes : is_pair n id name value ≡ true

pub pair-made : (n : Numbering) (id : ℕ) (name : List ℕ) (first second : Option (List ℕ)) → HasName (pair_of n id first second) name → Makes n id name first second
pair-made n id name None second has = absurd has
pair-made n id name (Some x) None has = absurd has
pair-made n id name (Some x) (Some v) has =
    elim (cases_Bool (is_pair n id x v)) [
      | inl passes ↦
          let same : x ≡ name = subst (λ (b : Bool). HasName (cond b (Some (x, v)) None) name) passes has in
          record { value = v; is_name = ap (λ (t : List ℕ). Some t) same; is_value = refl; passes = subst (λ (t : List ℕ). is_pair n id t v ≡ true) same passes }
      | inr fails ↦ absurd (subst (λ (b : Bool). HasName (cond b (Some (x, v)) None) name) fails has)
    ]

pub made-pair : (n : Numbering) (id : ℕ) (name value : List ℕ) (first second : Option (List ℕ)) → first ≡ Some name → second ≡ Some value → is_pair n id name value ≡ true → pair_of n id first second ≡ Some (name, value)
made-pair n id name value first second a b passes =
    ap (λ (o : Option (List ℕ)). pair_of n id o second) a ∙ ap (λ (o : Option (List ℕ)). pair_of n id (Some name) o) b
    ∙ ap (λ (t : Bool). cond t (Some (name, value)) None) passes

pub no-name : (n : Numbering) (id : ℕ) (first second : Option (List ℕ)) → first ≡ None → pair_of n id first second ≡ None
no-name n id first second none = ap (λ (o : Option (List ℕ)). pair_of n id o second) none

no-value-by : (n : Numbering) (id : ℕ) (first : Option (List ℕ)) → pair_of n id first None ≡ None
no-value-by n id None = refl
no-value-by n id (Some x) = refl

pub no-value : (n : Numbering) (id : ℕ) (first second : Option (List ℕ)) → second ≡ None → pair_of n id first second ≡ None
no-value n id first second none = ap (λ (o : Option (List ℕ)). pair_of n id first o) none ∙ no-value-by n id first

none-has : (o : Option Pair) (name : List ℕ) → o ≡ None → ¬ HasName o name
none-has o name none has = let h : ⊥ = subst (λ (x : Option Pair). HasName x name) none has in h

-- a pair has one name
pub one-name : (o : Option Pair) (x y : List ℕ) → HasName o x → HasName o y → x ≡ y
one-name None x y a b = absurd a
one-name (Some pair) x y a b = sym a ∙ b

-- an id has a pair or none
pub has-pair : (o : Option Pair) → (o ≡ None) ⊎ ((name : List ℕ) × HasName o name)
has-pair None = inl refl
has-pair (Some pair) = inr (pair.0, refl)

module _ (n : Numbering) (old new : Items) (id : ℕ) (only : AltersOnly old new id) where
  pub pair-stays : (candidate : ℕ) → ¬ (candidate ≡ id) → ¬ (candidate + n.step ≡ id) → pair_at n new candidate ≡ pair_at n old candidate
  pair-stays candidate a b =
      ap (λ (o : Option (List ℕ)). pair_of n candidate o (get new (candidate + n.step))) (only candidate a)
      ∙ ap (λ (o : Option (List ℕ)). pair_of n candidate (get old candidate) o) (only (candidate + n.step) b)

  pub count-stays : ¬ (id ≡ n.count_id) → count_in n new ≡ count_in n old
  count-stays apart = ap n.count_of (only n.count_id (λ e. apart (sym e)))

  module _ (laws : IsNumbering n) where
    few : (items : Items) → count_in n items ≤ n.step
    few items = laws.few (get items n.count_id)

    -- the map stays where each pair does
    pub pairs-stay : count_in n new ≡ count_in n old → ((candidate : ℕ) → IsInside n old candidate → pair_at n new candidate ≡ pair_at n old candidate) → settings_in n new ≡ settings_in n old
    pairs-stay count same =
        settings-on n new ∙ ap (map_on (pair_at n new) n.first) count ∙ agree ∙ sym (settings-on n old)
      where
        agree : map_on (pair_at n new) n.first (count_in n old) ≡ map_on (pair_at n old) n.first (count_in n old)
        agree = map-agree (pair_at n new) (pair_at n old) n.first (count_in n old) (λ candidate from to. same candidate (record { from = from; to = to }))

    -- The count allows one name more, and there is no setting yet.
    pub count-raised : id ≡ n.count_id → count_in n new ≡ count_in n old + 1 → pair_at n old (n.first + count_in n old) ≡ None → settings_in n new ≡ settings_in n old
    count-raised is count none =
        settings-on n new ∙ ap (map_on (pair_at n new) n.first) count ∙ more ∙ sym (settings-on n old)
      where
        below : n.count_id < n.first
        below = laws.below

        stays : (candidate : ℕ) → n.first ≤ candidate → pair_at n new candidate ≡ pair_at n old candidate
        stays candidate from = pair-stays candidate (λ (e : candidate ≡ id). absurd (omega arith)) (λ (e : candidate + n.step ≡ id). absurd (omega arith))

        more : map_on (pair_at n new) n.first (count_in n old + 1) ≡ map_on (pair_at n old) n.first (count_in n old)
        more = map-agree (pair_at n new) (pair_at n old) n.first (count_in n old + 1) (λ candidate from to. stays candidate from) ∙ map-more (pair_at n old) n.first (count_in n old) none

    -- an id whose name or value it is
    module _ (candidate : ℕ) (inside : IsInside n old candidate) (is : (id ≡ candidate) ⊎ (id ≡ candidate + n.step)) where
      from : n.first ≤ candidate
      from = inside.from

      to : candidate < n.first + count_in n old
      to = inside.to

      above : n.count_id < id
      above =
          let below : n.count_id < n.first = laws.below in
          elim is [ inl e ↦ omega arith | inr e ↦ omega arith ]

      pub id-count : count_in n new ≡ count_in n old
      id-count = count-stays (λ (e : id ≡ n.count_id). absurd (omega (arith, above)))

      pub others-stay : (other : ℕ) → n.first ≤ other → other < n.first + count_in n old → ¬ (other ≡ candidate) → pair_at n new other ≡ pair_at n old other
      others-stay other low high apart =
          let most : count_in n old ≤ n.step = few old in
          let a : n.first ≤ candidate = from in
          let b : candidate < n.first + count_in n old = to in
          elim is [
            | inl e ↦ pair-stays other (λ (q : other ≡ id). apart (q ∙ e)) (λ (q : other + n.step ≡ id). absurd (omega arith))
            | inr e ↦ pair-stays other (λ (q : other ≡ id). absurd (omega arith)) (λ (q : other + n.step ≡ id). apart (omega arith))
          ]

      others : (other : ℕ) → n.first ≤ other → other < n.first + count_in n old → ¬ (other ≡ candidate) → pair_at n old other ≡ pair_at n new other
      others other low high apart = sym (others-stay other low high apart)

      along : map_on (pair_at n new) n.first (count_in n old) ≡ settings_in n new
      along = sym (settings-on n new ∙ ap (map_on (pair_at n new) n.first) id-count)

      -- it has no setting, before and after
      pub id-bare : pair_at n old candidate ≡ None → pair_at n new candidate ≡ None → settings_in n new ≡ settings_in n old
      id-bare before after = pairs-stay id-count (λ other within.
          elim (cases_eq other candidate) [
            | inl e ↦ ap (pair_at n new) e ∙ after ∙ sym (ap (pair_at n old) e ∙ before)
            | inr apart ↦ others-stay other within.from within.to apart
          ])

      -- It gets this setting, and had none or one of this name.
      pub id-put : (name value : List ℕ) → pair_at n new candidate ≡ Some (name, value) → ((x : List ℕ) → HasName (pair_at n old candidate) x → x ≡ name) → IsLowest n old name candidate → settings_in n new ≡ insert (settings_in n old) name value
      id-put name value is_pair one lowest =
          sym along ∙ on-put (pair_at n old) (pair_at n new) n.first (count_in n old) candidate from to others name value is_pair one lowest
          ∙ ap (λ (m : Map). insert m name value) (sym (settings-on n old))

      -- It loses the setting, and no other id has the name.
      pub id-taken : (name : List ℕ) → IsAt n old name candidate → pair_at n new candidate ≡ None → ((other : ℕ) → candidate < other → other < n.first + count_in n old → ¬ HasName (pair_at n old other) name)
          → settings_in n new ≡ remove (settings_in n old) name
      id-taken name at gone higher =
          sym along ∙ on-take (pair_at n old) (pair_at n new) n.first (count_in n old) candidate from to others name gone (λ x has. one-name (pair_at n old candidate) x name has at.here) at.lowest higher
          ∙ ap (λ (m : Map). remove m name) (sym (settings-on n old))

      -- It loses a setting whose name a lower id has.
      pub id-ignored : (name : List ℕ) (lower : ℕ) → HasName (pair_at n old candidate) name → pair_at n new candidate ≡ None → n.first ≤ lower → lower < candidate → HasName (pair_at n old lower) name → settings_in n new ≡ settings_in n old
      id-ignored name lower here gone low high has =
          sym along ∙ on-hide (pair_at n old) (pair_at n new) n.first (count_in n old) candidate from to others name lower gone (λ x its. one-name (pair_at n old candidate) x name its here) low high has
          ∙ sym (settings-on n old)
