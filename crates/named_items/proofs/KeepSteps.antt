-- Whether an item is kept, as a walk sees it: no orphan is left below, and the names below are known.
use Rattle.std.proofs.Common.{◌≡◌, ℕ, ◌+◌, ◌<◌, ◌≤◌, Bool, false, true, List, Bor, Option, Some, None, refl, sym, ap, subst, ◌∙◌, inl, inr, arith}
use Rattle.std.specs.Prelude.{IfSome}
use Rattle.std.specs.FinMap.{get}
use Rattle.std.specs.Option.{is_some, option_map}
use Rattle.std.proofs.lemmas.Bool.{cases_eq, cases_lt, false≢true}
use Rattle.item_laws.specs.Items.{Items}
use Rattle.setting_name.specs.Name.{IsName}
use Rattle.item_store.specs.declared.entry.IdRange.{IdRange}
use Rattle.named_items.specs.CandidateIds.{AreOfNames, HasCandidates, HasOnlyCandidates, HasAllCandidates, IsCandidateId}
use Rattle.named_items.specs.Looking.{is_value, IsForName, IsHere}
use Rattle.named_items.specs.Numbering.{Numbering, IsNumbering}
use Rattle.named_items.specs.Orphans.{IsCleanBelow}
use Rattle.named_items.specs.Pairs.{count_in, IsHeld, IsInside, IsLowest, IsKept, AltersOnly}
use Rattle.named_items.specs.Seen.{Saw, SawBelow}
use Rattle.named_items.specs.StoreEnds.{IsNextId}
use Rattle.named_items.specs.Walking.{IsNameIn}
use Rattle.named_items.proofs.LookupSteps.{at-lawful, has-here, has-lawful, here-has, named-as, pair-candidate}
use Rattle.named_items.proofs.OrphanLemmas.{orphan-count}
use Rattle.named_items.proofs.OrphanSteps.{named-at}
use Rattle.named_items.proofs.PairLemmas.{Makes, pair-made}

some_none : (name : List ℕ) → Some name ≡ None → ⊥
some_none name e = cc

pub valued-as : (r : Bool) (a b : ℕ) (o p : Option (List ℕ)) → r ≡ is_value a o → a ≡ b → o ≡ p → r ≡ is_value b p
valued-as r a b o p is limit item = is ∙ ap (λ (k : ℕ). is_value k o) limit ∙ ap (is_value b) item

-- whether a look-up found an item
pub is-there : (o : Option (Bor (List ℕ))) (item : Option (List ℕ)) → option_map {T = Bor (List ℕ)} {U = List ℕ} (λ bytes. bytes.now) o ≡ item → is_some o ≡ true → ¬ (item ≡ None)
is-there None item e some = absurd (false≢true some)
is-there (Some bytes) item e some = λ none. some_none bytes.now (e ∙ none)

pub is-gone : (o : Option (Bor (List ℕ))) (item : Option (List ℕ)) → option_map {T = Bor (List ℕ)} {U = List ℕ} (λ bytes. bytes.now) o ≡ item → is_some o ≡ false → item ≡ None
is-gone None item e none = sym e
is-gone (Some bytes) item e none = absurd (false≢true (sym none))

-- each id at which a name stands is an id for names
pub for-name : (n : Numbering) (top : ℕ) (ids : IdRange) → AreOfNames n top ids → (id : ℕ) → IsCandidateId ids id → IsForName n id
for-name n top ids of_names id one =
    let low : n.first ≤ ids.least = of_names.from in
    let high : ids.most < n.first + n.step = of_names.to in
    let from : ids.least ≤ id = one.from in
    let to : id ≤ ids.most = one.to in
    record { from = omega arith; to = omega arith }

module _ (n : Numbering) (items : Items) where
  -- ---- a setting of a name, in effect or not

  module _ (name : List ℕ) (ids : IdRange) (top : ℕ) (of_names : AreOfNames n top ids) (id : ℕ) where
    pub held-here : IsCandidateId ids id → HasOnlyCandidates n name ids → id < n.first + count_in n items → IsName name → IsHere n.longest (get items id) (get items (id + n.step)) name → IsHeld n items name id
    held-here one only less lawful here =
        let low : n.first ≤ ids.least = of_names.from in
        let from : ids.least ≤ id = one.from in
        record {
          inside = record { from = omega arith; to = less };
          here = here-has n id name (get items id) (get items (id + n.step)) here lawful ((only id one).1.candidate);
        }

  pub held-parts : (name : List ℕ) (id : ℕ) → IsHeld n items name id → IsHere n.longest (get items id) (get items (id + n.step)) name
  held-parts name id held = has-here n id name (get items id) (get items (id + n.step)) held.here

  pub held-id : (name : List ℕ) (ids : IdRange) (id : ℕ) → HasCandidates n name ids → IsHeld n items name id → IsCandidateId ids id
  held-id name ids id candidates held =
      let made : Makes n id name (get items id) (get items (id + n.step)) = pair-made n id name (get items id) (get items (id + n.step)) held.here in
      candidates items id held.inside (pair-candidate n id name made.value made.passes)

  -- ---- a name

  -- none of this name stands below
  pub new-lowest : (words : List ℕ) (name : List ℕ) (id : ℕ) → SawBelow n items words id → ¬ Saw words name → IsInside n items id → IsLowest n items name id
  new-lowest words name id saw new inside other from less has =
      let to : id < n.first + count_in n items = inside.to in
      let made : Makes n other name (get items other) (get items (other + n.step)) = pair-made n other name (get items other) (get items (other + n.step)) has in
      new (saw other name (record { from = from; to = omega arith }) less made.is_name (has-lawful n other name (get items other) (get items (other + n.step)) has))

  pub held-kept : (words : List ℕ) (name : List ℕ) (id : ℕ) → SawBelow n items words id → ¬ Saw words name → IsHeld n items name id → IsKept n items id
  held-kept words name id saw new held =
      inr (record { name = name; candidate = id; at = record { inside = held.inside; here = held.here; lowest = new-lowest words name id saw new held.inside }; is = inl refl })

  module _ (laws : IsNumbering n) where
    -- at an id for names, only a name is kept
    pub kept-part : (id : ℕ) → IsForName n id → IsKept n items id → (name : List ℕ) × (get items id ≡ Some name) × IsName name × IsHeld n items name id
    kept-part id for (inl count) =
        let below : n.count_id < n.first = laws.below in
        let from : n.first ≤ id = for.from in
        let is : id ≡ n.count_id = count.is in
        absurd (omega arith)
    kept-part id for (inr part) = elim part.is [
      | inl e ↦ (
        part.name,
        subst (λ (k : ℕ). get items k ≡ Some part.name) (sym e) (named-at n items part.name part.candidate part.at),
        at-lawful n items part.name part.candidate part.at,
        subst (λ (k : ℕ). IsHeld n items part.name k) (sym e) (record { inside = part.at.inside; here = part.at.here }),
      )
      | inr e ↦
          let to : id < n.first + n.step = for.to in
          let from : n.first ≤ part.candidate = part.at.inside.from in
          absurd (omega arith)
    ]

    pub kept-held : (id : ℕ) (name : List ℕ) → IsForName n id → IsNameIn (get items id) (Some name) → IsKept n items id → IsHeld n items name id
    kept-held id name for is kept =
        let part = kept-part id for kept in
        subst (λ (t : List ℕ). IsHeld n items t id) (named-as part.0 name (get items id) part.1 is.0) part.3

    pub unnamed-gone : (id : ℕ) → IsForName n id → IsNameIn (get items id) None → IsKept n items id → ⊥
    unnamed-gone id for none kept = let part = kept-part id for kept in none part.0 part.2 part.1

    -- ---- a value

    module _ (top : ℕ) (ids : IdRange) (of_names : AreOfNames n top ids) (all : HasAllCandidates n ids) (candidate : ℕ) (one : IsCandidateId ids candidate) where
      -- the name's item is still there, so it is kept
      pub value-kept : IsCleanBelow n items (candidate + n.step) → ¬ (get items candidate ≡ None) → IsKept n items (candidate + n.step)
      value-kept clean some =
          let for : IsForName n candidate = for-name n top ids of_names candidate one in
          let from : n.first ≤ candidate = for.from in
          let to : candidate < n.first + n.step = for.to in
          let less : candidate < candidate + n.step = omega arith in
          elim (clean candidate less) [
            | inl none ↦ absurd (some none)
            | inr (inl count) ↦
                let below : n.count_id < n.first = laws.below in
                let is : candidate ≡ n.count_id = count.is in
                absurd (omega arith)
            | inr (inr part) ↦
                let low : n.first ≤ part.candidate = part.at.inside.from in
                elim part.is [
                  | inl e ↦ inr (record { name = part.name; candidate = part.candidate; at = part.at; is = inr (ap (λ (k : ℕ). k + n.step) e) })
                  | inr e ↦ absurd (omega arith)
                ]
          ]

      pub value-gone : ¬ IsCandidateId ids (candidate + n.step) → get items candidate ≡ None → IsKept n items (candidate + n.step) → ⊥
      value-gone apart none (inl count) =
          let for : IsForName n candidate = for-name n top ids of_names candidate one in
          let from : n.first ≤ candidate = for.from in
          let below : n.count_id < n.first = laws.below in
          let is : candidate + n.step ≡ n.count_id = count.is in
          absurd (omega arith)
      value-gone apart none (inr part) = elim part.is [
        | inl e ↦ apart (subst (IsCandidateId ids) (sym e) (all items part.candidate part.at.inside))
        | inr e ↦
            let same : part.candidate ≡ candidate = omega arith in
            some_none part.name (sym (named-at n items part.name part.candidate part.at) ∙ ap (get items) same ∙ none)
      ]

  -- ---- the names that a walk has met

  module _ (words : List ℕ) (id : ℕ) (saw : SawBelow n items words id) where
    pub saw-more : (new : List ℕ) → ((other : List ℕ) → Saw words other → Saw new other) → ((name : List ℕ) → get items id ≡ Some name → IsName name → Saw new name) → SawBelow n items new (id + 1)
    saw-more new keeps here candidate name inside less is lawful = elim (cases_eq candidate id) [
      | inl e ↦ here name (subst (λ (k : ℕ). get items k ≡ Some name) e is) lawful
      | inr apart ↦ keeps name (saw candidate name inside (omega arith) is lawful)
    ]

    -- it is no id of a name
    pub saw-past : (ids : IdRange) → HasAllCandidates n ids → ¬ IsCandidateId ids id → SawBelow n items words (id + 1)
    saw-past ids all apart candidate name inside less is lawful = elim (cases_eq candidate id) [
      | inl e ↦ absurd (apart (subst (IsCandidateId ids) e (all items candidate inside)))
      | inr other ↦ saw candidate name inside (omega arith) is lawful
    ]

  pub saw-first : (words : List ℕ) (first : Option ℕ) → IsNextId items None first → IfSome first (λ id. SawBelow n items words id)
  saw-first words None next = tt
  saw-first words (Some at) next = λ candidate name inside less is lawful. absurd (some_none name (sym is ∙ next.2 candidate tt less))

  pub saw-next : (words : List ℕ) (id : ℕ) (next : Option ℕ) → SawBelow n items words (id + 1) → IsNextId items (Some id) next → IfSome next (λ at. SawBelow n items words at)
  saw-next words id None saw is_next = tt
  saw-next words id (Some at) saw is_next = λ candidate name inside less is lawful. elim (cases_lt id candidate) [
    | inl behind ↦ absurd (some_none name (sym is ∙ is_next.2 candidate behind less))
    | inr le ↦ saw candidate name inside (omega arith) is lawful
  ]

-- an orphan was removed
pub saw-after : (n : Numbering) (laws : IsNumbering n) (before after : Items) (id : ℕ) → AltersOnly before after id → get after id ≡ None → ¬ IsKept n before id
    → (words : List ℕ) → SawBelow n before words (id + 1) → SawBelow n after words (id + 1)
saw-after n laws before after id only gone orphan words saw candidate name inside less is lawful = elim (cases_eq candidate id) [
  | inl e ↦ absurd (some_none name (sym is ∙ ap (get after) e ∙ gone))
  | inr apart ↦
      let same : count_in n after ≡ count_in n before = orphan-count n laws before after id only gone orphan in
      saw candidate name (record { from = inside.from; to = subst (λ (k : ℕ). candidate < n.first + k) same inside.to }) less (sym (only candidate apart) ∙ is) lawful
]
