-- Which items belong to no setting that counts, and what stays where one of them is removed.
use Rattle.std.proofs.Common.{◌≡◌, ◌⊎◌, ℕ, zero, suc, ◌+◌, ◌-◌, ◌<◌, ◌≤◌, true, List, Option, Some, None, refl, sym, ap, subst, ◌∙◌, inl, inr, arith}
use Rattle.std.specs.FinMap.{get}
use Rattle.std.proofs.lemmas.Bool.{cases_Bool, cases_eq, cases_lt, false≢true}
use Rattle.backend_api.proofs.MapLemmas.{ties_itself, ties_same}
use Rattle.item_laws.specs.Items.{Items}
use Rattle.named_items.specs.Numbering.{Numbering, IsNumbering}
use Rattle.named_items.specs.Pairs.{count_in, pair_of, pair_at, settings_in, HasName, IsInside, IsAt, IsPart, IsKept, HasNoOrphans, AltersOnly}
use Rattle.named_items.proofs.RangePairs.{Pair, tie}
use Rattle.named_items.proofs.PairLemmas.{pair-made, no-name, no-value, has-pair, one-name, pair-stays, count-stays, pairs-stay, id-bare, id-ignored}

-- ---- a name on a range

has-or : (o : Option Pair) (name : List ℕ) → HasName o name ⊎ ¬ HasName o name
has-or None name = inr (λ has. has)
has-or (Some pair) name =
    elim (cases_Bool (tie pair.0 name)) [
      | inl here ↦ inl (ties_same pair.0 name here)
      | inr apart ↦ inr (λ (e : pair.0 ≡ name). false≢true (sym apart ∙ ap (λ (t : List ℕ). tie t name) e ∙ ties_itself name))
    ]

-- one of the ids has it, or none
pub seek : (f : ℕ → Option Pair) (name : List ℕ) (a m : ℕ) → ((k : ℕ) × (a ≤ k) × (k < a + m) × HasName (f k) name) ⊎ ((k : ℕ) → a ≤ k → k < a + m → ¬ HasName (f k) name)
seek f name a zero = inr (λ k from to. absurd (omega arith))
seek f name a (suc m) =
    elim (has-or (f a) name) [
      | inl here ↦ inl (a, omega arith, omega arith, here)
      | inr apart ↦ elim (seek f name (a + 1) m) [
        | inl later ↦
            let low : a + 1 ≤ later.0 = later.1 in
            let high : later.0 < a + 1 + m = later.2 in
            inl (later.0, omega arith, omega arith, later.3)
        | inr none ↦ inr (λ k from to. elim (cases_eq k a) [
          | inl e ↦ λ (has : HasName (f k) name). apart (subst (λ (j : ℕ). HasName (f j) name) e has)
          | inr later ↦ none k (omega arith) (omega arith)
        ])
      ]
    ]

-- ---- the removal of one item

module _ (n : Numbering) (laws : IsNumbering n) (old new : Items) (id : ℕ) (only : AltersOnly old new id) (gone : get new id ≡ None) where
  -- an id loses its pair, or keeps it
  gone-or-same : (candidate : ℕ) → (pair_at n new candidate ≡ None) ⊎ (pair_at n new candidate ≡ pair_at n old candidate)
  gone-or-same candidate =
      elim (cases_eq candidate id) [
        | inl e ↦ inl (no-name n candidate (get new candidate) (get new (candidate + n.step)) (ap (get new) e ∙ gone))
        | inr a ↦ elim (cases_eq (candidate + n.step) id) [
          | inl e ↦ inl (no-value n candidate (get new candidate) (get new (candidate + n.step)) (ap (get new) e ∙ gone))
          | inr b ↦ inr (pair-stays n old new id only candidate a b)
        ]
      ]

  pub has-before : (candidate : ℕ) (name : List ℕ) → HasName (pair_at n new candidate) name → HasName (pair_at n old candidate) name
  has-before candidate name has =
      elim (gone-or-same candidate) [
        | inl none ↦ let h : ⊥ = subst (λ (o : Option Pair). HasName o name) none has in absurd h
        | inr same ↦ subst (λ (o : Option Pair). HasName o name) same has
      ]

  module _ (orphan : ¬ IsKept n old id) where
    pub orphan-count : count_in n new ≡ count_in n old
    orphan-count =
        elim (cases_eq id n.count_id) [
          | inr apart ↦ count-stays n old new id only apart
          | inl is ↦ elim (cases_Bool (n.is_count (get old id))) [
            | inl counts ↦ absurd (orphan (inl (record { is = is; counts = counts })))
            | inr other ↦ ap n.count_of (ap (get new) (sym is) ∙ gone) ∙ sym (laws.other (get old id) other) ∙ ap (λ (k : ℕ). n.count_of (get old k)) is
          ]
        ]

    id-gone : (candidate : ℕ) → IsInside n old candidate → (id ≡ candidate) ⊎ (id ≡ candidate + n.step) → settings_in n new ≡ settings_in n old
    id-gone candidate inside is =
        let after : pair_at n new candidate ≡ None = elim is [
          | inl e ↦ no-name n candidate (get new candidate) (get new (candidate + n.step)) (ap (get new) (sym e) ∙ gone)
          | inr e ↦ no-value n candidate (get new candidate) (get new (candidate + n.step)) (ap (get new) (sym e) ∙ gone)
        ] in
        elim (has-pair (pair_at n old candidate)) [
          | inl before ↦ id-bare n old new id only laws candidate inside is before after
          | inr has ↦
              let from : n.first ≤ candidate = inside.from in
              elim (seek (pair_at n old) has.0 n.first (candidate - n.first)) [
                | inl lower ↦
                    let high : lower.0 < n.first + (candidate - n.first) = lower.2 in
                    id-ignored n old new id only laws candidate inside is has.0 lower.0 has.1 after lower.1 (omega arith) lower.3
                | inr none ↦ absurd (orphan (inr (record { name = has.0; candidate = candidate; at = record { inside = inside; here = has.1; lowest = λ other low high. none other low (omega arith) }; is = is })))
              ]
        ]

    elsewhere : ((candidate : ℕ) → IsInside n old candidate → ¬ (candidate ≡ id)) → ((candidate : ℕ) → IsInside n old candidate → ¬ (candidate + n.step ≡ id)) → settings_in n new ≡ settings_in n old
    elsewhere a b = pairs-stay n old new id only laws orphan-count (λ candidate inside. pair-stays n old new id only candidate (a candidate inside) (b candidate inside))

    -- The removal of an orphan leaves the map.
    pub orphan-removed : settings_in n new ≡ settings_in n old
    orphan-removed =
        elim (cases_lt id n.first) [
          | inl low ↦ elsewhere (λ candidate inside e. let f : n.first ≤ candidate = inside.from in absurd (omega arith)) (λ candidate inside e. let f : n.first ≤ candidate = inside.from in absurd (omega arith))
          | inr from ↦ elim (cases_lt id (n.first + count_in n old)) [
            | inl to ↦ id-gone id (record { from = from; to = to }) (inl refl)
            | inr above ↦ elim (cases_lt id (n.first + n.step)) [
              | inl between ↦ elsewhere (λ candidate inside e. let t : candidate < n.first + count_in n old = inside.to in absurd (omega arith)) (λ candidate inside e. let f : n.first ≤ candidate = inside.from in absurd (omega arith))
              | inr values ↦ elim (cases_lt id (n.first + n.step + count_in n old)) [
                | inl under ↦ id-gone (id - n.step) (record { from = omega arith; to = omega arith }) (inr (omega arith))
                | inr over ↦ elsewhere (λ candidate inside e. let t : candidate < n.first + count_in n old = inside.to in absurd (omega arith)) (λ candidate inside e. let t : candidate < n.first + count_in n old = inside.to in absurd (omega arith))
              ]
            ]
          ]
        ]

    -- what is kept stays kept
    pub kept-stays : (other : ℕ) → ¬ (other ≡ id) → IsKept n old other → IsKept n new other
    kept-stays other apart kept =
        elim kept [
          | inl count ↦ inl (record { is = count.is; counts = subst (λ (o : Option (List ℕ)). n.is_count o ≡ true) (sym (only other apart)) count.counts })
          | inr part ↦
              let a : ¬ (part.candidate ≡ id) = λ (e : part.candidate ≡ id). orphan (inr (record { name = part.name; candidate = part.candidate; at = part.at; is = inl (sym e) })) in
              let b : ¬ (part.candidate + n.step ≡ id) = λ (e : part.candidate + n.step ≡ id). orphan (inr (record { name = part.name; candidate = part.candidate; at = part.at; is = inr (sym e) })) in
              inr (record {
                name = part.name;
                candidate = part.candidate;
                at = record {
                  inside = record { from = part.at.inside.from; to = subst (λ (c : ℕ). part.candidate < n.first + c) (sym orphan-count) part.at.inside.to };
                  here = subst (λ (o : Option Pair). HasName o part.name) (sym (pair-stays n old new id only part.candidate a b)) part.at.here;
                  lowest = λ k from to has. part.at.lowest k from to (has-before k part.name has);
                };
                is = part.is;
              })
        ]

-- ---- where there are no orphans

module _ (n : Numbering) (laws : IsNumbering n) (items : Items) (clean : HasNoOrphans n items) where
  -- each pair counts
  pub kept-id : (candidate : ℕ) (name : List ℕ) → IsInside n items candidate → HasName (pair_at n items candidate) name → IsAt n items name candidate
  kept-id candidate name inside has =
      let made = pair-made n candidate name (get items candidate) (get items (candidate + n.step)) has in
      elim (clean candidate) [
        | inl none ↦ absurd (some_none name (sym made.is_name ∙ none))
        | inr kept ↦ elim kept [
          | inl count ↦
              let e : candidate ≡ n.count_id = count.is in
              let f : n.first ≤ candidate = inside.from in
              let b : n.count_id < n.first = laws.below in
              absurd (omega arith)
          | inr part ↦ elim part.is [
            | inl e ↦
                let same : part.name ≡ name = one-name (pair_at n items candidate) part.name name (subst (λ (k : ℕ). HasName (pair_at n items k) part.name) (sym e) part.at.here) has in
                subst (λ (t : List ℕ). IsAt n items t candidate) same (subst (λ (k : ℕ). IsAt n items part.name k) (sym e) part.at)
            | inr e ↦
                let f : n.first ≤ part.candidate = part.at.inside.from in
                let t : candidate < n.first + count_in n items = inside.to in
                let few : count_in n items ≤ n.step = laws.few (get items n.count_id) in
                absurd (omega arith)
          ]
        ]
      ]
    where
      some_none : (x : List ℕ) → Some x ≡ None → ⊥
      some_none x e = cc

  -- a name that a pair has stands at one id
  pub one-id : (name : List ℕ) (a b : ℕ) → IsInside n items a → IsInside n items b → HasName (pair_at n items a) name → HasName (pair_at n items b) name → a ≡ b
  one-id name a b ina inb hasa hasb =
      let lowa = kept-id a name ina hasa in
      let lowb = kept-id b name inb hasb in
      elim (cases_lt a b) [
        | inl less ↦ absurd (lowb.lowest a ina.from less hasa)
        | inr le ↦ elim (cases_lt b a) [
          | inl less ↦ absurd (lowa.lowest b inb.from less hasb)
          | inr ge ↦ omega arith
        ]
      ]

-- ---- what a whole command makes of it

module _ (n : Numbering) (laws : IsNumbering n) (old new : Items) (candidate : ℕ) (inside : IsInside n old candidate) (only : (id : ℕ) → ¬ (id ≡ candidate) → ¬ (id ≡ candidate + n.step) → get new id ≡ get old id) where
  both-count : count_in n new ≡ count_in n old
  both-count =
      let f : n.first ≤ candidate = inside.from in
      let b : n.count_id < n.first = laws.below in
      ap n.count_of (only n.count_id (λ (e : n.count_id ≡ candidate). absurd (omega arith)) (λ (e : n.count_id ≡ candidate + n.step). absurd (omega arith)))

  both-others : (other : ℕ) → IsInside n old other → ¬ (other ≡ candidate) → pair_at n new other ≡ pair_at n old other
  both-others other within apart =
      let f : n.first ≤ candidate = inside.from in
      let t : candidate < n.first + count_in n old = inside.to in
      let g : n.first ≤ other = within.from in
      let u : other < n.first + count_in n old = within.to in
      let few : count_in n old ≤ n.step = laws.few (get old n.count_id) in
      ap (λ (o : Option (List ℕ)). pair_of n other o (get new (other + n.step))) (only other apart (λ (e : other ≡ candidate + n.step). absurd (omega arith)))
      ∙ ap (λ (o : Option (List ℕ)). pair_of n other (get old other) o) (only (other + n.step) (λ (e : other + n.step ≡ candidate). absurd (omega arith)) (λ (e : other + n.step ≡ candidate + n.step). apart (omega arith)))

  -- the other items are kept, where the id gets no name that another has
  both-kept : ((name : List ℕ) (other : ℕ) → IsInside n old other → HasName (pair_at n old other) name → HasName (pair_at n new candidate) name → other ≡ candidate) → (id : ℕ) → ¬ (id ≡ candidate) → ¬ (id ≡ candidate + n.step) → IsKept n old id → IsKept n new id
  both-kept alone id a b kept =
      elim kept [
        | inl count ↦ inl (record { is = count.is; counts = subst (λ (o : Option (List ℕ)). n.is_count o ≡ true) (sym (only id a b)) count.counts })
        | inr part ↦
            let apart : ¬ (part.candidate ≡ candidate) = λ (e : part.candidate ≡ candidate). elim part.is [ inl i ↦ a (i ∙ e) | inr i ↦ b (i ∙ ap (λ (k : ℕ). k + n.step) e) ] in
            let high : part.candidate < n.first + count_in n old = part.at.inside.to in
            inr (record {
              name = part.name;
              candidate = part.candidate;
              at = record {
                inside = record { from = part.at.inside.from; to = subst (λ (c : ℕ). part.candidate < n.first + c) (sym both-count) part.at.inside.to };
                here = subst (λ (o : Option Pair). HasName o part.name) (sym (both-others part.candidate part.at.inside apart)) part.at.here;
                lowest = λ k from to has. elim (cases_eq k candidate) [
                  | inl e ↦ apart (alone part.name part.candidate part.at.inside part.at.here (subst (λ (j : ℕ). HasName (pair_at n new j) part.name) e has))
                  | inr other ↦ part.at.lowest k from to (subst (λ (o : Option Pair). HasName o part.name) (both-others k (record { from = from; to = omega arith }) other) has)
                ];
              };
              is = part.is;
            })
      ]

  both-clean : ((name : List ℕ) (other : ℕ) → IsInside n old other → HasName (pair_at n old other) name → HasName (pair_at n new candidate) name → other ≡ candidate)
      → ((get new candidate ≡ None) ⊎ IsKept n new candidate) → ((get new (candidate + n.step) ≡ None) ⊎ IsKept n new (candidate + n.step)) → HasNoOrphans n old → HasNoOrphans n new
  both-clean alone name value clean id =
      elim (cases_eq id candidate) [
        | inl e ↦ subst (λ (k : ℕ). (get new k ≡ None) ⊎ IsKept n new k) (sym e) name
        | inr a ↦ elim (cases_eq id (candidate + n.step)) [
          | inl e ↦ subst (λ (k : ℕ). (get new k ≡ None) ⊎ IsKept n new k) (sym e) value
          | inr b ↦ elim (clean id) [
            | inl none ↦ inl (only id a b ∙ none)
            | inr kept ↦ inr (both-kept alone id a b kept)
          ]
        ]
      ]

  -- the id has neither name nor value any more
  pub taken-clean : get new candidate ≡ None → get new (candidate + n.step) ≡ None → HasNoOrphans n old → HasNoOrphans n new
  taken-clean name value clean =
      both-clean (λ t other within here has. let none : ⊥ = subst (λ (o : Option Pair). HasName o t) (no-name n candidate (get new candidate) (get new (candidate + n.step)) name) has in absurd none) (inl name) (inl value) clean

  -- The id has no name any more, or none yet: its value alone may be an orphan.
  pub bare-clean : get new candidate ≡ None → HasNoOrphans n old → (id : ℕ) → ¬ (id ≡ candidate + n.step) → (get new id ≡ None) ⊎ IsKept n new id
  bare-clean name clean id apart =
      elim (cases_eq id candidate) [
        | inl e ↦ inl (ap (get new) e ∙ name)
        | inr a ↦ elim (clean id) [
          | inl none ↦ inl (only id a apart ∙ none)
          | inr kept ↦ inr (both-kept (λ t other within here has. let none : ⊥ = subst (λ (o : Option Pair). HasName o t) (no-name n candidate (get new candidate) (get new (candidate + n.step)) name) has in absurd none) id a apart kept)
        ]
      ]

  -- the id has this setting, and no other id has the name
  pub put-clean : (name value : List ℕ) → pair_at n new candidate ≡ Some (name, value) → ((other : ℕ) → IsInside n old other → HasName (pair_at n old other) name → other ≡ candidate) → HasNoOrphans n old → HasNoOrphans n new
  put-clean name value is alone clean =
      let here : HasName (pair_at n new candidate) name = subst (λ (o : Option Pair). HasName o name) (sym is) refl in
      let at : IsAt n new name candidate = record {
        inside = record { from = inside.from; to = subst (λ (c : ℕ). candidate < n.first + c) (sym both-count) inside.to };
        here = here;
        lowest = λ k from to has.
            let t : candidate < n.first + count_in n old = inside.to in
            let within : IsInside n old k = record { from = from; to = omega arith } in
            let apart : ¬ (k ≡ candidate) = λ (e : k ≡ candidate). absurd (omega arith) in
            apart (alone k within (subst (λ (o : Option Pair). HasName o name) (both-others k within apart) has));
      } in
      both-clean (λ t other within before after. alone other within (subst (λ (x : List ℕ). HasName (pair_at n old other) x) (one-name (pair_at n new candidate) t name after here) before))
      (inr (inr (record { name = name; candidate = candidate; at = at; is = inl refl }))) (inr (inr (record { name = name; candidate = candidate; at = at; is = inr refl }))) clean

-- the count is raised by one
module _ (n : Numbering) (laws : IsNumbering n) (old new : Items) (only : AltersOnly old new n.count_id) (counts : n.is_count (get new n.count_id) ≡ true) (raised : count_in n old ≤ count_in n new) where
  pub raised-clean : HasNoOrphans n old → HasNoOrphans n new
  raised-clean clean id =
      elim (cases_eq id n.count_id) [
        | inl e ↦ inr (inl (record { is = e; counts = subst (λ (k : ℕ). n.is_count (get new k) ≡ true) (sym e) counts }))
        | inr apart ↦ elim (clean id) [
          | inl none ↦ inl (only id apart ∙ none)
          | inr kept ↦ inr (elim kept [
            | inl count ↦ absurd (apart count.is)
            | inr part ↦ inr (stays part)
          ])
        ]
      ]
    where
      same : (candidate : ℕ) → n.first ≤ candidate → pair_at n new candidate ≡ pair_at n old candidate
      same candidate from =
          let b : n.count_id < n.first = laws.below in
          pair-stays n old new n.count_id only candidate (λ (e : candidate ≡ n.count_id). absurd (omega arith)) (λ (e : candidate + n.step ≡ n.count_id). absurd (omega arith))

      stays : IsPart n old id → IsPart n new id
      stays part =
          let from : n.first ≤ part.candidate = part.at.inside.from in
          let to : part.candidate < n.first + count_in n old = part.at.inside.to in
          record {
            name = part.name;
            candidate = part.candidate;
            at = record {
              inside = record { from = from; to = omega arith };
              here = subst (λ (o : Option Pair). HasName o part.name) (sym (same part.candidate from)) part.at.here;
              lowest = λ k low high has. part.at.lowest k low high (subst (λ (o : Option Pair). HasName o part.name) (same k low) has);
            };
            is = part.is;
          }
