-- A name stands only at a candidate id of its own: look-ups over these ids alone, and how many of them have a name.
use Rattle.std.proofs.Common.{◌≡◌, ◌⊎◌, ℕ, zero, suc, ◌+◌, ◌-◌, ◌<◌, ◌≤◌, Bool, true, false, cond, ◌&&◌, List, [], ◌∷◌, length, Option, Some, None, refl, sym, ap, subst, ◌∙◌, inl, inr, arith}
use Rattle.std.specs.Prelude.{sum_by, count_by, map, nat_le}
use Rattle.std.specs.List.{cons_option, filter_map, range_with_len}
use Rattle.std.specs.FinMap as maps
use Rattle.std.proofs.lemmas.Bool.{and_parts}
use Rattle.std.proofs.lemmas.List.Elements.{filter_map-append}
use Rattle.std.proofs.lemmas.List.Sums.{sum_by-cons, sum_by-append}
use Rattle.item_laws.specs.Items.{Items}
use Rattle.setting_name.specs.Name.{is_name}
use Rattle.backend_api.specs.Map.{Map}
use Rattle.named_items.specs.Candidates.{IsCandidate, IsFreeCandidate, CandidatesAre}
use Rattle.item_store.specs.Free.{IsLeastFree}
use Rattle.item_store.specs.declared.entry.IdRange.{IdRange}
use Rattle.named_items.specs.Numbering.{Numbering, IsNumbering}
use Rattle.named_items.specs.Pairs.{count_in, pair_at, settings_in, HasName, IsInside, IsIdOfName, HasNoOrphans}
use Rattle.named_items.proofs.RangePairs.{Pair, pairs_on, range-append}
use Rattle.named_items.proofs.PairLemmas.{pair-made, no-name, settings-on}
use Rattle.named_items.proofs.CostLemmas.{map-sum, clean-distinct}
use Rattle.named_items.proofs.NameLemmas.{on-full, on-free, used-name, used-value}
use Rattle.named_items.specs.Ends.{IsFree}

-- ---- sums over a range of ids

abbrev weigh : (List ℕ → Bool) → Pair → ℕ
weigh same pair = cond (same pair.0) 1 0

keys-sum : (same : List ℕ → Bool) (es : List Pair) → count_by same (map (λ (e : Pair). e.0) es) ≡ sum_by (weigh same) es
keys-sum same [] = refl
keys-sum same (e ∷ es) =
    let more : sum_by (weigh same) (e ∷ es) ≡ weigh same e + sum_by (weigh same) es = sum_by-cons (weigh same) e es in
    let ih = keys-sum same es in
    sum_by-cons (λ (x : List ℕ). cond (same x) 1 0) e.0 (map (λ (x : Pair). x.0) es) ∙ ap (λ (k : ℕ). weigh same e + k) ih ∙ sym more

module _ (w : Pair → ℕ) (f : ℕ → Option Pair) where
  none-sum : (a m : ℕ) → ((k : ℕ) → a ≤ k → k < a + m → (pair : Pair) → f k ≡ Some pair → w pair ≡ 0) → sum_by w (pairs_on f a m) ≡ 0
  none-sum a zero none = refl
  none-sum a (suc m) none = by (f a) refl (none-sum (a + 1) m (λ k from to. none k (omega arith) (omega arith)))
    where
      by : (o : Option Pair) → f a ≡ o → sum_by w (pairs_on f (a + 1) m) ≡ 0 → sum_by w (cons_option (f a) (pairs_on f (a + 1) m)) ≡ 0
      by None is rest = ap (λ (o : Option Pair). sum_by w (cons_option o (pairs_on f (a + 1) m))) is ∙ rest
      by (Some pair) is rest =
          let here : w pair ≡ 0 = none a (omega arith) (omega arith) pair is in
          let more : sum_by w (pair ∷ pairs_on f (a + 1) m) ≡ w pair + sum_by w (pairs_on f (a + 1) m) = sum_by-cons w pair (pairs_on f (a + 1) m) in
          let zero_sum : sum_by w (pair ∷ pairs_on f (a + 1) m) ≡ 0 = omega arith in
          ap (λ (o : Option Pair). sum_by w (cons_option o (pairs_on f (a + 1) m))) is ∙ zero_sum

  all-sum : (a m : ℕ) → ((k : ℕ) → a ≤ k → k < a + m → (pair : Pair) → f k ≡ Some pair → w pair ≡ 1) → sum_by w (pairs_on f a m) ≡ length (pairs_on f a m)
  all-sum a zero all = refl
  all-sum a (suc m) all = by (f a) refl (all-sum (a + 1) m (λ k from to. all k (omega arith) (omega arith)))
    where
      by : (o : Option Pair) → f a ≡ o → sum_by w (pairs_on f (a + 1) m) ≡ length (pairs_on f (a + 1) m) → sum_by w (cons_option (f a) (pairs_on f (a + 1) m)) ≡ length (cons_option (f a) (pairs_on f (a + 1) m))
      by None is rest = subst (λ (o : Option Pair). sum_by w (cons_option o (pairs_on f (a + 1) m)) ≡ length (cons_option o (pairs_on f (a + 1) m))) (sym is) rest
      by (Some pair) is rest =
          let here : w pair ≡ 1 = all a (omega arith) (omega arith) pair is in
          let more : sum_by w (pair ∷ pairs_on f (a + 1) m) ≡ w pair + sum_by w (pairs_on f (a + 1) m) = sum_by-cons w pair (pairs_on f (a + 1) m) in
          let one_more : sum_by w (pair ∷ pairs_on f (a + 1) m) ≡ length (pair ∷ pairs_on f (a + 1) m) = omega arith in
          subst (λ (o : Option Pair). sum_by w (cons_option o (pairs_on f (a + 1) m)) ≡ length (cons_option o (pairs_on f (a + 1) m))) (sym is) one_more

  part-sum : (a x y : ℕ) → sum_by w (pairs_on f a (x + y)) ≡ sum_by w (pairs_on f a x) + sum_by w (pairs_on f (a + x) y)
  part-sum a x y =
      ap (λ (name_ids : List ℕ). sum_by w (filter_map f name_ids)) (range-append a x y)
      ∙ ap (sum_by w) (filter_map-append f (range_with_len a x) (range_with_len (a + x) y))
      ∙ sum_by-append w (pairs_on f a x) (pairs_on f (a + x) y)

  -- of a range with such pairs in the middle alone
  middle-sum : (a m b c : ℕ) → a ≤ b → b + c ≤ a + m
      → ((k : ℕ) → b ≤ k → k < b + c → (pair : Pair) → f k ≡ Some pair → w pair ≡ 1)
      → ((k : ℕ) → a ≤ k → k < a + m → (k < b) ⊎ (b + c ≤ k) → (pair : Pair) → f k ≡ Some pair → w pair ≡ 0)
      → sum_by w (pairs_on f a m) ≡ length (pairs_on f b c)
  middle-sum a m b c low high all none =
      let whole : m ≡ (b - a) + (c + (a + m - (b + c))) = omega arith in
      let at : a + (b - a) ≡ b = omega arith in
      let prefix : sum_by w (pairs_on f a (b - a)) ≡ 0 = none-sum a (b - a) (λ k from to. none k from (omega arith) (inl (omega arith))) in
      let mid : sum_by w (pairs_on f b c) ≡ length (pairs_on f b c) = all-sum b c all in
      let back : sum_by w (pairs_on f (b + c) (a + m - (b + c))) ≡ 0 = none-sum (b + c) (a + m - (b + c)) (λ k from to. none k (omega arith) (omega arith) (inr from)) in
      let one = part-sum a (b - a) (c + (a + m - (b + c))) in
      let two = part-sum b c (a + m - (b + c)) in
      let first : sum_by w (pairs_on f a m) ≡ sum_by w (pairs_on f a (b - a)) + sum_by w (pairs_on f b (c + (a + m - (b + c)))) =
      ap (λ (k : ℕ). sum_by w (pairs_on f a k)) whole ∙ one ∙ ap (λ (k : ℕ). sum_by w (pairs_on f a (b - a)) + sum_by w (pairs_on f k (c + (a + m - (b + c))))) at in
      omega (arith, first, two, prefix, mid, back)

-- ---- where a name stands

module _ (n : Numbering) (items : Items) where
  -- a setting stands at a candidate id of its name
  pub at-candidate : (name : List ℕ) (id : ℕ) → HasName (pair_at n items id) name → n.is_candidate id name ≡ true
  at-candidate name id has =
      let made = pair-made n id name (maps.get items id) (maps.get items (id + n.step)) has in
      let last = and_parts (is_name name && n.is_candidate id name && nat_le 1 (length made.value)) (nat_le (length made.value) n.longest) made.passes in
      let third = and_parts (is_name name && n.is_candidate id name) (nat_le 1 (length made.value)) last.0 in
      let second = and_parts (is_name name) (n.is_candidate id name) third.0 in
      second.1

  module _ (name : List ℕ) (from count : ℕ) (candidates : CandidatesAre n items name from count) where
    pub candidate-inside : (id : ℕ) → from ≤ id → id < from + count → IsInside n items id
    candidate-inside id a b =
        let low : n.first ≤ from = candidates.low in
        let high : from + count ≤ n.first + count_in n items = candidates.high in
        record { from = omega arith; to = omega arith }

    pub candidate-here : (id : ℕ) → from ≤ id → id < from + count → IsCandidate n items name id
    candidate-here id a b = record { inside = candidate-inside id a b; candidate = candidates.candidate id a b }

    -- none of its candidate ids has the name
    pub nowhere-candidate : ((id : ℕ) → from ≤ id → id < from + count → ¬ HasName (pair_at n items id) name) → IsIdOfName n items name None
    nowhere-candidate none other inside has =
        let its = candidates.only other inside (at-candidate name other has) in
        none other its.0 its.1 has

    -- the least of them that has it
    pub least-candidate : (id : ℕ) → from ≤ id → id < from + count → HasName (pair_at n items id) name → ((other : ℕ) → from ≤ other → other < id → ¬ HasName (pair_at n items other) name) → IsIdOfName n items name (Some id)
    least-candidate id a b has none =
        let inside = candidate-inside id a b in
        record {
          inside = inside;
          here = has;
          lowest = λ other low less is.
              let to : id < n.first + count_in n items = inside.to in
              let its = candidates.only other (record { from = low; to = omega arith }) (at-candidate name other is) in
              none other its.0 less is;
        }

    -- ---- free ids

    -- the least free id of the range that they are is the least free candidate
    pub least-free : (ids : IdRange) → ids.least ≡ from → ids.most + 1 ≡ from + count → (o : Option ℕ) → IsLeastFree ids n.step items o → IsFreeCandidate n items name o
    least-free ids least most None none = λ id here bare.
        let its = candidates.only id here.inside here.candidate in
        let low : from ≤ id = its.0 in
        let high : id < from + count = its.1 in
        none id (omega arith) (omega arith) (record { lower = bare.0; upper = bare.1 })
    least-free ids least most (Some free) is =
        let low : ids.least ≤ free = is.0 in
        let high : free ≤ ids.most = is.1 in (
          candidate-here free (omega arith) (omega arith),
          (is.2.lower, is.2.upper),
          λ id here less bare.
              let its = candidates.only id here.inside here.candidate in
              let from_low : from ≤ id = its.0 in
              is.3 id (omega arith) less (record { lower = bare.0; upper = bare.1 }),
        )

    -- ---- how many of them have a setting

    module _ (laws : IsNumbering n) (clean : HasNoOrphans n items) where
      abbrev on_candidates : List Pair
      on_candidates = pairs_on (pair_at n items) from count

      -- where no id is free, all
      pub candidates-full : IsFreeCandidate n items name None → length on_candidates ≡ count
      candidates-full none = on-full (pair_at n items) from count (λ id a b gone.
          let inside = candidate-inside id a b in
          by id inside gone (maps.get items id) refl (maps.get items (id + n.step)) refl (none id (candidate-here id a b)))
        where
          some_none : (x : List ℕ) → Some x ≡ None → ⊥
          some_none x e = cc

          by : (id : ℕ) → IsInside n items id → pair_at n items id ≡ None → (o : Option (List ℕ)) → maps.get items id ≡ o → (p : Option (List ℕ)) → maps.get items (id + n.step) ≡ p → ¬ IsFree items id (id + n.step) → ⊥
          by id inside gone (Some x) is p it bare = used-name n laws items clean id inside (λ e. some_none x (sym is ∙ e)) gone
          by id inside gone None is (Some v) it bare = used-value n laws items clean id inside (λ e. some_none v (sym it ∙ e)) gone
          by id inside gone None is None it bare = bare (is, it)

      -- else fewer
      pub candidates-few : (free : ℕ) → IsFreeCandidate n items name (Some free) → length on_candidates < count
      candidates-few free is =
          let its = candidates.only free is.0.inside is.0.candidate in
          on-free (pair_at n items) from count free its.0 its.1 (no-name n free (maps.get items free) (maps.get items (free + n.step)) is.1.0)

      -- the names of the map that share the candidate ids are as many
      pub candidates-count : (same : List ℕ → Bool)
          → ((other : List ℕ) (id : ℕ) → from ≤ id → id < from + count → n.is_candidate id other ≡ true → same other ≡ true)
          → ((other : List ℕ) (id : ℕ) → (id < from) ⊎ (from + count ≤ id) → n.is_candidate id other ≡ true → same other ≡ false)
          → count_by same (maps.keys (settings_in n items)) ≡ length on_candidates
      candidates-count same shares parts =
          keys-sum same (maps.entries (settings_in n items))
          ∙ ap (λ (m : Map). sum_by (weigh same) (maps.entries m)) (settings-on n items)
          ∙ map-sum (weigh same) (pair_at n items) n.first (count_in n items) (clean-distinct n laws items clean)
          ∙ middle-sum (weigh same) (pair_at n items) n.first (count_in n items) from count candidates.low candidates.high
          (λ k a b pair is. ap (λ (t : Bool). cond t 1 0) (shares pair.0 k a b (here k pair is)))
          (λ k a b out pair is. ap (λ (t : Bool). cond t 1 0) (parts pair.0 k out (here k pair is)))
        where
          here : (k : ℕ) (pair : Pair) → pair_at n items k ≡ Some pair → n.is_candidate k pair.0 ≡ true
          here k pair is = at-candidate pair.0 k (subst (λ (o : Option Pair). HasName o pair.0) (sym is) refl)
