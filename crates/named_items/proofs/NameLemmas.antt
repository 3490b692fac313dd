-- What the map says of a name, how many names it has, and that it is lawful.
use Rattle.std.proofs.Common.{◌≡◌, ℕ, zero, suc, ◌+◌, ◌-◌, ◌<◌, ◌≤◌, true, List, [], ◌∷◌, length, Option, Some, None, refl, sym, ap, subst, ◌∙◌, inl, inr, arith}
use Rattle.std.specs.Prelude.{sum_by}
use Rattle.std.specs.List.{cons_option}
use Rattle.std.specs.FinMap as map
use Rattle.std.proofs.lemmas.Bool.{cases_eq, cond-true}
use Rattle.std.proofs.lemmas.List.Sums.{sum_by-cons}
use Rattle.item_laws.specs.Items.{Items}
use Rattle.backend_api.specs.Map.{Map}
use Rattle.backend_api.proofs.MapLemmas.{ties_itself}
use Rattle.named_items.specs.Numbering.{Numbering, IsNumbering}
use Rattle.named_items.specs.Pairs.{count_in, is_pair, pair_at, settings_in, HasName, IsInside, IsAt, IsIdOfName, HasNoOrphans}
use Rattle.named_items.proofs.RangePairs.{Pair, tie, found, look, pairs_on, get-on, on-none, on-some, on-split, or-some, or-none}
use Rattle.named_items.proofs.PairLemmas.{pair-made, made-pair, settings-on}
use Rattle.named_items.proofs.CostLemmas.{map-sum, clean-distinct}

some_none : {A : Type 0} (x : A) → Some x ≡ None → ⊥
some_none x e = cc

-- ---- what the map says of a name

module _ (n : Numbering) (items : Items) where
  -- where it stands
  pub get-at : (name value : List ℕ) (id : ℕ) → IsAt n items name id → map.get items (id + n.step) ≡ Some value → map.get (settings_in n items) name ≡ Some value
  get-at name value id at is =
      let from : n.first ≤ id = at.inside.from in
      let to : id < n.first + count_in n items = at.inside.to in
      let made = pair-made n id name (map.get items id) (map.get items (id + n.step)) at.here in
      let same : made.value ≡ value = some_same made.value value (sym made.is_value ∙ is) in
      let pair : pair_at n items id ≡ Some (name, value) = made-pair n id name value (map.get items id) (map.get items (id + n.step)) made.is_name is (subst (λ (v : List ℕ). is_pair n id name v ≡ true) same made.passes) in
      let low : look name (pairs_on (pair_at n items) n.first (id - n.first)) ≡ None = on-none (pair_at n items) name n.first (id - n.first) (λ k x y. at.lowest k x (omega arith)) in
      let rest : Option (List ℕ) = look name (pairs_on (pair_at n items) (id + 1) (n.first + count_in n items - (id + 1))) in
      ap (λ (m : Map). map.get m name) (settings-on n items) ∙ get-on (pair_at n items) n.first (count_in n items) name
      ∙ on-split (pair_at n items) name n.first (count_in n items) id from to
      ∙ or-none (look name (pairs_on (pair_at n items) n.first (id - n.first))) _ low
      ∙ or-some (found name (pair_at n items id)) rest value (ap (found name) pair ∙ cond-true (tie name name) (Some value) None (ties_itself name))
    where
      some_same : (x y : List ℕ) → Some x ≡ Some y → x ≡ y
      some_same x y e = cc

  -- where it stands nowhere
  pub get-nowhere : (name : List ℕ) → IsIdOfName n items name None → map.get (settings_in n items) name ≡ None
  get-nowhere name none =
      ap (λ (m : Map). map.get m name) (settings-on n items) ∙ get-on (pair_at n items) n.first (count_in n items) name
      ∙ on-none (pair_at n items) name n.first (count_in n items) (λ k from to. none k (record { from = from; to = to }))

  -- the value of a name that stands somewhere
  pub at-value : (name : List ℕ) (id : ℕ) → IsAt n items name id → (value : List ℕ) × (map.get items (id + n.step) ≡ Some value)
  at-value name id at =
      let made = pair-made n id name (map.get items id) (map.get items (id + n.step)) at.here in
      (made.value, made.is_value)

  -- a name with a value stands somewhere, and one without nowhere
  pub nowhere-none : (name : List ℕ) → map.get (settings_in n items) name ≡ None → IsIdOfName n items name None
  nowhere-none name none = λ id inside has. lowest id inside has
    where
      look-none : look name (pairs_on (pair_at n items) n.first (count_in n items)) ≡ None
      look-none = sym (ap (λ (m : Map). map.get m name) (settings-on n items) ∙ get-on (pair_at n items) n.first (count_in n items) name) ∙ none

      lowest : (id : ℕ) → IsInside n items id → HasName (pair_at n items id) name → ⊥
      lowest id inside has =
          let some = on-some (pair_at n items) name n.first (count_in n items) id inside.from inside.to has in
          some_none some.0 (sym some.1 ∙ look-none)

-- ---- how many names

abbrev one : List ℕ × List ℕ → ℕ
one pair = 1

length-sum : (xs : List Pair) → length xs ≡ sum_by one xs
length-sum [] = refl
length-sum (x ∷ xs) =
    let ih = length-sum xs in
    let more = sum_by-cons one x xs in
    omega arith

pub on-few : (f : ℕ → Option Pair) (a m : ℕ) → length (pairs_on f a m) ≤ m
on-few f a zero = omega arith
on-few f a (suc m) = by (f a) (on-few f (a + 1) m)
  where
    by : (o : Option Pair) → length (pairs_on f (a + 1) m) ≤ m → length (cons_option o (pairs_on f (a + 1) m)) ≤ suc m
    by None le = omega arith
    by (Some x) le = omega arith

pub on-full : (f : ℕ → Option Pair) (a m : ℕ) → ((k : ℕ) → a ≤ k → k < a + m → ¬ (f k ≡ None)) → length (pairs_on f a m) ≡ m
on-full f a zero full = refl
on-full f a (suc m) full = by (f a) refl (on-full f (a + 1) m (λ k from to. full k (omega arith) (omega arith)))
  where
    by : (o : Option Pair) → f a ≡ o → length (pairs_on f (a + 1) m) ≡ m → length (cons_option (f a) (pairs_on f (a + 1) m)) ≡ suc m
    by None is ih = absurd (full a (omega arith) (omega arith) is)
    by (Some x) is ih =
        let e : length (cons_option (f a) (pairs_on f (a + 1) m)) ≡ suc (length (pairs_on f (a + 1) m)) = ap (λ (o : Option Pair). length (cons_option o (pairs_on f (a + 1) m))) is in
        omega arith

pub on-free : (f : ℕ → Option Pair) (a m p : ℕ) → a ≤ p → p < a + m → f p ≡ None → length (pairs_on f a m) < m
on-free f a zero p from to none = absurd (omega arith)
on-free f a (suc m) p from to none =
    elim (cases_eq p a) [
      | inl e ↦
          let first : length (cons_option (f a) (pairs_on f (a + 1) m)) ≡ length (pairs_on f (a + 1) m) = ap (λ (o : Option Pair). length (cons_option o (pairs_on f (a + 1) m))) (ap f (sym e) ∙ none) in
          let le = on-few f (a + 1) m in
          omega arith
      | inr apart ↦
          let ih = on-free f (a + 1) m p (omega arith) (omega arith) none in
          by (f a) ih
    ]
  where
    by : (o : Option Pair) → length (pairs_on f (a + 1) m) < m → length (cons_option o (pairs_on f (a + 1) m)) < suc m
    by None lt = omega arith
    by (Some x) lt = omega arith

module _ (n : Numbering) (laws : IsNumbering n) (items : Items) (clean : HasNoOrphans n items) where
  pub clean-len : map.len (settings_in n items) ≡ length (pairs_on (pair_at n items) n.first (count_in n items))
  clean-len =
      map.len-entries (settings_in n items) ∙ length-sum (map.entries (settings_in n items))
      ∙ ap (λ (m : Map). sum_by one (map.entries m)) (settings-on n items)
      ∙ map-sum one (pair_at n items) n.first (count_in n items) (clean-distinct n laws items clean)
      ∙ sym (length-sum (pairs_on (pair_at n items) n.first (count_in n items)))

  -- An id that has a name or a value has both.
  pub used-name : (candidate : ℕ) → IsInside n items candidate → ¬ (map.get items candidate ≡ None) → ¬ (pair_at n items candidate ≡ None)
  used-name candidate inside used none =
      let b : n.count_id < n.first = laws.below in
      let f : n.first ≤ candidate = inside.from in
      let t : candidate < n.first + count_in n items = inside.to in
      let few : count_in n items ≤ n.step = laws.few (map.get items n.count_id) in
      elim (clean candidate) [
        | inl gone ↦ used gone
        | inr kept ↦ elim kept [
          | inl count ↦ let e : candidate ≡ n.count_id = count.is in absurd (omega arith)
          | inr part ↦
              let g : n.first ≤ part.candidate = part.at.inside.from in
              elim part.is [
                | inl e ↦ let h : ⊥ = subst (λ (o : Option Pair). HasName o part.name) (sym (ap (pair_at n items) e) ∙ none) part.at.here in h
                | inr e ↦ absurd (omega arith)
              ]
        ]
      ]

  pub used-value : (candidate : ℕ) → IsInside n items candidate → ¬ (map.get items (candidate + n.step) ≡ None) → ¬ (pair_at n items candidate ≡ None)
  used-value candidate inside used none =
      let b : n.count_id < n.first = laws.below in
      let f : n.first ≤ candidate = inside.from in
      let few : count_in n items ≤ n.step = laws.few (map.get items n.count_id) in
      elim (clean (candidate + n.step)) [
        | inl gone ↦ used gone
        | inr kept ↦ elim kept [
          | inl count ↦ let e : candidate + n.step ≡ n.count_id = count.is in absurd (omega arith)
          | inr part ↦
              let g : n.first ≤ part.candidate = part.at.inside.from in
              let h : part.candidate < n.first + count_in n items = part.at.inside.to in
              elim part.is [
                | inl e ↦ absurd (omega arith)
                | inr e ↦
                    let same : part.candidate ≡ candidate = omega arith in
                    let h : ⊥ = subst (λ (o : Option Pair). HasName o part.name) (ap (pair_at n items) same ∙ none) part.at.here in h
              ]
        ]
      ]
