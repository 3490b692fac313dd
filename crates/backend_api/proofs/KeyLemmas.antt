-- The keys of a map in their order, and maps that are made again from their pairs; for any order of keys.
use Rattle.std.proofs.Common.{◌≡◌, ℕ, zero, suc, ◌+◌, Bool, true, false, cond, ◌&&◌, T, List, [], ◌∷◌, map, Option, Some, None, Ordering, Less, Equal, Greater, is_eq, refl, sym, ap, subst, ◌∙◌, arith}
use Rattle.std.specs.Prelude.{find, fold}
use Rattle.std.specs.List.{slice_get}
use Rattle.std.specs.Option.{option_or}
use Rattle.std.specs.Cmp.{IsTotalOrder, tied_itself}
use Rattle.std.specs.FinMap as maps
use Rattle.std.specs.FinMap.{FinMap, IsAntisymmetric}
use Rattle.std.specs.FinMap.Entries.{below_all, is_sorted}
use Rattle.std.specs.FinMap.Entries as listed
use Rattle.std.specs.Ordering.{is_lt, ordering_reverse, eq_by_cmp}

first_of : (a b : Bool) → T (a && b) → T a
first_of true b p = tt
first_of false b p = p

rest_of : (a b : Bool) → T (a && b) → T b
rest_of true b p = p
rest_of false b p = absurd p

less_is : (o : Ordering) → T (is_lt o) → o ≡ Less
less_is Less p = refl
less_is Equal p = absurd p
less_is Greater p = absurd p

equal_is : (o : Ordering) → is_eq o ≡ true → o ≡ Equal
equal_is Less p = absurd (cc)
equal_is Equal p = refl
equal_is Greater p = absurd (cc)

some_is : {A : Type 0} (x y : A) → Some x ≡ Some y → x ≡ y
some_is x y e = cc

-- a key is not behind itself
not-itself : {K : Type 0} {R : K → K → Ordering} → IsTotalOrder R → (k : K) → is_lt (R k k) ≡ false
not-itself o k = ap is_lt (tied_itself o k)

-- nor before a lesser one
not-before : {K : Type 0} {R : K → K → Ordering} → IsTotalOrder R → (k j : K) → R j k ≡ Less → is_lt (R k j) ≡ false
not-before o k j less = ap is_lt (o.antisymm k j ∙ ap ordering_reverse less)

module _ {K X : Type 0} {R : K → K → Ordering} (o : IsTotalOrder R) where
  abbrev keys_in : List (K × X) → List K
  keys_in es = map (λ e. e.0) es

  -- the first key of a list behind it is found first
  found-first : (k : K) (es : List (K × X)) → T (below_all R k es) → find (λ q. is_lt (R k q)) (map (λ e. e.0) es) ≡ slice_get (map (λ e. e.0) es) 0
  found-first k [] below = refl
  found-first k (e ∷ es) below = ap (λ (r : Ordering). cond (is_lt r) (Some e.0) (find (λ q. is_lt (R k q)) (keys_in es))) (less_is (R k e.0) (first_of (is_lt (R k e.0)) (below_all R k es) below))

  -- each key of a list that is above another
  above : (k : K) (es : List (K × X)) → T (below_all R k es) → (i : ℕ) (q : K) → slice_get (map (λ e. e.0) es) i ≡ Some q → R k q ≡ Less
  above k [] below i q at = absurd (cc)
  above k (e ∷ es) below zero q at = subst (λ (x : K). R k x ≡ Less) (some_is e.0 q at) (less_is (R k e.0) (first_of (is_lt (R k e.0)) (below_all R k es) below))
  above k (e ∷ es) below (suc i) q at = above k es (rest_of (is_lt (R k e.0)) (below_all R k es) below) i q at

  pub walks : (es : List (K × X)) → T (is_sorted R es) → (i : ℕ) (k : K) → slice_get (map (λ e. e.0) es) i ≡ Some k → find (λ q. is_lt (R k q)) (map (λ e. e.0) es) ≡ slice_get (map (λ e. e.0) es) (i + 1)
  walks [] sorted i k at = absurd (cc)
  walks (e ∷ es) sorted zero k at =
      let same : e.0 ≡ k = some_is e.0 k at in
      ap (λ (b : Bool). cond b (Some e.0) (find (λ q. is_lt (R k q)) (keys_in es))) (ap (λ (x : K). is_lt (R x e.0)) (sym same) ∙ not-itself o e.0)
      ∙ found-first k es (subst (λ (x : K). T (below_all R x es)) same (first_of (below_all R e.0 es) (is_sorted R es) sorted))
  walks (e ∷ es) sorted (suc i) k at =
      let less = above e.0 es (first_of (below_all R e.0 es) (is_sorted R es) sorted) i k at in
      let step : suc i + 1 ≡ suc (i + 1) = omega arith in
      ap (λ (b : Bool). cond b (Some e.0) (find (λ q. is_lt (R k q)) (keys_in es))) (not-before o k e.0 less)
      ∙ walks es (rest_of (below_all R e.0 es) (is_sorted R es) sorted) i k at
      ∙ ap (slice_get (keys_in (e ∷ es))) (sym step)

  -- ---- made again from its pairs

  abbrev pub with_pairs : FinMap R X → List (K × X) → FinMap R X
  with_pairs m pairs = fold (λ (n : FinMap R X) (e : K × X). maps.insert n e.0 e.1) m pairs

  none-below : (q k : K) (es : List (K × X)) → R q k ≡ Equal → T (below_all R k es) → listed.find R q es ≡ None
  none-below q k [] tie below = refl
  none-below q k (e ∷ es) tie below =
      ap (λ (r : Ordering). cond (is_eq r) (Some e.1) (listed.find R q es)) (o.congr q k e.0 tie ∙ less_is (R k e.0) (first_of (is_lt (R k e.0)) (below_all R k es) below))
      ∙ none-below q k es tie (rest_of (is_lt (R k e.0)) (below_all R k es) below)

  or-step : (b : Bool) (v : X) (found old : Option X) → (b ≡ true → found ≡ None) → option_or found (cond b (Some v) old) ≡ option_or (cond b (Some v) found) old
  or-step true v found old none = ap (λ (f : Option X). option_or f (Some v)) (none refl)
  or-step false v found old none = refl

  get-pairs : (es : List (K × X)) → T (is_sorted R es) → (m : FinMap R X) (q : K) → maps.get (with_pairs m es) q ≡ option_or (listed.find R q es) (maps.get m q)
  get-pairs [] sorted m q = refl
  get-pairs (e ∷ es) sorted m q =
      get-pairs es (rest_of (below_all R e.0 es) (is_sorted R es) sorted) (maps.insert m e.0 e.1) q
      ∙ ap (option_or (listed.find R q es)) (maps.get-insert o m e.0 e.1 q)
      ∙ or-step (eq_by_cmp R q e.0) e.1 (listed.find R q es) (maps.get m q)
      (λ (tie : eq_by_cmp R q e.0 ≡ true). none-below q e.0 es (equal_is (R q e.0) tie) (first_of (below_all R e.0 es) (is_sorted R es) sorted))

  or-none : (found : Option X) → option_or found None ≡ found
  or-none None = refl
  or-none (Some x) = refl

  pub rebuilt : IsAntisymmetric R → (m : FinMap R X) → with_pairs maps.empty (maps.entries m) ≡ m
  rebuilt same m = maps.same_map o same (with_pairs maps.empty (maps.entries m)) m (λ q.
      get-pairs (maps.entries m) (maps.entries_sorted m) maps.empty q
      ∙ ap (option_or (listed.find R q (maps.entries m))) (maps.get-empty R q)
      ∙ or-none (listed.find R q (maps.entries m))
      ∙ sym (maps.get-entries m q))
