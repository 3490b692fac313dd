-- Lists of places, and the first of them that passes a test.
use Rattle.std.proofs.Common.{◌≡◌, ℕ, zero, suc, ◌+◌, ◌<◌, ◌≤◌, Bool, true, false, cond, List, [], ◌∷◌, ◌++◌, map, Some, None, inl, inr, refl, sym, ap, subst, ◌∙◌, arith}
use Rattle.std.specs.List.{range_with_len, filter, find, flat_map, All}
use Rattle.std.proofs.lemmas.Bool.{cases_Bool, cases_eq}
use Rattle.std.proofs.lemmas.List.Elements.{All-head, All-tail, All-from_get_or}
use Rattle.std.proofs.lemmas.List.FromFn.{length-range_with_len, get_or-range_with_len, length-map-range_with_len, get_or-map-range_with_len}

pub All-range : (P : ℕ → Type 0) (a n : ℕ) → ((k : ℕ) → a ≤ k → k < a + n → P k) → All P (range_with_len a n)
All-range P a n each =
    let long = length-range_with_len a n in
    All-from_get_or P (range_with_len a n) 0 (λ i lt. subst P (sym (get_or-range_with_len a n i 0 (omega arith))) (each (a + i) (omega arith) (omega arith)))

pub range-append : (a m n : ℕ) → range_with_len a (m + n) ≡ range_with_len a m ++ range_with_len (a + m) n
range-append a zero n =
    let none : 0 + n ≡ n = omega arith in
    let here : a ≡ a + 0 = omega arith in
    ap (range_with_len a) none ∙ ap (λ (k : ℕ). range_with_len k n) here
range-append a (suc m) n =
    let e : suc m + n ≡ suc (m + n) = omega arith in
    let s : a + 1 + m ≡ a + suc m = omega arith in
    ap (range_with_len a) e ∙ ap (λ xs. a ∷ xs) (range-append (a + 1) m n ∙ ap (λ (k : ℕ). range_with_len (a + 1) m ++ range_with_len k n) s)

pub filter_all : {X : Type 0} (p : X → Bool) (xs : List X) → All (λ k. p k ≡ true) xs → filter p xs ≡ xs
filter_all p [] h = refl
filter_all p (x ∷ xs) h = ap (λ (t : Bool). cond t (x ∷ filter p xs) (filter p xs)) (All-head (λ k. p k ≡ true) x xs h) ∙ ap (λ ys. x ∷ ys) (filter_all p xs (All-tail (λ k. p k ≡ true) x xs h))

pub filter_none : {X : Type 0} (p : X → Bool) (xs : List X) → All (λ k. p k ≡ false) xs → filter p xs ≡ []
filter_none p [] h = refl
filter_none p (x ∷ xs) h = ap (λ (t : Bool). cond t (x ∷ filter p xs) (filter p xs)) (All-head (λ k. p k ≡ false) x xs h) ∙ filter_none p xs (All-tail (λ k. p k ≡ false) x xs h)

pub flat_map-agree : {X : Type 0} (f g : ℕ → List X) (xs : List ℕ) → All (λ k. f k ≡ g k) xs → flat_map f xs ≡ flat_map g xs
flat_map-agree f g [] h = refl
flat_map-agree f g (x ∷ xs) h = ap (λ ys. ys ++ flat_map f xs) (All-head (λ k. f k ≡ g k) x xs h) ∙ ap (λ ys. g x ++ ys) (flat_map-agree f g xs (All-tail (λ k. f k ≡ g k) x xs h))

pub flat_map-map : {X : Type 0} (f : ℕ → List X) (g : ℕ → ℕ) (xs : List ℕ) → flat_map f (map g xs) ≡ flat_map (λ k. f (g k)) xs
flat_map-map f g [] = refl
flat_map-map f g (x ∷ xs) = ap (λ ys. f (g x) ++ ys) (flat_map-map f g xs)

-- the first place of a range that passes the test
pub find_nothing : (p : ℕ → Bool) (a n : ℕ) → ((k : ℕ) → a ≤ k → k < a + n → p k ≡ false) → find p (range_with_len a n) ≡ None
find_nothing p a zero none = refl
find_nothing p a (suc n) none =
    ap (λ (t : Bool). cond t (Some a) (find p (range_with_len (a + 1) n))) (none a (omega arith) (omega arith))
    ∙ find_nothing p (a + 1) n (λ k from below. none k (omega arith) (omega arith))

pub find_first : (p : ℕ → Bool) (a n place : ℕ) → a ≤ place → place < a + n → p place ≡ true → ((k : ℕ) → a ≤ k → k < place → p k ≡ false) → find p (range_with_len a n) ≡ Some place
find_first p a zero place from below here none = absurd (omega arith)
find_first p a (suc n) place from below here none = elim (cases_eq a place) [
  | inl same ↦ ap (λ (t : Bool). cond t (Some a) (find p (range_with_len (a + 1) n))) (ap p same ∙ here) ∙ ap (λ (k : ℕ). Some k) same
  | inr apart ↦
      ap (λ (t : Bool). cond t (Some a) (find p (range_with_len (a + 1) n))) (none a (omega arith) (omega (arith, apart)))
      ∙ find_first p (a + 1) n place (omega (arith, apart)) (omega arith) here (λ k low high. none k (omega arith) high)
]

some_none : (a : ℕ) → Some a ≡ None → ⊥
some_none a e = cc

none_some : (a : ℕ) → None ≡ Some a → ⊥
none_some a e = cc

some_same : (a b : ℕ) → Some a ≡ Some b → a ≡ b
some_same a b e = cc

-- and what it says of the places
pub found_none : (p : ℕ → Bool) (a n : ℕ) → find p (range_with_len a n) ≡ None → (k : ℕ) → a ≤ k → k < a + n → p k ≡ false
found_none p a zero none k from below = absurd (omega arith)
found_none p a (suc n) none k from below = elim (cases_Bool (p a)) [
  | inl here ↦ absurd (some_none a (sym (ap (λ (t : Bool). cond t (Some a) (find p (range_with_len (a + 1) n))) here) ∙ none))
  | inr not_here ↦
      let rest : find p (range_with_len (a + 1) n) ≡ None = sym (ap (λ (t : Bool). cond t (Some a) (find p (range_with_len (a + 1) n))) not_here) ∙ none in
      elim (cases_eq k a) [
        | inl same ↦ ap p same ∙ not_here
        | inr apart ↦ found_none p (a + 1) n rest k (omega (arith, apart)) (omega arith)
      ]
]

pub record IsFirst (p : ℕ → Bool) (a n place : ℕ) : Type 0 where
  pub from : a ≤ place
  pub below : place < a + n
  pub passes : p place ≡ true
  pub none_before : (k : ℕ) → a ≤ k → k < place → p k ≡ false

pub found_some : (p : ℕ → Bool) (a n place : ℕ) → find p (range_with_len a n) ≡ Some place → IsFirst p a n place
found_some p a zero place is = absurd (none_some place is)
found_some p a (suc n) place is = elim (cases_Bool (p a)) [
  | inl here ↦
      let same : a ≡ place = some_same a place (sym (ap (λ (t : Bool). cond t (Some a) (find p (range_with_len (a + 1) n))) here) ∙ is) in
      record { from = omega arith; below = omega arith; passes = ap p (sym same) ∙ here; none_before = λ k low high. absurd (omega arith) }
  | inr not_here ↦
      let rest = found_some p (a + 1) n place (sym (ap (λ (t : Bool). cond t (Some a) (find p (range_with_len (a + 1) n))) not_here) ∙ is) in
      record {
        from = omega (arith, rest.from);
        below = omega (arith, rest.below);
        passes = rest.passes;
        none_before = λ k low high. elim (cases_eq k a) [
          | inl same ↦ ap p same ∙ not_here
          | inr apart ↦ rest.none_before k (omega (arith, apart)) high
        ];
      }
]

-- one place more
pub range_more : (p : ℕ → Bool) (a i : ℕ) → ((k : ℕ) → a ≤ k → k < i → p k ≡ false) → p i ≡ false → (k : ℕ) → a ≤ k → k < i + 1 → p k ≡ false
range_more p a i below here k low high = elim (cases_eq k i) [
  | inl same ↦ ap p same ∙ here
  | inr apart ↦ below k low (omega (arith, apart))
]

pub All-map : {X : Type 0} (P : X → Type 0) (f : ℕ → X) (a n : ℕ) → ((k : ℕ) → a ≤ k → k < a + n → P (f k)) → All P (map f (range_with_len a n))
All-map P f a n each =
    let long = length-map-range_with_len f a n in
    All-from_get_or P (map f (range_with_len a n)) (f a) (λ i lt. subst P (sym (get_or-map-range_with_len f a n i (a + i) (f a) (omega arith) refl)) (each (a + i) (omega arith) (omega arith)))
