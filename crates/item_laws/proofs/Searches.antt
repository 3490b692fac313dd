-- Places that pass a test: the first and the second of them.
use Rattle.std.proofs.Common.{◌≡◌, ℕ, zero, suc, ◌+◌, ◌-◌, ◌<◌, ◌≤◌, Bool, true, false, not, ◌&&◌, cond, List, [], ◌∷◌, Some, None, refl, sym, ap, ◌∙◌, inl, inr, arith}
use Rattle.std.specs.List.{find, filter, list_all, range_with_len, slice_get}
use Rattle.std.proofs.lemmas.Bool.{cases_eq, cases_Bool}
use Rattle.item_laws.proofs.Places.{All-range, find_none}

-- ---- the first place that passes

pub find_from : (p : ℕ → Bool) (a n k : ℕ) → ((j : ℕ) → a ≤ j → j < k → p j ≡ false) → a ≤ k → k < a + n → p k ≡ true → find p (range_with_len a n) ≡ Some k
find_from p a zero k before ge lt here = absurd (omega arith)
find_from p a (suc n) k before ge lt here =
    elim (cases_eq a k) [
      | inl e ↦ ap (λ (t : Bool). cond t (Some a) (find p (range_with_len (a + 1) n))) (ap p e ∙ here) ∙ ap (λ (m : ℕ). Some m) e
      | inr apart ↦
          ap (λ (t : Bool). cond t (Some a) (find p (range_with_len (a + 1) n))) (before a (omega arith) (omega (arith, apart)))
          ∙ find_from p (a + 1) n k (λ j low high. before j (omega arith) high) (omega (arith, apart)) (omega arith) here
    ]

pub find_nowhere : (p : ℕ → Bool) (a n : ℕ) → ((j : ℕ) → a ≤ j → j < a + n → p j ≡ false) → find p (range_with_len a n) ≡ None
find_nowhere p a n none = find_none p (range_with_len a n) (All-range (λ k. p k ≡ false) a n none)

-- ---- the first and the second that pass

pub first-filter : (p : ℕ → Bool) (xs : List ℕ) → slice_get (filter p xs) 0 ≡ find p xs
first-filter p [] = refl
first-filter p (x ∷ xs) =
    elim (cases_Bool (p x)) [
      | inl here ↦ ap (λ (t : Bool). slice_get (cond t (x ∷ filter p xs) (filter p xs)) 0) here ∙ sym (ap (λ (t : Bool). cond t (Some x) (find p xs)) here)
      | inr apart ↦ ap (λ (t : Bool). slice_get (cond t (x ∷ filter p xs) (filter p xs)) 0) apart ∙ first-filter p xs ∙ sym (ap (λ (t : Bool). cond t (Some x) (find p xs)) apart)
    ]

some_none : (x : ℕ) → Some x ≡ None → ⊥
some_none x e = cc

same_some : (x y : ℕ) → Some x ≡ Some y → x ≡ y
same_some x y e = cc

pub second-filter : (p : ℕ → Bool) (a n k : ℕ) → find p (range_with_len a n) ≡ Some k → slice_get (filter p (range_with_len a n)) 1 ≡ find p (range_with_len (k + 1) (a + n - (k + 1)))
second-filter p a zero k e = absurd (some_none k (sym e))
second-filter p a (suc n) k e =
    elim (cases_Bool (p a)) [
      | inl here ↦
          let is : a ≡ k = same_some a k (sym (ap (λ (t : Bool). cond t (Some a) (find p (range_with_len (a + 1) n))) here) ∙ e) in
          let width : n ≡ a + suc n - (a + 1) = omega arith in
          ap (λ (t : Bool). slice_get (cond t (a ∷ filter p (range_with_len (a + 1) n)) (filter p (range_with_len (a + 1) n))) 1) here
          ∙ first-filter p (range_with_len (a + 1) n)
          ∙ ap (λ (m : ℕ). find p (range_with_len (a + 1) m)) width ∙ ap (λ (j : ℕ). find p (range_with_len (j + 1) (a + suc n - (j + 1)))) is
      | inr apart ↦
          let width : a + 1 + n ≡ a + suc n = omega arith in
          ap (λ (t : Bool). slice_get (cond t (a ∷ filter p (range_with_len (a + 1) n)) (filter p (range_with_len (a + 1) n))) 1) apart
          ∙ second-filter p (a + 1) n k (sym (ap (λ (t : Bool). cond t (Some a) (find p (range_with_len (a + 1) n))) apart) ∙ e)
          ∙ ap (λ (m : ℕ). find p (range_with_len (k + 1) (m - (k + 1)))) width
    ]

pub second-none : (p : ℕ → Bool) (xs : List ℕ) → find p xs ≡ None → slice_get (filter p xs) 1 ≡ None
second-none p [] none = refl
second-none p (x ∷ xs) none =
    elim (cases_Bool (p x)) [
      | inl here ↦ absurd (some_none x (sym (ap (λ (t : Bool). cond t (Some x) (find p xs)) here) ∙ none))
      | inr apart ↦ ap (λ (t : Bool). slice_get (cond t (x ∷ filter p xs) (filter p xs)) 1) apart ∙ second-none p xs (sym (ap (λ (t : Bool). cond t (Some x) (find p xs)) apart) ∙ none)
    ]

-- none is not closed where none is found that is not
pub all-found : (p : ℕ → Bool) (xs : List ℕ) → find (λ k. not (p k)) xs ≡ None → list_all p xs ≡ true
all-found p [] none = refl
all-found p (x ∷ xs) none =
    elim (cases_Bool (p x)) [
      | inl here ↦ ap (λ (t : Bool). t && list_all p xs) here ∙ all-found p xs (sym (ap (λ (t : Bool). cond (not t) (Some x) (find (λ k. not (p k)) xs)) here) ∙ none)
      | inr apart ↦ absurd (some_none x (sym (ap (λ (t : Bool). cond (not t) (Some x) (find (λ k. not (p k)) xs)) apart) ∙ none))
    ]

pub not_all-found : (p : ℕ → Bool) (xs : List ℕ) (k : ℕ) → find (λ k. not (p k)) xs ≡ Some k → list_all p xs ≡ false
not_all-found p [] k some = absurd (some_none k (sym some))
not_all-found p (x ∷ xs) k some =
    elim (cases_Bool (p x)) [
      | inl here ↦ ap (λ (t : Bool). t && list_all p xs) here ∙ not_all-found p xs k (sym (ap (λ (t : Bool). cond (not t) (Some x) (find (λ k. not (p k)) xs)) here) ∙ some)
      | inr apart ↦ ap (λ (t : Bool). t && list_all p xs) apart
    ]
