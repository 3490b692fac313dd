-- Places round the end of an area: numbers alone, and lists of places.
use Rattle.std.proofs.Common.{◌≡◌, ℕ, suc, zero, ◌+◌, ◌-◌, ◌<◌, ◌≤◌, Bool, true, false, cond, eqb, leb, List, [], ◌∷◌, ◌++◌, drop, Some, None, refl, sym, ap, subst, ◌∙◌, inl, inr, append_assoc, arith}
use Rattle.std.specs.List.{range_with_len, filter, find, flat_map, All}
use Rattle.std.proofs.lemmas.Bool.{cases_lt, cases_eq, cond-true, cond-false, eq-eqb, ne_eqb, le-leb, lt-leb}
use Rattle.std.proofs.lemmas.List.{append-nil}
use Rattle.std.proofs.lemmas.List.Elements.{All-head, All-tail, All-from_get_or, All-append, filter-append}
use Rattle.std.proofs.lemmas.List.FromFn.{length-range_with_len, get_or-range_with_len}
use Rattle.item_laws.specs.Forms.{distance, others, rest}

-- ---- how far a place is from the open one, going round

abbrev pub after : ℕ → ℕ → ℕ
after count place = cond (eqb (place + 1) count) 0 (place + 1)

abbrev pub before : ℕ → ℕ → ℕ
before count place = cond (eqb place 0) (count - 1) (place - 1)

pub distance-up : (count from place : ℕ) → from ≤ place → distance count from place ≡ place - from
distance-up count from place le = cond-true (leb from place) (place - from) (count - from + place) (le-leb from place le)

pub distance-round : (count from place : ℕ) → place < from → distance count from place ≡ count - from + place
distance-round count from place lt = cond-false (leb from place) (place - from) (count - from + place) (lt-leb from place lt)

pub distance-same : (count place : ℕ) → distance count place place ≡ 0
distance-same count place = distance-up count place place (omega arith) ∙ omega arith

pub after-last : (count place : ℕ) → place + 1 ≡ count → after count place ≡ 0
after-last count place e = cond-true (eqb (place + 1) count) 0 (place + 1) (eq-eqb (place + 1) count e)

pub after-inner : (count place : ℕ) → place + 1 < count → after count place ≡ place + 1
after-inner count place lt = cond-false (eqb (place + 1) count) 0 (place + 1) (ne_eqb (place + 1) count (λ (e : place + 1 ≡ count). omega (arith, e)))

pub before-first : (count : ℕ) → before count 0 ≡ count - 1
before-first count = refl

pub before-inner : (count place : ℕ) → 0 < place → before count place ≡ place - 1
before-inner count place lt = cond-false (eqb place 0) (count - 1) (place - 1) (ne_eqb place 0 (λ (e : place ≡ 0). omega (arith, e)))

pub after-within : (count place : ℕ) → place < count → after count place < count
after-within count place lt =
    elim (cases_eq (place + 1) count) [
      | inl e ↦ let a = after-last count place e in omega arith
      | inr apart ↦ let lt2 : place + 1 < count = omega (arith, apart) in let a = after-inner count place lt2 in omega arith
    ]

pub before-within : (count place : ℕ) → place < count → before count place < count
before-within count place lt =
    elim (cases_eq place 0) [
      | inl e ↦ let a : before count place ≡ count - 1 = ap (before count) e in omega arith
      | inr apart ↦ let a = before-inner count place (omega (arith, apart)) in omega arith
    ]

pub after-apart : (count place : ℕ) → place < count → 2 ≤ count → after count place ≡ place → ⊥
after-apart count place lt two same =
    elim (cases_eq (place + 1) count) [
      | inl e ↦ let a = after-last count place e in omega arith
      | inr apart ↦ let lt2 : place + 1 < count = omega (arith, apart) in let a = after-inner count place lt2 in omega arith
    ]

pub distance-within : (count from place : ℕ) → from < count → place < count → distance count from place < count
distance-within count from place f p =
    elim (cases_lt place from) [
      | inl lt ↦ let d = distance-round count from place lt in omega arith
      | inr le ↦ let d = distance-up count from place le in omega arith
    ]

pub distance-positive : (count from place : ℕ) → from < count → place < count → (place ≡ from → ⊥) → 0 < distance count from place
distance-positive count from place f p apart =
    elim (cases_lt place from) [
      | inl lt ↦ let d = distance-round count from place lt in omega arith
      | inr le ↦ let d = distance-up count from place le in omega (arith, apart)
    ]

-- the place before stands one nearer, and the one before the open place farthest
pub distance-before : (count from place : ℕ) → from < count → place < count → (place ≡ from → ⊥) → distance count from (before count place) + 1 ≡ distance count from place
distance-before count from place f p apart =
    elim (cases_eq place 0) [
      | inl e ↦
          let b : before count place ≡ count - 1 = ap (before count) e in
          let up = distance-up count from (count - 1) (omega arith) in
          let far = distance-round count from place (omega (arith, apart)) in
          let there : distance count from (before count place) ≡ distance count from (count - 1) = ap (distance count from) b in
          omega arith
      | inr inner ↦
          let b = before-inner count place (omega (arith, inner)) in
          let there : distance count from (before count place) ≡ distance count from (place - 1) = ap (distance count from) b in
          elim (cases_lt place from) [
            | inl lt ↦ let d = distance-round count from place lt in let e = distance-round count from (place - 1) (omega arith) in let positive : 0 < place = omega (arith, inner) in omega arith
            | inr le ↦ let d = distance-up count from place le in let positive : from < place = omega (arith, apart) in let e = distance-up count from (place - 1) (omega arith) in omega arith
          ]
    ]

pub distance-before_open : (count from : ℕ) → from < count → distance count from (before count from) ≡ count - 1
distance-before_open count from f =
    elim (cases_eq from 0) [
      | inl e ↦
          let b : before count from ≡ count - 1 = ap (before count) e in
          let there : distance count from (before count from) ≡ distance count from (count - 1) = ap (distance count from) b in
          let d = distance-up count from (count - 1) (omega arith) in omega arith
      | inr inner ↦
          let positive : 0 < from = omega (arith, inner) in
          let b = before-inner count from positive in
          let there : distance count from (before count from) ≡ distance count from (from - 1) = ap (distance count from) b in
          let d = distance-round count from (from - 1) (omega arith) in omega arith
    ]

-- seen from the next place all stand one nearer, but for the old open place
pub distance-next : (count from place : ℕ) → from < count → place < count → (place ≡ from → ⊥) → distance count (after count from) place + 1 ≡ distance count from place
distance-next count from place f p apart =
    elim (cases_eq (from + 1) count) [
      | inl e ↦
          let a : distance count (after count from) place ≡ distance count 0 place = ap (λ (n : ℕ). distance count n place) (after-last count from e) in
          let d = distance-up count 0 place (omega arith) in
          let below : place < from = omega (arith, apart) in
          let r = distance-round count from place below in omega arith
      | inr inner ↦
          let a : distance count (after count from) place ≡ distance count (from + 1) place = ap (λ (n : ℕ). distance count n place) (after-inner count from (omega (arith, inner))) in
          elim (cases_lt place from) [
            | inl lt ↦ let d = distance-round count from place lt in let r = distance-round count (from + 1) place (omega arith) in omega arith
            | inr le ↦
                let above : from < place = omega (arith, apart) in
                let d = distance-up count from place le in let r = distance-up count (from + 1) place (omega arith) in omega arith
          ]
    ]

pub distance-old : (count from : ℕ) → from < count → distance count (after count from) from ≡ count - 1
distance-old count from f =
    elim (cases_eq (from + 1) count) [
      | inl e ↦
          let a : distance count (after count from) from ≡ distance count 0 from = ap (λ (n : ℕ). distance count n from) (after-last count from e) in
          let d = distance-up count 0 from (omega arith) in omega arith
      | inr inner ↦
          let a : distance count (after count from) from ≡ distance count (from + 1) from = ap (λ (n : ℕ). distance count n from) (after-inner count from (omega (arith, inner))) in
          let r = distance-round count (from + 1) from (omega arith) in
          omega arith
    ]

pub distance-after : (count from : ℕ) → from < count → 2 ≤ count → distance count from (after count from) ≡ 1
distance-after count from f two =
    elim (cases_eq (from + 1) count) [
      | inl e ↦
          let a : distance count from (after count from) ≡ distance count from 0 = ap (distance count from) (after-last count from e) in
          let d = distance-round count from 0 (omega arith) in omega arith
      | inr inner ↦
          let a : distance count from (after count from) ≡ distance count from (from + 1) = ap (distance count from) (after-inner count from (omega (arith, inner))) in
          let d = distance-up count from (from + 1) (omega arith) in omega arith
    ]

-- and only the next place stands at 1
pub after-from_distance : (count from place : ℕ) → from < count → place < count → 2 ≤ count → distance count from place ≡ 1 → place ≡ after count from
after-from_distance count from place f p two one =
    elim (cases_eq (from + 1) count) [
      | inl e ↦
          let a = after-last count from e in
          elim (cases_lt place from) [
            | inl lt ↦ let d = distance-round count from place lt in omega arith
            | inr le ↦ let d = distance-up count from place le in omega arith
          ]
      | inr inner ↦
          let a = after-inner count from (omega (arith, inner)) in
          elim (cases_lt place from) [
            | inl lt ↦ let d = distance-round count from place lt in omega (arith, inner)
            | inr le ↦ let d = distance-up count from place le in omega arith
          ]
    ]

-- ---- lists of places

pub All-range : (P : ℕ → Type 0) (a n : ℕ) → ((k : ℕ) → a ≤ k → k < a + n → P k) → All P (range_with_len a n)
All-range P a n each =
    let long = length-range_with_len a n in
    All-from_get_or P (range_with_len a n) 0 (λ i lt. subst P (sym (get_or-range_with_len a n i 0 (omega arith))) (each (a + i) (omega arith) (omega arith)))

pub range-append : (a m n : ℕ) → range_with_len a (m + n) ≡ range_with_len a m ++ range_with_len (a + m) n
range-append a zero n =
    let none : 0 + n ≡ n = omega arith in
    let here : a ≡ a + 0 = omega arith in
    ap (range_with_len a) none ∙ ap (λ (k : ℕ). range_with_len k n) here
range-append a (suc m) n =
    let e : suc m + n ≡ suc (m + n) = omega arith in
    let s : a + 1 + m ≡ a + suc m = omega arith in
    ap (range_with_len a) e ∙ ap (λ xs. a ∷ xs) (range-append (a + 1) m n ∙ ap (λ (k : ℕ). range_with_len (a + 1) m ++ range_with_len k n) s)

pub range_one : (a : ℕ) → range_with_len a 1 ≡ a ∷ []
range_one a = refl

pub range_from : (a n : ℕ) → 0 < n → range_with_len a n ≡ a ∷ range_with_len (a + 1) (n - 1)
range_from a n positive = let e : n ≡ suc (n - 1) = omega arith in ap (range_with_len a) e

pub filter_all : (p : ℕ → Bool) (xs : List ℕ) → All (λ k. p k ≡ true) xs → filter p xs ≡ xs
filter_all p [] h = refl
filter_all p (x ∷ xs) h = ap (λ (t : Bool). cond t (x ∷ filter p xs) (filter p xs)) (All-head (λ k. p k ≡ true) x xs h) ∙ ap (λ ys. x ∷ ys) (filter_all p xs (All-tail (λ k. p k ≡ true) x xs h))

pub filter_none : (p : ℕ → Bool) (xs : List ℕ) → All (λ k. p k ≡ false) xs → filter p xs ≡ []
filter_none p [] h = refl
filter_none p (x ∷ xs) h = ap (λ (t : Bool). cond t (x ∷ filter p xs) (filter p xs)) (All-head (λ k. p k ≡ false) x xs h) ∙ filter_none p xs (All-tail (λ k. p k ≡ false) x xs h)

pub find_none : (p : ℕ → Bool) (xs : List ℕ) → All (λ k. p k ≡ false) xs → find p xs ≡ None
find_none p [] h = refl
find_none p (x ∷ xs) h = ap (λ (t : Bool). cond t (Some x) (find p xs)) (All-head (λ k. p k ≡ false) x xs h) ∙ find_none p xs (All-tail (λ k. p k ≡ false) x xs h)

pub find-prefix : (p : ℕ → Bool) (xs ys : List ℕ) → All (λ k. p k ≡ false) xs → find p (xs ++ ys) ≡ find p ys
find-prefix p [] ys h = refl
find-prefix p (x ∷ xs) ys h = ap (λ (t : Bool). cond t (Some x) (find p (xs ++ ys))) (All-head (λ k. p k ≡ false) x xs h) ∙ find-prefix p xs ys (All-tail (λ k. p k ≡ false) x xs h)

pub flat_map-agree : {X : Type 0} (f g : ℕ → List X) (xs : List ℕ) → All (λ k. f k ≡ g k) xs → flat_map f xs ≡ flat_map g xs
flat_map-agree f g [] h = refl
flat_map-agree f g (x ∷ xs) h = ap (λ ys. ys ++ flat_map f xs) (All-head (λ k. f k ≡ g k) x xs h) ∙ ap (λ ys. g x ++ ys) (flat_map-agree f g xs (All-tail (λ k. f k ≡ g k) x xs h))

-- all places, split at one of them
pub range_at : (place count : ℕ) → place < count → range_with_len 0 count ≡ range_with_len 0 place ++ (place ∷ range_with_len (place + 1) (count - place - 1))
range_at place count lt =
    let e : count ≡ place + (count - place) = omega arith in
    let back : count - place - 1 ≡ count - place - 1 = refl in
    ap (range_with_len 0) e ∙ range-append 0 place (count - place) ∙ ap (λ (k : ℕ). range_with_len 0 place ++ range_with_len k (count - place)) (omega arith)
    ∙ ap (λ ys. range_with_len 0 place ++ ys) (range_from place (count - place) (omega arith))

pub filter_only : (p : ℕ → Bool) (place count : ℕ) → place < count → p place ≡ true → ((k : ℕ) → k < count → (k ≡ place → ⊥) → p k ≡ false) → filter p (range_with_len 0 count) ≡ place ∷ []
filter_only p place count lt here others =
    ap (filter p) (range_at place count lt) ∙ filter-append p (range_with_len 0 place) (place ∷ range_with_len (place + 1) (count - place - 1))
    ∙ ap (λ ys. ys ++ filter p (place ∷ range_with_len (place + 1) (count - place - 1))) (filter_none p (range_with_len 0 place) (All-range (λ k. p k ≡ false) 0 place (λ k low high. others k (omega arith) (λ (e : k ≡ place). omega arith))))
    ∙ ap (λ (t : Bool). cond t (place ∷ filter p (range_with_len (place + 1) (count - place - 1))) (filter p (range_with_len (place + 1) (count - place - 1)))) here
    ∙ ap (λ ys. place ∷ ys) (filter_none p (range_with_len (place + 1) (count - place - 1)) (All-range (λ k. p k ≡ false) (place + 1) (count - place - 1) (λ k low high. others k (omega arith) (λ (e : k ≡ place). omega arith))))

pub find_first : (p : ℕ → Bool) (place count : ℕ) → place < count → p place ≡ true → ((k : ℕ) → k < place → p k ≡ false) → find p (range_with_len 0 count) ≡ Some place
find_first p place count lt here others =
    ap (find p) (range_at place count lt) ∙ find-prefix p (range_with_len 0 place) (place ∷ range_with_len (place + 1) (count - place - 1)) (All-range (λ k. p k ≡ false) 0 place (λ k low high. others k (omega arith)))
    ∙ ap (λ (t : Bool). cond t (Some place) (find p (range_with_len (place + 1) (count - place - 1)))) here

-- ---- the round, in its parts

pub round-is : (count place : ℕ) → range_with_len (place + 1) (count - (place + 1)) ++ range_with_len 0 (place + 1) ≡ others count place ++ place ∷ []
round-is count place =
    ap (λ ys. range_with_len (place + 1) (count - (place + 1)) ++ ys) (range-append 0 place 1 ∙ ap (λ (k : ℕ). range_with_len 0 place ++ k ∷ []) (omega arith))
    ∙ sym (append_assoc (range_with_len (place + 1) (count - (place + 1))) (range_with_len 0 place) (place ∷ []))

pub others-All : (P : ℕ → Type 0) (count place : ℕ) → place < count → ((k : ℕ) → k < count → (k ≡ place → ⊥) → P k) → All P (others count place)
others-All P count place lt each =
    All-append P (range_with_len (place + 1) (count - (place + 1))) (range_with_len 0 place)
    (All-range P (place + 1) (count - (place + 1)) (λ k low high. each k (omega arith) (λ (e : k ≡ place). omega arith)))
    (All-range P 0 place (λ k low high. each k (omega arith) (λ (e : k ≡ place). omega arith)))

-- a place of the area, neither this one nor the one after it
pub record IsFar (count place k : ℕ) : Type 0 where
  pub within : k < count
  pub apart : k ≡ place → ⊥
  pub not_after : k ≡ after count place → ⊥

-- the place after stands first
pub record IsSplit (count place : ℕ) : Type 0 where
  pub first : others count place ≡ after count place ∷ rest count place
  pub inside : All (IsFar count place) (rest count place)
  pub rotated : others count (after count place) ≡ rest count place ++ place ∷ []

split-inner : (count place : ℕ) → place + 1 < count → IsSplit count place
split-inner count place lt =
    let a = after-inner count place lt in
    let tail = range_with_len (place + 1 + 1) (count - (place + 1) - 1) in
    let start : others count place ≡ (place + 1) ∷ (tail ++ range_with_len 0 place) = ap (λ ys. ys ++ range_with_len 0 place) (range_from (place + 1) (count - (place + 1)) (omega arith)) in
    let rest-is : rest count place ≡ tail ++ range_with_len 0 place = ap (drop 1) start in
    record {
      first = start ∙ ap (λ (k : ℕ). k ∷ (tail ++ range_with_len 0 place)) (sym a) ∙ ap (λ ys. after count place ∷ ys) (sym rest-is);
      inside =
          let P = IsFar count place in
          subst (All P) (sym rest-is)
          (All-append P tail (range_with_len 0 place)
          (All-range P (place + 1 + 1) (count - (place + 1) - 1) (λ k low high. record { within = omega arith; apart = λ (e : k ≡ place). omega arith; not_after = λ (e : k ≡ after count place). omega arith }))
          (All-range P 0 place (λ k low high. record { within = omega arith; apart = λ (e : k ≡ place). omega arith; not_after = λ (e : k ≡ after count place). omega arith })));
      rotated =
          let n : count - (place + 1 + 1) ≡ count - (place + 1) - 1 = omega arith in
          ap (others count) a ∙ ap (λ (k : ℕ). range_with_len (place + 1 + 1) k ++ range_with_len 0 (place + 1)) n
          ∙ ap (λ ys. tail ++ ys) (range-append 0 place 1 ∙ ap (λ (k : ℕ). range_with_len 0 place ++ k ∷ []) (omega arith))
          ∙ sym (append_assoc tail (range_with_len 0 place) (place ∷ [])) ∙ ap (λ ys. ys ++ place ∷ []) (sym rest-is);
    }

split-last : (count place : ℕ) → place + 1 ≡ count → 2 ≤ count → IsSplit count place
split-last count place e two =
    let a = after-last count place e in
    let zero_left : count - (place + 1) ≡ 0 = omega arith in
    let start : others count place ≡ 0 ∷ range_with_len 1 (place - 1) = ap (λ (k : ℕ). range_with_len (place + 1) k ++ range_with_len 0 place) zero_left ∙ range_from 0 place (omega arith) in
    let rest-is : rest count place ≡ range_with_len 1 (place - 1) = ap (drop 1) start in
    record {
      first = start ∙ ap (λ (k : ℕ). k ∷ range_with_len 1 (place - 1)) (sym a) ∙ ap (λ ys. after count place ∷ ys) (sym rest-is);
      inside = subst (All (IsFar count place)) (sym rest-is) (All-range (IsFar count place) 1 (place - 1) (λ k low high. record { within = omega arith; apart = λ (same : k ≡ place). omega arith; not_after = λ (same : k ≡ after count place). omega arith }));
      rotated =
          let n : count - (0 + 1) ≡ (place - 1) + 1 = omega arith in
          let last_one : 1 + (place - 1) ≡ place = omega arith in
          ap (others count) a ∙ append-nil (range_with_len 1 (count - (0 + 1))) ∙ ap (range_with_len 1) n ∙ range-append 1 (place - 1) 1 ∙ ap (λ (k : ℕ). range_with_len 1 (place - 1) ++ k ∷ []) last_one
          ∙ ap (λ ys. ys ++ place ∷ []) (sym rest-is);
    }

pub split : (count place : ℕ) → place < count → 2 ≤ count → IsSplit count place
split count place lt two =
    elim (cases_eq (place + 1) count) [
      | inl e ↦ split-last count place e two
      | inr apart ↦ split-inner count place (omega (arith, apart))
    ]
