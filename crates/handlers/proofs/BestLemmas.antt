-- The first of the greatest numbers in a list.
use Rattle.std.proofs.Common.{◌≡◌, ℕ, ◌+◌, ◌<◌, ◌≤◌, List, Bool, true, false, length, get_or, Option, Some, None, refl, sym, ap, subst, ◌∙◌, arith, below_more, map, ◌⊎◌, inl, inr}
use Rattle.std.specs.Prelude.{nat_lt, nat_le, ◌&&◌, position}
use Rattle.std.specs.List.{position_or_len}
use Rattle.std.proofs.lemmas.List.{get_or_default, get_or-map, length-map}
use Rattle.std.proofs.lemmas.List.Sums.{position_or_len_is, list_all-from_AllPass}
use Rattle.std.proofs.lemmas.List.Folds.{list_all_at}
use Rattle.std.proofs.lemmas.Bool.{cond-true, cond-false, and_from}
use Rattle.std.proofs.lemmas.Bool.Decides.{nat_tests}
use Rattle.handlers.specs.Best.{is_greatest}

-- the first of the greatest numbers below a place, and that number; 0 where there is none above 0
pub GreatestBelow : List ℕ → ℕ → ℕ → Option ℕ → Type 0
GreatestBelow ns i most None = (most ≡ 0) × ((k : ℕ) → k < i → get_or ns k 0 ≡ 0)
GreatestBelow ns i most (Some j) = (j < i) × (get_or ns j 0 ≡ most) × (0 < most) × ((k : ℕ) → k < i → get_or ns k 0 ≤ most) × ((k : ℕ) → k < j → get_or ns k 0 < most)

pub greatest_none : (ns : List ℕ) → GreatestBelow ns 0 0 None
unfolding GreatestBelow
greatest_none ns = (refl, λ k lt. absurd (omega arith))

pub greatest_kept : (ns : List ℕ) (i most : ℕ) (best : Option ℕ) → get_or ns i 0 ≤ most → GreatestBelow ns i most best → GreatestBelow ns (i + 1) most best
unfolding GreatestBelow
greatest_kept ns i most None le before = (before.0, below_more (λ k. get_or ns k 0 ≡ 0) i before.1 (let zero_is = before.0 in omega arith))
greatest_kept ns i most (Some j) le (lt, is, some, all, first) = (omega arith, is, some, below_more (λ k. get_or ns k 0 ≤ most) i all le, first)

below_all : (ns : List ℕ) (i most : ℕ) (best : Option ℕ) → GreatestBelow ns i most best → (k : ℕ) → k < i → get_or ns k 0 ≤ most
unfolding GreatestBelow
below_all ns i most None before k lt = let none = before.1 k lt in omega arith
below_all ns i most (Some j) (below, is, some, all, first) k lt = all k lt

pub none_above : (ns : List ℕ) (i most : ℕ) → GreatestBelow ns i most None → (k : ℕ) → k < i → get_or ns k 0 ≡ 0
unfolding GreatestBelow
none_above ns i most below = below.1

pub greatest_more : (ns : List ℕ) (i most : ℕ) (best : Option ℕ) → most < get_or ns i 0 → GreatestBelow ns i most best → GreatestBelow ns (i + 1) (get_or ns i 0) (Some i)
unfolding GreatestBelow
greatest_more ns i most best more before =
    let all = below_all ns i most best before in
    (omega arith, refl, omega arith, below_more (λ k. get_or ns k 0 ≤ get_or ns i 0) i (λ k lt. let le = all k lt in omega arith) (omega arith), λ k lt. let le = all k lt in omega arith)

pub greatest_step : (ns : List ℕ) (i here most more : ℕ) (best next : Option ℕ) → get_or ns i 0 ≡ here → ((most < here) × (next ≡ Some i) × (more ≡ here)) ⊎ ((here ≤ most) × (next ≡ best) × (more ≡ most))
    → GreatestBelow ns i most best → GreatestBelow ns (i + 1) more next
greatest_step ns i here most more best next at (inl (lt, next_is, more_is)) before =
    subst (λ b. GreatestBelow ns (i + 1) more b) (sym next_is) (subst (λ m. GreatestBelow ns (i + 1) m (Some i)) (at ∙ sym more_is) (greatest_more ns i most best (omega arith) before))
greatest_step ns i here most more best next at (inr (le, next_is, more_is)) before =
    subst (λ b. GreatestBelow ns (i + 1) more b) (sym next_is) (subst (λ m. GreatestBelow ns (i + 1) m best) (sym more_is) (greatest_kept ns i most best (omega arith) before))

-- what two functions make of the element at a place
pub mapped_twice : {X Y : Type 0} (f : Y → ℕ) (g : X → Y) (xs : List X) (i : ℕ) (x : X) → i < length xs → x ≡ get_or xs i x → get_or (map f (map g xs)) i 0 ≡ f (g x)
mapped_twice f g xs i x lt is =
    get_or-map f (map g xs) i (g x) 0 (omega (arith, length-map xs g)) ∙ ap f (get_or-map g xs i x (g x) lt) ∙ ap (λ y. f (g y)) (sym is)

pub mapped_length : {X Y : Type 0} (f : Y → ℕ) (g : X → Y) (xs : List X) (i : ℕ) → i ≤ length xs → length xs ≤ i → i ≡ length (map f (map g xs))
mapped_length f g xs i le ge = omega (arith, length-map xs g, length-map (map g xs) f)

tested : (n m : ℕ) → n < m → nat_lt n m ≡ true
tested n m lt = grind (arith, nat_tests)

tested_le : (n m : ℕ) → n ≤ m → nat_le n m ≡ true
tested_le n m le = grind (arith, nat_tests)

untested : (n m : ℕ) → m < n → nat_le n m ≡ false
untested n m lt = grind (arith, nat_tests)

untested_lt : (n m : ℕ) → m ≤ n → nat_lt n m ≡ false
untested_lt n m lt = grind (arith, nat_tests)

second_no : (a b : Bool) → b ≡ false → (a && b) ≡ false
second_no true b is = is
second_no false b is = refl

first_no : (a b : Bool) → a ≡ false → (a && b) ≡ false
first_no a b is = ap (λ c. c && b) is

at_place : (ns : List ℕ) (p : ℕ → Bool) (j : ℕ) → position_or_len p ns ≡ j → j < length ns → position p ns ≡ Some j
at_place ns p j is lt = cond-true _ (Some (position_or_len p ns)) None (tested _ _ (subst (λ n. n < length ns) (sym is) lt)) ∙ ap Some is

nowhere : (ns : List ℕ) (p : ℕ → Bool) → position_or_len p ns ≡ length ns → position p ns ≡ None
nowhere ns p is = cond-false _ (Some (position_or_len p ns)) None (untested_lt _ _ (omega (arith, is)))

-- over the whole list
pub greatest_whole : (ns : List ℕ) (i most : ℕ) (best : Option ℕ) → i ≡ length ns → GreatestBelow ns i most best → best ≡ position (is_greatest ns) ns
unfolding GreatestBelow
greatest_whole ns i most None whole before =
    sym (nowhere ns (is_greatest ns)
    (position_or_len_is (is_greatest ns) ns (length ns) 0 (omega arith)
    (λ k lt. first_no (nat_lt 0 (get_or ns k 0)) _ (untested_lt 0 (get_or ns k 0) (let none = before.1 k (omega arith) in omega arith)))
    (λ lt. absurd (omega arith))))
greatest_whole ns i most (Some j) whole (below, is, some, all, first) =
    sym (at_place ns (is_greatest ns) j
    (position_or_len_is (is_greatest ns) ns j 0 (omega arith)
    (λ k lt. second_no (nat_lt 0 (get_or ns k 0)) _ (list_all_at (λ m. nat_le m (get_or ns k 0)) ns j 0 (omega arith) (untested (get_or ns j 0) (get_or ns k 0) (let less = first k lt in omega arith))))
    (λ lt. and_from _ _ (tested 0 (get_or ns j 0) (omega arith)) (list_all-from_AllPass (λ m. nat_le m (get_or ns j 0)) ns (λ k d lt'. passes k d lt' (all k (omega arith))))))
    (omega arith))
  where
    passes : (k d : ℕ) → k < length ns → get_or ns k 0 ≤ most → nat_le (get_or ns k d) (get_or ns j 0) ≡ true
    passes k d lt le = tested_le (get_or ns k d) (get_or ns j 0) (let same = get_or_default ns k d 0 lt in omega arith)
