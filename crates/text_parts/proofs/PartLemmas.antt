-- Text in parts.
use Rattle.std.proofs.Common.{◌≡◌, ℕ, ◌+◌, ◌<◌, ◌≤◌, nat_lt, List, [], ◌∷◌, length, take, drop, false, true, Bool, cond, Some, None, refl, ◌∙◌, ap, arith}
use Rattle.std.specs.List.{slice_split, position, position_or_len}
use Rattle.std.proofs.lemmas.Bool.Decides.{nat_tests}
use Rattle.std.proofs.lemmas.List.Splits.{slice_split_first, slice_split_none, length-slice_split}
use Rattle.std.proofs.lemmas.List.Quantifiers.{position-Some}
use Rattle.std.proofs.lemmas.List.Sums.{position_or_len_is, fails_before_first}

pub position_below : (p : ℕ → Bool) (xs : List ℕ) (i : ℕ) → position p xs ≡ Some i → i < length xs
position_below p xs i found = (position-Some p xs i 0 found).0

pub cut_some : (p : ℕ → Bool) (xs : List ℕ) (i : ℕ) → position p xs ≡ Some i → slice_split p xs ≡ take i xs ∷ slice_split p (drop (i + 1) xs)
cut_some p xs i found =
    let here = position-Some p xs i 0 found in
    let below : i < length xs = here.0 in
    let at : position_or_len p xs ≡ i = position_or_len_is p xs i 0 (omega arith) here.2 (λ _. here.1) in
    slice_split_first p xs 0 (omega arith) ∙ ap (λ (i : ℕ). take i xs ∷ slice_split p (drop (i + 1) xs)) at

no_some : (b : Bool) (x : ℕ) → cond b (Some x) None ≡ None → b ≡ false
no_some true x e = cc
no_some false x e = refl

at_end : (a b : ℕ) → nat_lt a b ≡ false → b ≤ a
at_end a b e = grind (arith, nat_tests)

pub cut_none : (p : ℕ → Bool) (xs : List ℕ) → position p xs ≡ None → slice_split p xs ≡ xs ∷ []
cut_none p xs none =
    let end = at_end (position_or_len p xs) (length xs) (no_some _ _ none) in
    slice_split_none p xs (λ k d below. fails_before_first p xs k d (omega arith))

-- text has one part at least
pub some_parts : (p : ℕ → Bool) (xs : List ℕ) → 0 < length (slice_split p xs)
some_parts p xs = omega (arith, length-slice_split p xs)
