-- Rounding to whole units. No proof above these splits on the unit.
use Rattle.std.proofs.Common.{◌≡◌, ℕ, ◌+◌, ◌%◌, ◌<◌, ◌≤◌, IsTrue, ◌||◌, eqb, sym, subst, inl, inr, arith}
use Rattle.std.proofs.lemmas.Bool.Decides.{nat_tests}
use Rattle.flash_map.specs.Units.{IsUnit, padded}

-- what holds at each unit
pub by_unit : (P : ℕ → Type 0) → P 4 → P 8 → P 16 → (unit : ℕ) → IsUnit unit → P unit
by_unit P four eight sixteen unit (inl e) = subst P (sym e) four
by_unit P four eight sixteen unit (inr (inl e)) = subst P (sym e) eight
by_unit P four eight sixteen unit (inr (inr e)) = subst P (sym e) sixteen

-- the unit of a lawful bank
pub is_unit : (unit : ℕ) → IsTrue (eqb unit 4 || eqb unit 8 || eqb unit 16) → IsUnit unit
is_unit unit is = grind (arith, nat_tests)

pub record IsPadding (unit : ℕ) : Type 0 where
  pub positive : 0 < unit
  pub small : unit ≤ 16
  pub no_less : (n : ℕ) → n ≤ padded unit n
  pub no_more : (n : ℕ) → padded unit n ≤ n + 15
  pub aligned : (n : ℕ) → padded unit n % unit ≡ 0
  -- and the least such number
  pub least : (n m : ℕ) → n ≤ m → m % unit ≡ 0 → padded unit n ≤ m
  pub same : (n : ℕ) → n % unit ≡ 0 → padded unit n ≡ n
  pub sum_aligned : (n m : ℕ) → n % unit ≡ 0 → m % unit ≡ 0 → (n + m) % unit ≡ 0

pub padding : (unit : ℕ) → IsUnit unit → IsPadding unit
unfolding padded
padding = by_unit IsPadding
    (record { positive = omega arith; small = omega arith; no_less = λ n. omega arith; no_more = λ n. omega arith; aligned = λ n. omega arith; least = λ n m h e. omega arith; same = λ n e. omega arith; sum_aligned = λ n m d e. omega arith })
    (record { positive = omega arith; small = omega arith; no_less = λ n. omega arith; no_more = λ n. omega arith; aligned = λ n. omega arith; least = λ n m h e. omega arith; same = λ n e. omega arith; sum_aligned = λ n m d e. omega arith })
    (record { positive = omega arith; small = omega arith; no_less = λ n. omega arith; no_more = λ n. omega arith; aligned = λ n. omega arith; least = λ n m h e. omega arith; same = λ n e. omega arith; sum_aligned = λ n m d e. omega arith })

pub padded_bounds : (unit n : ℕ) → IsUnit unit → (n ≤ padded unit n) × (padded unit n ≤ n + 15)
padded_bounds unit n h = let pad = padding unit h in (pad.no_less n, pad.no_more n)
