-- Polynomials over the field of two elements. A polynomial is the list of its coefficients, that of
-- x^0 first. A coefficient counts modulo 2, and those past the list's end are 0.
use Rattle.std.specs.Prelude.{◌≡◌, ℕ, ◌+◌, ◌*◌, ◌%◌, ◌<◌, List, [], ◌∷◌, length, map, slice_index}

-- the coefficient of a power of x
abbrev pub coefficient : List ℕ → ℕ → ℕ
coefficient p power = slice_index p power % 2

-- the same coefficient at every power
abbrev pub Same : List ℕ → List ℕ → Type 0
Same p q = (power : ℕ) → coefficient p power ≡ coefficient q power

-- the sum
abbrev pub plus : List ℕ → List ℕ → List ℕ
plus [] q = q
plus (a ∷ p) [] = a ∷ p
plus (a ∷ p) (b ∷ q) = (a + b) ∷ plus p q

-- the product: (a + x * p) * q is a * q + x * (p * q)
abbrev pub times : List ℕ → List ℕ → List ℕ
times [] q = []
times (a ∷ p) q = plus (map (λ b. a * b) q) (0 ∷ times p q)

-- dividing the message leaves this remainder, which has fewer coefficients than the divisor
pub record IsRemainder (message divisor remainder : List ℕ) : Type 0 where
  pub lower : length remainder < length divisor
  pub quotient : List ℕ
  pub divides : Same message (plus (times quotient divisor) remainder)
