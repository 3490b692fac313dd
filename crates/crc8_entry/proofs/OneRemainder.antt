-- A message leaves one remainder: a multiple of the divisor without a power from x^8 up is 0.
use Rattle.std.proofs.Common.{◌≡◌, ℕ, zero, suc, ◌+◌, ◌*◌, ◌%◌, ◌<◌, ◌≤◌, List, [], ◌∷◌, get_or, reverse, refl, sym, ap, ◌∙◌, lit≤, arith}
use Rattle.std.specs.Int.{bit_at}
use Rattle.std.proofs.lemmas.Nat.Bits.{bit_at-lt, bit_at_above, same_from_bits}
use Rattle.crc8_entry.specs.Polynomial.{plus, times, IsRemainder}
use Rattle.crc8_entry.specs.Crc.{bits_of, message, divisor, IsCrc}
use Rattle.crc8_entry.specs.Laws.{OneCrc}
use Rattle.crc8_entry.proofs.Division.{plus_at, times_at_0, times_at_suc, divisor_at, byte_at}

even_times : (a x : ℕ) → a % 2 ≡ 0 → (a * x) % 2 ≡ 0
even_times a zero even = omega arith
even_times a (suc x) even = omega (arith, even_times a x even)

-- the product of a sum
times_plus : (p q d : List ℕ) (i : ℕ) → get_or (times (plus p q) d) i 0 ≡ get_or (times p d) i 0 + get_or (times q d) i 0
times_plus [] q d i = omega arith
times_plus (a ∷ p) [] d i = omega arith
times_plus (a ∷ p) (b ∷ q) d zero = omega (arith, times_at_0 (a + b) (plus p q) d, times_at_0 a p d, times_at_0 b q d)
times_plus (a ∷ p) (b ∷ q) d (suc i) =
    omega (arith, times_at_suc (a + b) (plus p q) d i, times_at_suc a p d i, times_at_suc b q d i, times_plus p q d i)

divisor_above : (i : ℕ) → 8 ≤ i → get_or divisor (suc i) 0 ≡ 0
divisor_above i high = sym (divisor_at (suc i)) ∙ bit_at_above 263 9 (suc i) (omega arith) (omega arith)

-- a multiple of 0 is 0
multiple_of_zero : (p : List ℕ) → ((i : ℕ) → get_or p i 0 % 2 ≡ 0) → (i : ℕ) → get_or (times p divisor) i 0 % 2 ≡ 0
multiple_of_zero [] none i = refl
multiple_of_zero (a ∷ p) none zero = omega (arith, times_at_0 a p divisor, even_times a (get_or divisor 0 0) (none 0))
multiple_of_zero (a ∷ p) none (suc i) =
    omega (arith, times_at_suc a p divisor i, even_times a (get_or divisor (suc i) 0) (none 0), multiple_of_zero p (λ k. none (suc k)) i)

-- a multiple without a power from x^8 up is a multiple of 0
no_high_power : (p : List ℕ) → ((i : ℕ) → 8 ≤ i → get_or (times p divisor) i 0 % 2 ≡ 0) → (i : ℕ) → get_or p i 0 % 2 ≡ 0
no_high_power [] low i = refl
no_high_power (a ∷ p) low zero =
    let rest = no_high_power p (λ k high. omega (arith, times_at_suc a p divisor k, ap (λ (x : ℕ). a * x) (divisor_above k high), low (suc k) (omega arith))) in
    omega (arith, times_at_suc a p divisor 7, low 8 (lit≤ tt), multiple_of_zero p rest 7)
no_high_power (a ∷ p) low (suc i) =
    no_high_power p (λ k high. omega (arith, times_at_suc a p divisor k, ap (λ (x : ℕ). a * x) (divisor_above k high), low (suc k) (omega arith))) i

one_remainder : (so : List ℕ) (a b : ℕ) → a < 256 → b < 256 → IsRemainder so divisor (reverse (bits_of a)) → IsRemainder so divisor (reverse (bits_of b)) → a ≡ b
one_remainder so a b a-small b-small first second =
    let both : List ℕ = plus first.quotient second.quotient in
    let sum : (i : ℕ) → (get_or (times both divisor) i 0 + bit_at a i + bit_at b i) % 2 ≡ 0
    = λ i. omega (
      arith,
      times_plus first.quotient second.quotient divisor i,
      first.divides i,
      second.divides i,
      plus_at (times first.quotient divisor) (reverse (bits_of a)) i,
      plus_at (times second.quotient divisor) (reverse (bits_of b)) i,
      byte_at a i a-small,
      byte_at b i b-small,
    ) in
    let low : (i : ℕ) → 8 ≤ i → get_or (times both divisor) i 0 % 2 ≡ 0
    = λ i high. omega (arith, sum i, bit_at_above a 8 i (omega arith) high, bit_at_above b 8 i (omega arith) high) in
    let none : (i : ℕ) → get_or (times both divisor) i 0 % 2 ≡ 0 = multiple_of_zero both (no_high_power both low) in
    same_from_bits a b (λ i. omega (arith, sum i, none i, bit_at-lt a i, bit_at-lt b i))

pub one_crc : OneCrc
unfolding IsCrc
one_crc start [] a b a-small b-small first second = first ∙ sym second
one_crc start (byte ∷ bytes) a b a-small b-small first second =
    one_remainder (reverse (message start byte bytes)) a b a-small b-small first second
