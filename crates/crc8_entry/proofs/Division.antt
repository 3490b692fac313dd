-- What the division bit by bit leaves is the remainder of the message as a polynomial.
use Rattle.std.proofs.Common.{◌≡◌, ℕ, zero, suc, ◌+◌, ◌*◌, ◌/◌, ◌%◌, ◌<◌, List, [], ◌∷◌, ◌++◌, length, get_or, map, reverse, replicate, refl, sym, ap, subst, ◌∙◌, inl, inr, lit<, arith}
use Rattle.std.specs.Prelude.{bit_xor, fold}
use Rattle.std.specs.List.{flat_map, AllByRecursion}
use Rattle.std.specs.Int.{bit_at}
use Rattle.std.proofs.lemmas.Bool.{cases_lt, lt-ltb, le-ltb}
use Rattle.std.proofs.lemmas.Nat.Bits.{bit_at-lt, bit_at_lowest, bit_at-suc, bit_at-zero, bit_at_xor, bit_at_above}
use Rattle.crc8_entry.specs.Polynomial.{plus, times, IsRemainder}
use Rattle.crc8_entry.specs.Crc.{extended, bits_of, message, divisor, remainder, IsCrc, crc}
use Rattle.crc8_entry.proofs.Bytes.{extended-small}

-- Coefficients of a sum and of a product.

pub plus_at : (p q : List ℕ) (i : ℕ) → get_or (plus p q) i 0 ≡ get_or p i 0 + get_or q i 0
plus_at [] q i = omega arith
plus_at (a ∷ p) [] i = omega arith
plus_at (a ∷ p) (b ∷ q) zero = refl
plus_at (a ∷ p) (b ∷ q) (suc i) = plus_at p q i

scaled_at : (a : ℕ) (q : List ℕ) (i : ℕ) → get_or (map (λ b. a * b) q) i 0 ≡ a * get_or q i 0
scaled_at a [] i = omega arith
scaled_at a (b ∷ q) zero = refl
scaled_at a (b ∷ q) (suc i) = scaled_at a q i

pub times_at_0 : (a : ℕ) (p q : List ℕ) → get_or (times (a ∷ p) q) 0 0 ≡ a * get_or q 0 0
times_at_0 a p q = omega (arith, plus_at (map (λ b. a * b) q) (0 ∷ times p q) 0, scaled_at a q 0)

pub times_at_suc : (a : ℕ) (p q : List ℕ) (i : ℕ) → get_or (times (a ∷ p) q) (suc i) 0 ≡ a * get_or q (suc i) 0 + get_or (times p q) i 0
times_at_suc a p q i = omega (arith, plus_at (map (λ b. a * b) q) (0 ∷ times p q) (suc i), scaled_at a q (suc i))

-- One step.

pub divisor_at : (i : ℕ) → bit_at 263 i ≡ get_or divisor i 0
divisor_at zero = refl
divisor_at (suc zero) = refl
divisor_at (suc (suc zero)) = refl
divisor_at (suc (suc (suc zero))) = refl
divisor_at (suc (suc (suc (suc zero)))) = refl
divisor_at (suc (suc (suc (suc (suc zero))))) = refl
divisor_at (suc (suc (suc (suc (suc (suc zero)))))) = refl
divisor_at (suc (suc (suc (suc (suc (suc (suc zero))))))) = refl
divisor_at (suc (suc (suc (suc (suc (suc (suc (suc zero)))))))) = refl
divisor_at (suc (suc (suc (suc (suc (suc (suc (suc (suc i))))))))) = bit_at_above 263 9 _ (omega arith) (omega arith)

doubled_at_0 : (r bit : ℕ) → bit < 2 → bit_at (2 * r + bit) 0 ≡ bit
doubled_at_0 r bit is-bit = bit_at_lowest (2 * r + bit) ∙ omega arith

doubled_at_suc : (r bit i : ℕ) → bit < 2 → bit_at (2 * r + bit) (suc i) ≡ bit_at r i
doubled_at_suc r bit i is-bit =
    let half : (2 * r + bit) / 2 ≡ r = omega arith in
    bit_at-suc (2 * r + bit) i ∙ ap (λ (n : ℕ). bit_at n i) half

-- how often the divisor is taken away, and what is then left at each power
record Step (r bit taken : ℕ) : Type 0 where
  at_0 : bit_at (extended r bit) 0 ≡ (bit + taken * get_or divisor 0 0) % 2
  at_suc : (i : ℕ) → bit_at (extended r bit) (suc i) ≡ (bit_at r i + taken * get_or divisor (suc i) 0) % 2

step : (r bit : ℕ) → r < 256 → bit < 2 → (taken : ℕ) × Step r bit taken
unfolding extended
step r bit small is-bit =
    elim (cases_lt (2 * r + bit) 256) [
      | inl lt ↦ (
        0,
        record {
          at_0 = rw (lt-ltb (2 * r + bit) 256 lt) (omega (arith, doubled_at_0 r bit is-bit));
          at_suc = λ i. rw (lt-ltb (2 * r + bit) 256 lt) (omega (arith, doubled_at_suc r bit i is-bit, bit_at-lt r i));
        },
      )
      | inr ge ↦ (
        1,
        record {
          at_0 = rw (le-ltb (2 * r + bit) 256 ge) (omega (arith, bit_at_xor (2 * r + bit) 263 0, doubled_at_0 r bit is-bit, divisor_at 0));
          at_suc = λ i. rw (le-ltb (2 * r + bit) 256 ge) (omega (arith, bit_at_xor (2 * r + bit) 263 (suc i), doubled_at_suc r bit i is-bit, divisor_at (suc i)));
        },
      )
    ]

-- the message so far is a multiple of the divisor and this remainder
abbrev Leaves : List ℕ → List ℕ → ℕ → Type 0
Leaves so quotient r = (i : ℕ) → get_or so i 0 % 2 ≡ (get_or (times quotient divisor) i 0 + bit_at r i) % 2

one_more : (so quotient : List ℕ) (r bit taken : ℕ) → bit < 2 → Leaves so quotient r → Step r bit taken → Leaves (bit ∷ so) (taken ∷ quotient) (extended r bit)
one_more so quotient r bit taken is-bit so_far is_step zero = omega (arith, times_at_0 taken quotient divisor, is_step.at_0)
one_more so quotient r bit taken is-bit so_far is_step (suc i) =
    omega (arith, times_at_suc taken quotient divisor i, is_step.at_suc i, so_far i)

over_bits : (bits so quotient : List ℕ) (r : ℕ) → r < 256 → AllByRecursion (λ bit. bit < 2) bits → Leaves so quotient r
    → (whole : List ℕ) × (fold extended r bits < 256) × Leaves (fold (λ so bit. bit ∷ so) so bits) whole (fold extended r bits)
over_bits [] so quotient r small are-bits so_far = (quotient, small, so_far)
over_bits (bit ∷ bits) so quotient r small are-bits so_far =
    let taken = step r bit small are-bits.0 in
    over_bits bits (bit ∷ so) (taken.0 ∷ quotient) (extended r bit) (extended-small r bit small are-bits.0) are-bits.1
    (one_more so quotient r bit taken.0 are-bits.0 so_far taken.1)

-- a byte's bits are its coefficients
pub byte_at : (r i : ℕ) → r < 256 → get_or (reverse (bits_of r)) i 0 ≡ bit_at r i
unfolding bits_of
byte_at r zero small = refl
byte_at r (suc zero) small = refl
byte_at r (suc (suc zero)) small = refl
byte_at r (suc (suc (suc zero))) small = refl
byte_at r (suc (suc (suc (suc zero)))) small = refl
byte_at r (suc (suc (suc (suc (suc zero))))) small = refl
byte_at r (suc (suc (suc (suc (suc (suc zero)))))) small = refl
byte_at r (suc (suc (suc (suc (suc (suc (suc zero))))))) small = refl
byte_at r (suc (suc (suc (suc (suc (suc (suc (suc i)))))))) small = sym (bit_at_above r 8 _ (omega arith) (omega arith))

byte_lower : (r : ℕ) → length (reverse (bits_of r)) < length divisor
unfolding bits_of
byte_lower r = lit< tt

bits_then_zeros : (bytes : List ℕ) → AllByRecursion (λ bit. bit < 2) (flat_map bits_of bytes ++ replicate 8 0)
unfolding bits_of
bits_then_zeros [] = (lit< tt, (lit< tt, (lit< tt, (lit< tt, (lit< tt, (lit< tt, (lit< tt, (lit< tt, tt))))))))
bits_then_zeros (byte ∷ bytes) = (bit_at-lt byte 7, (bit_at-lt byte 6, (bit_at-lt byte 5, (bit_at-lt byte 4, (bit_at-lt byte 3, (bit_at-lt byte 2, (bit_at-lt byte 1, (bit_at-lt byte 0, bits_then_zeros bytes))))))))

remainder-IsRemainder : (bits : List ℕ) → AllByRecursion (λ bit. bit < 2) bits → IsRemainder (reverse bits) divisor (reverse (bits_of (remainder bits)))
remainder-IsRemainder bits are-bits =
    let whole = over_bits bits [] [] 0 (lit< tt) are-bits (λ i. omega (arith, bit_at-zero i)) in
    record {
      lower = byte_lower (remainder bits);
      quotient = whole.0;
      divides = λ i. omega (arith, whole.2 i, plus_at (times whole.0 divisor) (reverse (bits_of (remainder bits))) i, byte_at (remainder bits) i whole.1);
    }

pub crc-IsCrc : (start : ℕ) (bytes : List ℕ) (value : ℕ) → value ≡ crc start bytes → IsCrc start bytes value
unfolding crc IsCrc
crc-IsCrc start [] value is = is
crc-IsCrc start (byte ∷ bytes) value is =
    subst (λ (v : ℕ). IsRemainder (reverse (message start byte bytes)) divisor (reverse (bits_of v))) (sym is)
    (remainder-IsRemainder (message start byte bytes) (bits_then_zeros (bit_xor byte start ∷ bytes)))
