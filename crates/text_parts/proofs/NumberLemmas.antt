-- Numbers in decimal.
use Rattle.std.proofs.Common.{◌≡◌, ◌≢◌, ℕ, zero, suc, ◌^◌, ◌<◌, ◌≤◌, ◌==◌, ◌&&◌, ◌||◌, nat_lt, List, length, length-drop, slice_index, false, true, Result, Ok, Err, sym, ◌∙◌, ap, subst, arith}
use Rattle.std.specs.Fmt.{decimal}
use Rattle.std.specs.Str.Parse.{AllDigits, ParsesUnsigned, digits_value}
use Rattle.std.proofs.lemmas.Bool.Decides.{nat_tests}
use Rattle.std.proofs.lemmas.Fmt.{decimal_digit, decimal_is_IsNumeral, decimal-digits_value, first_decimal, parse-decimal}
use Rattle.std.proofs.lemmas.Result.{OkIff-at_ok}
use Rattle.std.proofs.lemmas.Str.Parse.{IsNumeralModel, numerals_by_value, tells_digits, not_in_digits, parse_plain, parse_plus}
use Rattle.text_parts.specs.Numbers.{IsNoNumber, is_padded}

numerals : IsNumeralModel (AllDigits 10) (digits_value 10)
numerals = numerals_by_value (AllDigits 10) tells_digits

-- ---- what is_padded tells of a length and a first byte

long_if : (many first : ℕ) → (nat_lt 1 many && ((first == 43) || (first == 48))) ≡ true → 1 < many
long_if many first padded = grind (arith, nat_tests)

zero_if : (many first : ℕ) → (nat_lt 1 many && ((first == 43) || (first == 48))) ≡ true → first ≢ 43 → first ≡ 48
zero_if many first padded unsigned = grind (arith, nat_tests)

short_if : (many first : ℕ) → (nat_lt 1 many && ((first == 43) || (first == 48))) ≡ false → 0 < many → first ≡ 48 → many ≡ 1
short_if many first plain some is = grind (arith, nat_tests)

unsigned_if : (many first : ℕ) → (nat_lt 1 many && ((first == 43) || (first == 48))) ≡ false → 1 < many → first ≢ 43
unsigned_if many first plain long is = grind (arith, nat_tests)

-- ---- what is no number

-- no number begins with a plus sign
no_plus : (n : ℕ) → n < 2 ^ 64 → slice_index (decimal n) 0 ≢ 43
no_plus n small =
    let numeral = decimal_is_IsNumeral n small in
    not_in_digits numerals (decimal n) 43 numeral.0.1 (λ within. omega (arith, within.0)) 0 numeral.0.0

-- a number that begins with a zero is zero
one_zero : (n : ℕ) → n < 2 ^ 64 → slice_index (decimal n) 0 ≡ 48 → length (decimal n) ≡ 1
one_zero zero small is = ap length (decimal_digit 0 (omega arith))
one_zero (suc n) small is = absurd (omega (arith, is, first_decimal (suc n) (omega arith) small))

-- what is padded is no number
pub padded : (limit : ℕ) (word : List ℕ) → limit < 2 ^ 64 → is_padded word ≡ true → IsNoNumber limit word
padded limit word fits begins n below is =
    let small : n < 2 ^ 64 = omega arith in
    let same : is_padded (decimal n) ≡ true = subst (λ w. is_padded w ≡ true) is begins in
    let first : slice_index (decimal n) 0 ≡ 48 = zero_if (length (decimal n)) (slice_index (decimal n) 0) same (no_plus n small) in
    omega (arith, long_if (length (decimal n)) (slice_index (decimal n) 0) same, one_zero n small first)

-- what does not parse is no number
pub not_parsed : {E : Type 0} (limit : ℕ) (word text : List ℕ) (r : Result ℕ E) (e : E) → limit < 2 ^ 64 → text ≡ word → ParsesUnsigned 64 10 text r → r ≡ Err e → IsNoNumber limit word
not_parsed limit word text r e fits same parses err n small is =
    let below : n < 2 ^ 64 = omega arith in
    let got = parse-decimal 64 n text r below below (same ∙ is) parses in cc

-- what parses to a number that is not below the limit is none
pub too_large : {E : Type 0} (limit : ℕ) (word text : List ℕ) (r : Result ℕ E) (m : ℕ) → limit < 2 ^ 64 → text ≡ word → ParsesUnsigned 64 10 text r → r ≡ Ok m → limit ≤ m → IsNoNumber limit word
too_large limit word text r m fits same parses ok large n small is =
    let below : n < 2 ^ 64 = omega arith in
    let got : r ≡ Ok n = parse-decimal 64 n text r below below (same ∙ is) parses in
    let alike : m ≡ n = cc in
    omega arith

-- ---- what is a number

module _ {E : Type 0} (word : List ℕ) (r : Result ℕ E) (m : ℕ) (plain : is_padded word ≡ false) (parses : ParsesUnsigned 64 10 word r) (ok : r ≡ Ok m) where
  unsigned : slice_index word 0 ≢ 43
  unsigned plus =
      let read = OkIff-at_ok r _ _ m (parse_plus numerals 64 word r parses plus) ok in
      unsigned_if (length word) (slice_index word 0) plain (omega (arith, read.0.1, length-drop 1 word)) plus

  -- what is not padded and parses is that number
  spelled : word ≡ decimal m
  spelled =
      let read = OkIff-at_ok r _ _ m (parse_plain numerals 64 word r parses unsigned) ok in
      sym (ap decimal read.1 ∙ decimal-digits_value numerals word read.0.0 read.0.1 (short_if (length word) (slice_index word 0) plain read.0.1) read.0.2)

pub is_number : {E : Type 0} (word text : List ℕ) (r : Result ℕ E) (m : ℕ) → text ≡ word → is_padded word ≡ false → ParsesUnsigned 64 10 text r → r ≡ Ok m → word ≡ decimal m
is_number word text r m same plain parses ok = spelled word r m plain (subst (λ t. ParsesUnsigned 64 10 t r) same parses) ok
