-- Words of answers have no space and no end of line.
use Rattle.std.proofs.lemmas.List.Sums.{AllPass-from_list_all}
use Rattle.std.proofs.Common.{◌≡◌, ℕ, suc, ◌+◌, ◌/◌, ◌%◌, ◌^◌, ◌<◌, nat_lt, true, List, [], ◌∷◌, get_or, codes, refl, arith}
use Rattle.std.specs.List.{list_all}
use Rattle.std.specs.Fmt.{decimal}
use Rattle.std.proofs.lemmas.Bool.{and_parts}
use Rattle.std.proofs.lemmas.Bool.Decides.{nat_tests}
use Rattle.std.proofs.lemmas.Fmt.{decimal_by_steps}
use Rattle.std.proofs.lemmas.List.Elements.{All-nil, All-cons, All-append}
use Rattle.hex.specs.Hex.{encode_with, encode_lower, lower_digits, IsBytes}
use Rattle.setting_name.specs.Name.{IsName}
use Rattle.setting_name.proofs.KeyLemmas.{name_bytes}
use Rattle.image_file.specs.Lawful.{IsLabel, is_label_byte}
use Rattle.script_lines.specs.Answer.{dashed}
use Rattle.script_lines.specs.Transcript.{IsWord}
use Rattle.script_lines.proofs.GeneratorLemmas.{all_below, at_below}

above : (b : ℕ) → nat_lt 32 b ≡ true → 32 < b
above b is = grind (arith, nat_tests)

pub literal : (word : List ℕ) → list_all (λ b. nat_lt 32 b) word ≡ true → IsWord word
literal [] is = All-nil (λ b. 32 < b)
literal (b ∷ word) is =
    let both = and_parts (nat_lt 32 b) (list_all (λ b. nat_lt 32 b) word) is in
    All-cons (λ b. 32 < b) b word (above b both.0) (literal word both.1)

pub decimal_word : (n : ℕ) → n < 2 ^ 64 → IsWord (decimal n)
decimal_word n small = decimal_by_steps (λ n ds. IsWord ds) (λ n low. All-cons (λ b. 32 < b) (48 + n) [] (omega arith) (All-nil (λ b. 32 < b)))
    (λ n ds high so_far. All-append (λ b. 32 < b) ds ((48 + n % 10) ∷ []) so_far (All-cons (λ b. 32 < b) (48 + n % 10) [] (omega arith) (All-nil (λ b. 32 < b)))) n small

digits_above : all_below 16 (λ k. nat_lt 32 (get_or lower_digits k 0)) ≡ true
unfolding all_below
digits_above = refl

digit_above : (k : ℕ) → k < 16 → 32 < get_or lower_digits k 0
digit_above k below = above (get_or lower_digits k 0) (at_below 16 k (λ k. nat_lt 32 (get_or lower_digits k 0)) digits_above below)

pub hex_word : (bytes : List ℕ) → IsBytes bytes → IsWord (encode_lower bytes)
unfolding encode_with
hex_word [] are = All-nil (λ b. 32 < b)
hex_word (b ∷ bytes) are =
    let here : b < 256 = are 0 in
    let low = get_or lower_digits (b % 16) 0 in
    All-cons (λ b. 32 < b) (get_or lower_digits (b / 16) 0) (low ∷ encode_with lower_digits bytes) (digit_above (b / 16) (omega arith))
    (All-cons (λ b. 32 < b) low (encode_with lower_digits bytes) (digit_above (b % 16) (omega arith)) (hex_word bytes (λ i. are (suc i))))

pub name_word : (name : List ℕ) → IsName name → IsWord name
name_word name is = λ k d below. let at = name_bytes name is.bytes k d below in omega (arith, at.0)

label_above : (b : ℕ) → is_label_byte b ≡ true → 32 < b
label_above b is = grind (arith, nat_tests)

pub label_word : (label : List ℕ) → IsLabel label → IsWord label
label_word label is = λ k d below. label_above _ (AllPass-from_list_all is_label_byte label is.each k d below)

pub dashed_word : (rest : List ℕ) → IsWord rest → IsWord (dashed rest)
dashed_word [] is = literal (codes "-") refl
dashed_word (b ∷ rest) is = is
