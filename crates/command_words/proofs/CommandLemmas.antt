-- Kinds of stores and numbers of lines, as words.
use Rattle.std.proofs.Common.{◌≡◌, ◌≢◌, ◌∙◌, ℕ, ◌<◌, ◌≤◌, List, refl, sym, arith, codes}
use Rattle.std.specs.Fmt.{decimal}
use Rattle.std.proofs.lemmas.Fmt.{decimal_injective}
use Rattle.command_words.specs.Commands.{IsLines, store_word}
use Rattle.command_words.specs.Laws.{OneScript}
use Rattle.command_words.specs.Operands.{IsLineCount, IsNoLineCount}
use Rattle.command_words.specs.declared.commands.StoreKind.{StoreKind}
use Rattle.command_words.specs.declared.commands.StoreKind.TheVariants.{Nvs, Zms, Fcb}
use Rattle.command_words.proofs.FoundLemmas.{apart}

-- two kinds have two words
one_kind : (a b : StoreKind) → store_word a ≡ store_word b → a ≡ b
one_kind Nvs Nvs same = refl
one_kind Nvs Zms same = absurd (apart (codes "nvs") (codes "zms") refl same)
one_kind Nvs Fcb same = absurd (apart (codes "nvs") (codes "fcb") refl same)
one_kind Zms Nvs same = absurd (apart (codes "zms") (codes "nvs") refl same)
one_kind Zms Zms same = refl
one_kind Zms Fcb same = absurd (apart (codes "zms") (codes "fcb") refl same)
one_kind Fcb Nvs same = absurd (apart (codes "fcb") (codes "nvs") refl same)
one_kind Fcb Zms same = absurd (apart (codes "fcb") (codes "zms") refl same)
one_kind Fcb Fcb same = refl

-- two numbers of lines have two words
pub one_count : (m n : ℕ) → IsLines m → m ≤ 10000 → n ≤ 10000 → decimal m ≡ decimal n → m ≡ n
one_count m n lines most most' same = decimal_injective m n (omega arith) (omega arith) same

pub one_script : OneScript
one_script words out out' kind kind' n n' a b =
    let kinds : store_word kind ≡ store_word kind' = cc (a.written, b.written) in
    let counts : decimal n ≡ decimal n' = cc (a.written, b.written) in
    (one_kind kind kind' kinds, one_count n n' a.in_range a.in_range.1 b.in_range.1 counts)

-- the word of zero is no number of lines
pub no_lines : (word : List ℕ) → word ≡ decimal 0 → IsNoLineCount word
no_lines word zero n is =
    let most : n ≤ 10000 = is.1.1 in
    let same : 0 ≡ n = decimal_injective 0 n (omega arith) (omega arith) (sym zero ∙ is.0) in
    let some : 1 ≤ n = is.1.0 in
    omega arith

-- the word of another number below the end is a number of lines
pub some_lines : (word : List ℕ) (n : ℕ) → word ≡ decimal n → n ≢ 0 → n < 10001 → IsLineCount word n
some_lines word n is some below =
    let least : 1 ≤ n = omega arith in
    let most : n ≤ 10000 = omega arith in
    (is, (least, most))
