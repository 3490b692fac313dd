-- Lines of words from their text.
use Rattle.std.proofs.Common.{◌≡◌, ℕ, ◌==◌, ◌<◌, ◌≤◌, false, List, [], ◌∷◌, ◌++◌, length, map, refl, sym, ◌∙◌, ap, arith}
use Rattle.std.specs.List.{All, join_with_byte}
use Rattle.std.proofs.lemmas.Bool.Decides.{nat_tests}
use Rattle.std.proofs.lemmas.List.Elements.{All-nil, All-cons, All-head, All-tail, All-append}
use Rattle.std.proofs.lemmas.List.Splits.{slice_split_none, slice_split_at}
use Rattle.text_parts.specs.Parts.{parts}
use Rattle.script_lines.specs.Answer.{lines_text}
use Rattle.script_lines.specs.Transcript.{IsWord}

-- one word at least
pub record IsTextLine (line : List (List ℕ)) : Type 0 where
  pub some : 0 < length line
  pub words : All IsWord line

pub not_byte : (c b : ℕ) → c ≤ 32 → 32 < b → (b == c) ≡ false
not_byte c b low above = grind (arith, nat_tests)

word_without : (c : ℕ) (word : List ℕ) → c ≤ 32 → IsWord word → All (λ b. (b == c) ≡ false) word
word_without c word low is = λ k d below. not_byte c _ low (is k d below)

no_end : (words : List (List ℕ)) → All IsWord words → All (λ b. (b == 10) ≡ false) (join_with_byte 32 words)
no_end [] all = All-nil (λ b. (b == 10) ≡ false)
no_end (word ∷ []) all = word_without 10 word (omega arith) (All-head IsWord word [] all)
no_end (word ∷ next ∷ words) all =
    All-append (λ b. (b == 10) ≡ false) word (32 ∷ join_with_byte 32 (next ∷ words)) (word_without 10 word (omega arith) (All-head IsWord word (next ∷ words) all))
    (All-cons (λ b. (b == 10) ≡ false) 32 (join_with_byte 32 (next ∷ words)) refl (no_end (next ∷ words) (All-tail IsWord word (next ∷ words) all)))

words_again : (words : List (List ℕ)) → 0 < length words → All IsWord words → parts 32 (join_with_byte 32 words) ≡ words
words_again [] some all = absurd (omega arith)
words_again (word ∷ []) some all = slice_split_none (λ b. b == 32) word (word_without 32 word (omega arith) (All-head IsWord word [] all))
words_again (word ∷ next ∷ words) some all =
    slice_split_at (λ b. b == 32) word 32 (join_with_byte 32 (next ∷ words)) (word_without 32 word (omega arith) (All-head IsWord word (next ∷ words) all)) refl
    ∙ ap (λ (ws : List (List ℕ)). word ∷ ws) (words_again (next ∷ words) (omega arith) (All-tail IsWord word (next ∷ words) all))

-- the words of each line, and of what stands behind the last
tokens : List ℕ → List (List (List ℕ))
tokens text = map (λ line. parts 32 line) (parts 10 text)

more : {A : Type 0} (a b : A) (xs ys : List A) → a ≡ b → xs ≡ ys → a ∷ xs ≡ b ∷ ys
more a b xs ys first rest = cc

lines_again : (lines : List (List (List ℕ))) → All IsTextLine lines → tokens (lines_text lines) ≡ lines ++ ([] ∷ []) ∷ []
unfolding tokens
lines_again [] all = refl
lines_again (words ∷ lines) all =
    let line = All-head IsTextLine words lines all in
    ap (map (λ line. parts 32 line)) (slice_split_at (λ b. b == 10) (join_with_byte 32 words) 10 (lines_text lines) (no_end words line.words) refl)
    ∙ more (parts 32 (join_with_byte 32 words)) words (map (λ line. parts 32 line) (parts 10 (lines_text lines))) (lines ++ ([] ∷ []) ∷ []) (words_again words line.some line.words) (lines_again lines (All-tail IsTextLine words lines all))

but_last : {A : Type 0} → List A → List A
but_last [] = []
but_last (x ∷ []) = []
but_last (x ∷ y ∷ xs) = x ∷ but_last (y ∷ xs)

but_last-append : {A : Type 0} (xs : List A) (x : A) → but_last (xs ++ x ∷ []) ≡ xs
unfolding but_last
but_last-append [] x = refl
but_last-append (y ∷ []) x = refl
but_last-append (y ∷ z ∷ xs) x = ap (λ ys. y ∷ ys) (but_last-append (z ∷ xs) x)

-- a text is one list of lines
pub one_list : (some others : List (List (List ℕ))) → All IsTextLine some → All IsTextLine others → lines_text some ≡ lines_text others → some ≡ others
one_list some others is are same =
    let both : some ++ ([] ∷ []) ∷ [] ≡ others ++ ([] ∷ []) ∷ [] = sym (lines_again some is) ∙ ap tokens same ∙ lines_again others are in
    sym (but_last-append some ([] ∷ [])) ∙ ap but_last both ∙ but_last-append others ([] ∷ [])
