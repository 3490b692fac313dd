-- First words that no form has.
use Rattle.std.proofs.Common.{◌≡◌, ◌≢◌, ℕ, Bool, true, false, List, [], ◌∷◌, refl, sym, subst}
use Rattle.std.specs.List.{list_any, list_all}
use Rattle.std.specs.Str.{IsUtf8, bytes_eq}
use Rattle.std.proofs.lemmas.Bool.{and_parts, or_from, false_from_ne_true}
use Rattle.std.proofs.lemmas.Slice.Eq.{bytes_eq-Decides}
use Rattle.image_file.specs.Lawful.{is_label_byte}
use Rattle.script_lines.specs.Forms.{Form, has_word}
use Rattle.script_lines.proofs.NameTexts.{plain_text}

differs : (word want : List ℕ) → word ≢ want → bytes_eq word want ≡ false
differs word want other = false_from_ne_true (bytes_eq word want) (λ same. other ((bytes_eq-Decides word want).0 same))

-- the word is no form's first word
abbrev pub DiffersFromEach : List ℕ → List Form → Type 0
DiffersFromEach word [] = Unit {0}
DiffersFromEach word (form ∷ table) = (word ≢ form.word) × DiffersFromEach word table

pub no_form : (word : List ℕ) (table : List Form) → DiffersFromEach word table → list_any (has_word word) table ≡ false
no_form word [] others = refl
no_form word (form ∷ table) others = or_from (has_word word form) (list_any (has_word word) table) (differs word form.word others.0) (no_form word table others.1)

-- the first word is of letters and digits
abbrev pub is_plain : Form → Bool
is_plain form = list_all is_label_byte form.word

-- bytes that are no text are no such word
pub no_text : (word : List ℕ) (table : List Form) → (IsUtf8 word → ⊥) → list_all is_plain table ≡ true → list_any (has_word word) table ≡ false
no_text word [] other plain = refl
no_text word (form ∷ table) other plain =
    let both = and_parts (is_plain form) (list_all is_plain table) plain in
    or_from (has_word word form) (list_any (has_word word) table) (differs word form.word (λ same. other (subst IsUtf8 (sym same) (plain_text form.word both.0)))) (no_text word table other both.1)
