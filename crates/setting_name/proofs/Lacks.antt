-- A text has an empty part exactly where a part should begin and does not.
use Rattle.std.proofs.Common.{◌≡◌, ℕ, zero, suc, ◌+◌, ◌-◌, ◌<◌, ◌≤◌, Bool, true, false, cond, eqb, ◌&&◌, ◌||◌, List, [], ◌∷◌, length, get_or, refl, sym, ◌∙◌, ap, ne_eqb, inl, inr, below_more, subst, arith}
use Rattle.std.proofs.Math.Dec.{eqb-suc-suc}
use Rattle.std.proofs.lemmas.Bool.{cases_lt}
use Rattle.std.proofs.lemmas.List.{get_or_past}
use Rattle.std.specs.List.{All, onto_first}
use Rattle.std.proofs.lemmas.List.Elements.{All-nil, All-cons, All-head, All-tail}
use Rattle.setting_name.specs.Name.{is_slash, parts_of, HasWholeParts}
use Rattle.setting_name.specs.NameFault.{lacks_part, part_is_due}
use Rattle.setting_name.proofs.Joins.{length-parts_of}

abbrev pub IsWhole : List ℕ → Type 0
IsWhole part = 1 ≤ length part

-- the same test, where a part is due at the start or not
abbrev pub lacks_from : Bool → List ℕ → ℕ → Bool
lacks_from due [] zero = due
lacks_from due [] (suc k) = false
lacks_from due (x ∷ text) zero = due && is_slash x
lacks_from due (x ∷ text) (suc k) = lacks_from (is_slash x) text k

-- the parts that begin in a text: all of them, or all but the first
abbrev pub begun : Bool → List (List ℕ) → List (List ℕ)
begun true parts = parts
begun false [] = []
begun false (part ∷ parts) = parts

whole_more : (x : ℕ) (due b : Bool) (parts : List (List ℕ)) → 1 ≤ length parts → (due && b) ≡ false
    → All IsWhole (begun b parts) → All IsWhole (begun due (cond b ([] ∷ parts) (onto_first x parts)))
whole_more x true true parts some none whole = absurd (cc)
whole_more x false true parts some none whole = whole
whole_more x due false [] some none whole = absurd (omega arith)
whole_more x true false (part ∷ parts) some none whole = All-cons IsWhole (x ∷ part) parts (omega arith) whole
whole_more x false false (part ∷ parts) some none whole = whole

whole_less : (x : ℕ) (due b : Bool) (parts : List (List ℕ)) → 1 ≤ length parts
    → All IsWhole (begun due (cond b ([] ∷ parts) (onto_first x parts))) → All IsWhole (begun b parts)
whole_less x true true parts some whole = All-tail IsWhole [] parts whole
whole_less x false true parts some whole = whole
whole_less x due false [] some whole = absurd (omega arith)
whole_less x true false (part ∷ parts) some whole = All-tail IsWhole (x ∷ part) parts whole
whole_less x false false (part ∷ parts) some whole = whole

pub whole-from : (due : Bool) (text : List ℕ) → ((k : ℕ) → k ≤ length text → lacks_from due text k ≡ false) → All IsWhole (begun due (parts_of text))
whole-from true [] none = absurd (let h : true ≡ false = none 0 (omega arith) in cc)
whole-from false [] none = All-nil IsWhole
whole-from due (x ∷ text) none =
    whole_more x due (is_slash x) (parts_of text) (length-parts_of text) (none 0 (omega arith))
    (whole-from (is_slash x) text (λ k below. none (suc k) (omega arith)))

begun_lacks : (x : ℕ) (due b : Bool) (parts : List (List ℕ)) → (due && b) ≡ true → All IsWhole (begun due (cond b ([] ∷ parts) (onto_first x parts))) → ⊥
begun_lacks x true true parts lack whole = let some : 1 ≤ length {A = ℕ} [] = All-head IsWhole [] parts whole in omega arith
begun_lacks x true false parts lack whole = absurd (cc)
begun_lacks x false b parts lack whole = absurd (cc)

pub lacks_not_whole : (due : Bool) (text : List ℕ) (k : ℕ) → lacks_from due text k ≡ true → All IsWhole (begun due (parts_of text)) → ⊥
lacks_not_whole true [] zero lack whole = let some : 1 ≤ length {A = ℕ} [] = All-head IsWhole [] [] whole in omega arith
lacks_not_whole false [] zero lack whole = absurd (cc)
lacks_not_whole due [] (suc k) lack whole = absurd (cc)
lacks_not_whole due (x ∷ text) zero lack whole = begun_lacks x due (is_slash x) (parts_of text) lack whole
lacks_not_whole due (x ∷ text) (suc k) lack whole =
    lacks_not_whole (is_slash x) text k lack (whole_less x due (is_slash x) (parts_of text) (length-parts_of text) whole)

-- a part is due at the start or not, and behind each slash
abbrev due_at : Bool → List ℕ → ℕ → Bool
due_at due text zero = due
due_at due text (suc k) = is_slash (get_or text k 0)

abbrev ends_at : List ℕ → ℕ → Bool
ends_at text k = eqb k (length text) || is_slash (get_or text k 0)

due_at-cons : (due : Bool) (x : ℕ) (text : List ℕ) (k : ℕ) → due_at due (x ∷ text) (suc k) ≡ due_at (is_slash x) text k
due_at-cons due x text zero = refl
due_at-cons due x text (suc k) = refl

ends_at-cons : (x : ℕ) (text : List ℕ) (k : ℕ) → ends_at (x ∷ text) (suc k) ≡ ends_at text k
ends_at-cons x text k = ap (λ b. b || is_slash (get_or text k 0)) (eqb-suc-suc k (length text))

and_true : (b : Bool) → (b && true) ≡ b
and_true true = refl
and_true false = refl

lacks-from : (due : Bool) (text : List ℕ) (k : ℕ) → k ≤ length text → (due_at due text k && ends_at text k) ≡ lacks_from due text k
lacks-from due [] zero below = and_true due
lacks-from due [] (suc k) below = absurd (omega arith)
lacks-from due (x ∷ text) zero below = ap (λ b. due && (b || is_slash x)) (ne_eqb 0 (length (x ∷ text)) (λ same. omega arith))
lacks-from due (x ∷ text) (suc k) below =
    ap (λ b. b && ends_at (x ∷ text) (suc k)) (due_at-cons due x text k)
    ∙ ap (λ b. due_at (is_slash x) text k && b) (ends_at-cons x text k)
    ∙ lacks-from (is_slash x) text k (omega arith)

part_is_due-at : (text : List ℕ) (k : ℕ) → part_is_due text k ≡ due_at true text k
part_is_due-at text zero = refl
part_is_due-at text (suc k) =
    let later : eqb (suc k) 0 ≡ false = ne_eqb (suc k) 0 (λ same. omega arith) in
    let before : suc k - 1 ≡ k = omega arith in
    ap (λ b. b || is_slash (get_or text (suc k - 1) 0)) later ∙ ap (λ n. is_slash (get_or text n 0)) before

lacks_part-from : (text : List ℕ) (k : ℕ) → k ≤ length text → lacks_part text k ≡ lacks_from true text k
lacks_part-from text k below = ap (λ b. b && ends_at text k) (part_is_due-at text k) ∙ lacks-from true text k below

pub whole_parts : (text : List ℕ) → ((k : ℕ) → k ≤ length text → lacks_part text k ≡ false) → HasWholeParts text
whole_parts text none = whole-from true text (λ k below. sym (lacks_part-from text k below) ∙ none k below)

pub lack_breaks : (text : List ℕ) (k : ℕ) → k ≤ length text → lacks_part text k ≡ true → HasWholeParts text → ⊥
lack_breaks text k below lack whole = lacks_not_whole true text k (sym (lacks_part-from text k below) ∙ lack) whole

part_is_due-more : (text : List ℕ) (place : ℕ) → part_is_due text (place + 1) ≡ is_slash (get_or text place 0)
part_is_due-more text place =
    let next : place + 1 ≡ suc place = omega arith in
    ap (part_is_due text) next ∙ part_is_due-at text (suc place)

-- every part that was due before this place began there
pub record BeganBefore (text : List ℕ) (place : ℕ) (due : Bool) : Type 0 where
  pub due_here : due ≡ part_is_due text place
  pub none_lacks : (k : ℕ) → k < place → lacks_part text k ≡ false

pub and_false : (b : Bool) → (b && false) ≡ false
and_false true = refl
and_false false = refl

lacks_no : (a b c : Bool) → (a && c) ≡ false → b ≡ false → (a && (b || c)) ≡ false
lacks_no true true c none other = absurd (cc)
lacks_no true false c none other = none
lacks_no false b c none other = refl

pub began_more : (text : List ℕ) (place : ℕ) (due : Bool) → place < length text → BeganBefore text place due
    → (due && is_slash (get_or text place 0)) ≡ false → BeganBefore text (place + 1) (is_slash (get_or text place 0))
began_more text place due below before none = record {
  due_here = sym (part_is_due-more text place);
  none_lacks = below_more (λ k. lacks_part text k ≡ false) place before.none_lacks
      (lacks_no (part_is_due text place) (eqb place (length text)) (is_slash (get_or text place 0))
      (ap (λ b. b && is_slash (get_or text place 0)) (sym before.due_here) ∙ none)
      (ne_eqb place (length text) (λ same. omega arith)));
}

at_end : (text : List ℕ) (due : Bool) → due ≡ false → BeganBefore text (length text) due → (k : ℕ) → k ≤ length text → lacks_part text k ≡ false
at_end text due none before k below =
    below_more (λ j. lacks_part text j ≡ false) (length text) before.none_lacks
    (ap (λ b. b && (eqb (length text) (length text) || is_slash (get_or text (length text) 0))) (sym before.due_here ∙ none))
    k (omega arith)

pub whole_at_end : (text : List ℕ) (place : ℕ) (due : Bool) → length text ≤ place → place ≤ length text → due ≡ false → BeganBefore text place due → HasWholeParts text
whole_at_end text place due past within none before =
    let at : place ≡ length text = omega arith in
    whole_parts text (at_end text due none (subst (λ p. BeganBefore text p due) at before))

no_lack : (a b c : Bool) → b ≡ false → c ≡ false → (a && (b || c)) ≡ false
no_lack true true c not_end no_slash = not_end
no_lack true false c not_end no_slash = no_slash
no_lack false b c not_end no_slash = refl

-- nothing lies behind the end of a text
pub lacks_within : (text : List ℕ) (place : ℕ) → lacks_part text place ≡ true → place ≤ length text
lacks_within text place lack =
    elim (cases_lt (length text) place) [
      | inl past ↦
          let none : lacks_part text place ≡ false =
          no_lack (part_is_due text place) (eqb place (length text)) (is_slash (get_or text place 0))
          (ne_eqb place (length text) (λ same. omega arith)) (ap is_slash (get_or_past text place 0 (omega arith))) in
          absurd (let both : true ≡ false = sym lack ∙ none in cc)
      | inr within ↦ within
    ]
