-- The values of lines that a table reads.
use Rattle.std.proofs.Common.{◌≡◌, ◌⊎◌, inl, inr, ◌∙◌, ℕ, zero, suc, ◌≤◌, List, [], ◌∷◌, length, map, Some, refl, sym, ap, subst, arith, codes}
use Rattle.std.specs.List.{All}
use Rattle.text_parts.specs.Parts.{parts}
use Rattle.script_lines.specs.Forms.{Form, Field, IsNothing, Said, SaysAll, SaysBytes, Spells, form, form_at}
use Rattle.script_lines.specs.Forms.Field.{a_name, any_bytes}
use Rattle.script_lines.specs.Forms.Said.{name, bytes}
use Rattle.script_lines.specs.Script.{SpellsAll, spoken}
use Rattle.mirror_session.specs.Line.{mirror_forms, row_of}
use Rattle.mirror_session.specs.declared.line.Line.{Line}
use Rattle.mirror_session.specs.declared.line.Line.TheVariants.{Set, Get, Del, Names, Mount, Cut, Uncut, Blank}
use Rattle.mirror_session.specs.Laws.{LinesAreServed}
use Rattle.mirror_session.specs.LineDone.{IsServed}

-- as many words as there are fields, and as what they say
same_length : (limit : ℕ) (fields : List Field) (operands : List (List ℕ)) (said : List Said) → SaysAll limit fields operands said → length operands ≡ length said
same_length limit [] [] [] says = refl
same_length limit [] [] (a ∷ said) says = absurd says
same_length limit [] (x ∷ operands) said says = absurd says
same_length limit (f ∷ fields) [] said says = absurd says
same_length limit (f ∷ fields) (x ∷ operands) [] says = absurd says
same_length limit (f ∷ fields) (x ∷ operands) (a ∷ said) says = ap suc (same_length limit fields operands said says.1)

-- by the form that the table has for two words
by_form : (limit : ℕ) (operands : List (List ℕ)) (f : Form) (a b : Said) → form_at mirror_forms (codes "set") (length operands) ≡ Some f → SaysAll limit f.fields operands (a ∷ b ∷ [])
    → SaysAll limit (a_name ∷ any_bytes ∷ []) operands (a ∷ b ∷ [])
by_form limit operands f a b found says =
    let two : length operands ≡ 2 = same_length limit f.fields operands (a ∷ b ∷ []) says in
    let same : Some f ≡ Some (form (codes "set") (a_name ∷ any_bytes ∷ [])) = sym found ∙ ap (form_at mirror_forms (codes "set")) two in
    let is : f ≡ form (codes "set") (a_name ∷ any_bytes ∷ []) = cc same in
    subst (λ (g : Form). SaysAll limit g.fields operands (a ∷ b ∷ [])) is says

short : (limit : ℕ) (word value : List ℕ) → IsNothing word value ⊎ SaysBytes limit word value → length value ≤ limit
short limit word value (inl none) = let e : length value ≡ 0 = ap length none.1 in omega (arith, e)
short limit word value (inr some) = some.1

set_fits : (limit : ℕ) (operands : List (List ℕ)) (text value : List ℕ) → SaysAll limit (a_name ∷ any_bytes ∷ []) operands (name text ∷ bytes value ∷ []) → length value ≤ limit
set_fits limit [] text value says = absurd says
set_fits limit (x ∷ []) text value says = absurd says.1
set_fits limit (x ∷ y ∷ operands) text value says = short limit y value says.1.0

line_fits : (limit : ℕ) (words : List (List ℕ)) (line : Line) → Spells mirror_forms limit words (row_of line) → IsServed limit line
line_fits limit words (Set text value) is = set_fits limit is.operands text value (by_form limit is.operands is.form (name text) (bytes value) is.found is.says)
line_fits limit words (Get text) is = tt
line_fits limit words (Del text) is = tt
line_fits limit words Names is = tt
line_fits limit words Mount is = tt
line_fits limit words (Cut units) is = tt
line_fits limit words Uncut is = tt
line_fits limit words (Blank text) is = tt

lines_fit : (limit : ℕ) (texts : List (List ℕ)) (lines : List Line) → SpellsAll mirror_forms limit texts (map row_of lines) → All (IsServed limit) lines
lines_fit limit texts [] is k line below = absurd (omega arith)
lines_fit limit [] (first ∷ lines) is k line below = absurd is
lines_fit limit (text ∷ texts) (first ∷ lines) is zero line below = line_fits limit (parts 32 text) first is.0
lines_fit limit (text ∷ texts) (first ∷ lines) is (suc k) line below = lines_fit limit texts lines is.1 k line (omega arith)

pub lines_are_served : LinesAreServed
lines_are_served limit text lines is = lines_fit limit (spoken (parts 10 text)) lines is
