-- The values of lines that a table reads.
use Rattle.std.proofs.Common.{◌≡◌, ◌∙◌, inl, inr, ℕ, zero, suc, ◌<◌, ◌≤◌, List, [], ◌∷◌, length, map, Some, refl, sym, ap, subst, arith, codes}
use Rattle.std.specs.List.{All}
use Rattle.text_parts.specs.Parts.{parts}
use Rattle.script_lines.specs.Forms.{Form, Field, Said, SaysAll, Spells, form, form_at}
use Rattle.script_lines.specs.Forms.Field.{a_name, any_bytes, some_bytes}
use Rattle.script_lines.specs.Forms.Said.{name, bytes}
use Rattle.script_lines.specs.Line.{row_of, settings_forms}
use Rattle.script_lines.specs.Script.{SpellsAll, spoken}
use Rattle.script_lines.specs.declared.line.Line.{Line}
use Rattle.script_lines.specs.declared.line.Line.TheVariants.{Set, Get, Del, Register, Load, Direct, Save, Commit, RunSet, RunGet, Names, Mount, Cut, Uncut, Migrate}
use Rattle.session.specs.OnMap.{IsServed}
use Rattle.image_jobs.specs.Lines.{LinesAreServed}

-- two things are said by two words
two_words : (limit : ℕ) (fields : List Field) (operands : List (List ℕ)) (a b : Said) → SaysAll limit fields operands (a ∷ b ∷ []) → length operands ≡ 2
two_words limit [] [] a b says = absurd says
two_words limit [] (x ∷ operands) a b says = absurd says
two_words limit (f ∷ []) [] a b says = absurd says
two_words limit (f ∷ []) (x ∷ []) a b says = absurd says.1
two_words limit (f ∷ []) (x ∷ y ∷ operands) a b says = absurd says.1
two_words limit (f ∷ g ∷ fields) [] a b says = absurd says
two_words limit (f ∷ g ∷ fields) (x ∷ []) a b says = absurd says.1
two_words limit (f ∷ g ∷ []) (x ∷ y ∷ []) a b says = refl
two_words limit (f ∷ g ∷ h ∷ fields) (x ∷ y ∷ []) a b says = absurd says.1.1
two_words limit (f ∷ g ∷ []) (x ∷ y ∷ z ∷ operands) a b says = absurd says.1.1
two_words limit (f ∷ g ∷ h ∷ fields) (x ∷ y ∷ z ∷ operands) a b says = absurd says.1.1

-- by the form that the table has for two words
by_form : (limit : ℕ) (word : List ℕ) (field : Field) (operands : List (List ℕ)) (f : Form) (a b : Said)
    → form_at settings_forms word 2 ≡ Some (form word (a_name ∷ field ∷ [])) → form_at settings_forms word (length operands) ≡ Some f → SaysAll limit f.fields operands (a ∷ b ∷ [])
    → SaysAll limit (a_name ∷ field ∷ []) operands (a ∷ b ∷ [])
by_form limit word field operands f a b has found says =
    let two : length operands ≡ 2 = two_words limit f.fields operands a b says in
    let same : Some f ≡ Some (form word (a_name ∷ field ∷ [])) = sym found ∙ ap (form_at settings_forms word) two ∙ has in
    let is : f ≡ form word (a_name ∷ field ∷ []) = cc same in
    subst (λ (g : Form). SaysAll limit g.fields operands (a ∷ b ∷ [])) is says

any_value : (limit : ℕ) (operands : List (List ℕ)) (text value : List ℕ) → SaysAll limit (a_name ∷ any_bytes ∷ []) operands (name text ∷ bytes value ∷ []) → length value ≤ limit
any_value limit [] text value says = absurd says
any_value limit (x ∷ []) text value says = absurd says.1
any_value limit (x ∷ y ∷ more) text value says = elim says.1.0 [
  | inl nothing ↦ let none : length value ≡ 0 = ap length nothing.1 in omega arith
  | inr within ↦ within.1
]

some_value : (limit : ℕ) (operands : List (List ℕ)) (text value : List ℕ) → SaysAll limit (a_name ∷ some_bytes ∷ []) operands (name text ∷ bytes value ∷ []) → (1 ≤ length value) × (length value ≤ limit)
some_value limit [] text value says = absurd says
some_value limit (x ∷ []) text value says = absurd says.1
some_value limit (x ∷ y ∷ more) text value says = let some : 0 < length value = says.1.0.0.1 in (omega arith, says.1.0.1)

line_fits : (limit : ℕ) (words : List (List ℕ)) (line : Line) → Spells settings_forms limit words (row_of line) → IsServed limit line
line_fits limit words (Set text value) is = any_value limit is.operands text value (by_form limit (codes "set") any_bytes is.operands is.form (name text) (bytes value) refl is.found is.says)
line_fits limit words (RunSet text value) is = some_value limit is.operands text value (by_form limit (codes "rset") some_bytes is.operands is.form (name text) (bytes value) refl is.found is.says)
line_fits limit words (Get text) is = tt
line_fits limit words (Del text) is = tt
line_fits limit words (Register subtree kind) is = tt
line_fits limit words (Load subtree) is = tt
line_fits limit words (Direct subtree) is = tt
line_fits limit words (Save subtree) is = tt
line_fits limit words Commit is = tt
line_fits limit words (RunGet text) is = tt
line_fits limit words Names is = tt
line_fits limit words Mount is = tt
line_fits limit words (Cut units) is = tt
line_fits limit words Uncut is = tt
line_fits limit words Migrate is = tt

lines_fit : (limit : ℕ) (texts : List (List ℕ)) (lines : List Line) → SpellsAll settings_forms limit texts (map row_of lines) → All (IsServed limit) lines
lines_fit limit texts [] is k line below = absurd (omega arith)
lines_fit limit [] (first ∷ lines) is k line below = absurd is
lines_fit limit (text ∷ texts) (first ∷ lines) is zero line below = line_fits limit (parts 32 text) first is.0
lines_fit limit (text ∷ texts) (first ∷ lines) is (suc k) line below = lines_fit limit texts lines is.1 k line (omega arith)

pub lines_are_served : LinesAreServed
lines_are_served limit text lines is = lines_fit limit (spoken (parts 10 text)) lines is
