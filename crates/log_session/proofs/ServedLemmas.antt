-- The bodies of lines that a table reads.
use Rattle.std.proofs.Common.{◌≡◌, ◌∙◌, ℕ, zero, suc, ◌<◌, ◌≤◌, List, [], ◌∷◌, length, map, Some, refl, sym, ap, subst, arith, codes}
use Rattle.std.specs.List.{All}
use Rattle.text_parts.specs.Parts.{parts}
use Rattle.script_lines.specs.Forms.{Form, Field, Said, SaysAll, Spells, form, form_at}
use Rattle.script_lines.specs.Forms.Field.{some_bytes}
use Rattle.script_lines.specs.Forms.Said.{bytes}
use Rattle.script_lines.specs.Script.{SpellsAll, spoken}
use Rattle.log_session.specs.Line.{log_forms, row_of}
use Rattle.log_session.specs.declared.line.Line.{Line}
use Rattle.log_session.specs.declared.line.Line.TheVariants.{Put, Records, Cut, Uncut, Mount}
use Rattle.log_session.specs.Laws.{LinesAreServed}
use Rattle.log_session.specs.LineDone.{IsServed}

-- one thing is said by one word
one_word : (limit : ℕ) (fields : List Field) (operands : List (List ℕ)) (a : Said) → SaysAll limit fields operands (a ∷ []) → length operands ≡ 1
one_word limit [] [] a says = absurd says
one_word limit [] (x ∷ operands) a says = absurd says
one_word limit (f ∷ fields) [] a says = absurd says
one_word limit (f ∷ []) (x ∷ []) a says = refl
one_word limit (f ∷ g ∷ fields) (x ∷ []) a says = absurd says.1
one_word limit (f ∷ []) (x ∷ y ∷ operands) a says = absurd says.1
one_word limit (f ∷ g ∷ fields) (x ∷ y ∷ operands) a says = absurd says.1

-- by the form that the table has for one word
by_form : (limit : ℕ) (operands : List (List ℕ)) (f : Form) (a : Said) → form_at log_forms (codes "put") (length operands) ≡ Some f → SaysAll limit f.fields operands (a ∷ []) → SaysAll limit (some_bytes ∷ []) operands (a ∷ [])
by_form limit operands f a found says =
    let one : length operands ≡ 1 = one_word limit f.fields operands a says in
    let same : Some f ≡ Some (form (codes "put") (some_bytes ∷ [])) = sym found ∙ ap (form_at log_forms (codes "put")) one in
    let is : f ≡ form (codes "put") (some_bytes ∷ []) = cc same in
    subst (λ (g : Form). SaysAll limit g.fields operands (a ∷ [])) is says

some_body : (limit : ℕ) (operands : List (List ℕ)) (body : List ℕ) → SaysAll limit (some_bytes ∷ []) operands (bytes body ∷ []) → (1 ≤ length body) × (length body ≤ limit)
some_body limit [] body says = absurd says
some_body limit (x ∷ operands) body says = let some : 0 < length body = says.0.0.1 in (omega arith, says.0.1)

line_fits : (limit : ℕ) (words : List (List ℕ)) (line : Line) → Spells log_forms limit words (row_of line) → IsServed limit line
line_fits limit words (Put body) is = some_body limit is.operands body (by_form limit is.operands is.form (bytes body) is.found is.says)
line_fits limit words Records is = tt
line_fits limit words (Cut units) is = tt
line_fits limit words Uncut is = tt
line_fits limit words Mount is = tt

lines_fit : (limit : ℕ) (texts : List (List ℕ)) (lines : List Line) → SpellsAll log_forms limit texts (map row_of lines) → All (IsServed limit) lines
lines_fit limit texts [] is k line below = absurd (omega arith)
lines_fit limit [] (first ∷ lines) is k line below = absurd is
lines_fit limit (text ∷ texts) (first ∷ lines) is zero line below = line_fits limit (parts 32 text) first is.0
lines_fit limit (text ∷ texts) (first ∷ lines) is (suc k) line below = lines_fit limit texts lines is.1 k line (omega arith)

pub lines_are_served : LinesAreServed
lines_are_served limit text lines is = lines_fit limit (spoken (parts 10 text)) lines is
