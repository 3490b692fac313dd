-- The ids and values of lines that a table reads.
use Rattle.std.proofs.Common.{◌≡◌, ◌∙◌, ℕ, zero, suc, ◌<◌, ◌≤◌, List, [], ◌∷◌, length, map, Some, refl, sym, ap, subst, arith, codes}
use Rattle.std.specs.List.{All}
use Rattle.text_parts.specs.Parts.{parts}
use Rattle.script_lines.specs.Forms.{Form, Field, Said, SaysAll, Spells, form, form_at}
use Rattle.script_lines.specs.Forms.Field.{below, some_bytes}
use Rattle.script_lines.specs.Forms.Said.{bytes, number}
use Rattle.script_lines.specs.Script.{SpellsAll, spoken}
use Rattle.item_session.specs.Line.{item_forms, row_of}
use Rattle.item_session.specs.declared.line.Line.{Line}
use Rattle.item_session.specs.declared.line.Line.TheVariants.{Set, Get, Delete, Older, Space, Cut, Uncut, Mount}
use Rattle.item_session.specs.declared.line.TheConstants.{VERSIONS_END}
use Rattle.item_session.specs.Device.{IsServed}
use Rattle.item_session.specs.Laws.{LinesAreServed}

-- each word says one thing
as_many : (limit : ℕ) (fields : List Field) (operands : List (List ℕ)) (said : List Said) → SaysAll limit fields operands said → length operands ≡ length said
as_many limit [] [] [] says = refl
as_many limit [] [] (a ∷ said) says = absurd says
as_many limit [] (x ∷ operands) said says = absurd says
as_many limit (f ∷ fields) [] said says = absurd says
as_many limit (f ∷ fields) (x ∷ operands) [] says = absurd says
as_many limit (f ∷ fields) (x ∷ operands) (a ∷ said) says = let rest = as_many limit fields operands said says.1 in omega (arith, rest)

module _ (ids limit : ℕ) (operands : List (List ℕ)) where
  -- by the form that the table has for so many words
  by_form : (word : List ℕ) (f g : Form) (said : List Said) → form_at (item_forms ids) word (length operands) ≡ Some f → form_at (item_forms ids) word (length said) ≡ Some g → SaysAll limit f.fields operands said
      → SaysAll limit g.fields operands said
  by_form word f g said found only says =
      let same : Some f ≡ Some g = sym found ∙ ap (form_at (item_forms ids) word) (as_many limit f.fields operands said says) ∙ only in
      let is : f ≡ g = cc same in
      subst (λ (x : Form). SaysAll limit x.fields operands said) is says

small_id : (limit ids : ℕ) (fields : List Field) (operands : List (List ℕ)) (id : ℕ) (said : List Said) → SaysAll limit (below ids ∷ fields) operands (number id ∷ said) → id < ids
small_id limit ids fields [] id said says = absurd says
small_id limit ids fields (x ∷ operands) id said says = says.0.1

some_value : (limit ids : ℕ) (operands : List (List ℕ)) (id : ℕ) (value : List ℕ) → SaysAll limit (below ids ∷ some_bytes ∷ []) operands (number id ∷ bytes value ∷ []) → (1 ≤ length value) × (length value ≤ limit)
some_value limit ids [] id value says = absurd says
some_value limit ids (x ∷ []) id value says = absurd says.1
some_value limit ids (x ∷ y ∷ operands) id value says = let some : 0 < length value = says.1.0.0.1 in (omega arith, says.1.0.1)

line_fits : (ids limit : ℕ) (words : List (List ℕ)) (line : Line) → Spells (item_forms ids) limit words (row_of line) → IsServed ids limit line
line_fits ids limit words (Set id value) is =
    let says = by_form ids limit is.operands (codes "set") is.form (form (codes "set") (below ids ∷ some_bytes ∷ [])) (number id ∷ bytes value ∷ []) is.found refl is.says in
    let fits = some_value limit ids is.operands id value says in
    (small_id limit ids (some_bytes ∷ []) is.operands id (bytes value ∷ []) says, fits.0, fits.1)
line_fits ids limit words (Get id) is =
    small_id limit ids [] is.operands id [] (by_form ids limit is.operands (codes "get") is.form (form (codes "get") (below ids ∷ [])) (number id ∷ []) is.found refl is.says)
line_fits ids limit words (Delete id) is =
    small_id limit ids [] is.operands id [] (by_form ids limit is.operands (codes "del") is.form (form (codes "del") (below ids ∷ [])) (number id ∷ []) is.found refl is.says)
line_fits ids limit words (Older id n) is =
    small_id limit ids (below VERSIONS_END ∷ []) is.operands id (number n ∷ [])
    (by_form ids limit is.operands (codes "older") is.form (form (codes "older") (below ids ∷ below VERSIONS_END ∷ [])) (number id ∷ number n ∷ []) is.found refl is.says)
line_fits ids limit words Space is = tt
line_fits ids limit words (Cut units) is = tt
line_fits ids limit words Uncut is = tt
line_fits ids limit words Mount is = tt

lines_fit : (ids limit : ℕ) (texts : List (List ℕ)) (lines : List Line) → SpellsAll (item_forms ids) limit texts (map row_of lines) → All (IsServed ids limit) lines
lines_fit ids limit texts [] is k line inside = absurd (omega arith)
lines_fit ids limit [] (first ∷ lines) is k line inside = absurd is
lines_fit ids limit (text ∷ texts) (first ∷ lines) is zero line inside = line_fits ids limit (parts 32 text) first is.0
lines_fit ids limit (text ∷ texts) (first ∷ lines) is (suc k) line inside = lines_fit ids limit texts lines is.1 k line (omega arith)

pub lines_are_served : LinesAreServed
lines_are_served ids limit text lines is = lines_fit ids limit (spoken (parts 10 text)) lines is
