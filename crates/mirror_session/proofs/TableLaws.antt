-- Laws of the table.
use Rattle.std.proofs.Common.{◌≡◌, ◌⊎◌, inl, inr, ℕ, eqb, ◌&&◌, Bool, true, false, cond, Option, Some, None, List, [], ◌∷◌, length, codes, refl, sym, ap, subst, ◌∙◌, lit≤}
use Rattle.std.proofs.lemmas.Bool.{and_parts}
use Rattle.std.proofs.lemmas.Slice.Eq.{bytes_eq-Decides}
use Rattle.std.specs.Str.{bytes_eq}
use Rattle.std.specs.List.{All}
use Rattle.std.proofs.lemmas.List.Elements.{All-nil, All-cons}
use Rattle.script_lines.specs.Forms.{Field, Form, Row, Said, SaysAll, Spells, form, form_at, has_word, row}
use Rattle.script_lines.specs.Forms.Field.{a_name, a_label, any_bytes, below}
use Rattle.script_lines.specs.Forms.Said.{name, label, kind, bytes, number}
use Rattle.script_lines.specs.Laws.{FieldFits, TableFits}
use Rattle.script_lines.specs.declared.line.TheConstants.{UNITS_END}
use Rattle.script_lines.proofs.EachRead as reads
use Rattle.mirror_session.specs.declared.line.Line.{Line}
use Rattle.mirror_session.specs.declared.line.Line.TheVariants.{Set, Get, Del, Names, Mount, Cut, Uncut, Blank}
use Rattle.mirror_session.specs.LineLaws.{EachIsRead, OneMeaning}
use Rattle.mirror_session.specs.Line.{mirror_forms, row_of}

-- the forms of the table from each on
abbrev from_blank : List Form
from_blank = form (codes "blank") (a_label ∷ []) ∷ []

abbrev from_uncut : List Form
from_uncut = form (codes "uncut") [] ∷ from_blank

abbrev from_cut : List Form
from_cut = form (codes "cut") (below UNITS_END ∷ []) ∷ from_uncut

abbrev from_mount : List Form
from_mount = form (codes "mount") [] ∷ from_cut

abbrev from_names : List Form
from_names = form (codes "names") [] ∷ from_mount

abbrev from_del : List Form
from_del = form (codes "del") (a_name ∷ []) ∷ from_names

abbrev from_get : List Form
from_get = form (codes "get") (a_name ∷ []) ∷ from_del

abbrev from_set : List Form
from_set = form (codes "set") (a_name ∷ any_bytes ∷ []) ∷ from_get

abbrev Fits : Form → Type 0
Fits form = All FieldFits form.fields

one_field : (field : Field) → FieldFits field → All FieldFits (field ∷ [])
one_field field fits = All-cons FieldFits field [] fits (All-nil FieldFits)

first : (form : Form) (forms : List Form) → Fits form → All Fits forms → All Fits (form ∷ forms)
first form forms fits more = All-cons Fits form forms fits more

mirror_fits : TableFits mirror_forms
mirror_fits =
    first (form (codes "set") (a_name ∷ any_bytes ∷ [])) from_get (All-cons FieldFits a_name (any_bytes ∷ []) tt (one_field any_bytes tt))
    (first (form (codes "get") (a_name ∷ [])) from_del (one_field a_name tt)
    (first (form (codes "del") (a_name ∷ [])) from_names (one_field a_name tt)
    (first (form (codes "names") []) from_mount (All-nil FieldFits)
    (first (form (codes "mount") []) from_cut (All-nil FieldFits)
    (first (form (codes "cut") (below UNITS_END ∷ [])) from_uncut (one_field (below UNITS_END) (lit≤ tt))
    (first (form (codes "uncut") []) from_blank (All-nil FieldFits)
    (first (form (codes "blank") (a_label ∷ [])) [] (one_field a_label tt) (All-nil Fits))))))))

-- ---- the line that a row of the table is

no_word : (limit : ℕ) (operands : List (List ℕ)) (said : List Said) → SaysAll limit [] operands said → said ≡ []
no_word limit [] [] says = refl
no_word limit [] (a ∷ said) says = absurd says
no_word limit (x ∷ operands) said says = absurd says

some_name : (limit : ℕ) (operands : List (List ℕ)) (said : List Said) → SaysAll limit (a_name ∷ []) operands said → (text : List ℕ) × (said ≡ name text ∷ [])
some_name limit [] said says = absurd says
some_name limit (x ∷ operands) [] says = absurd says
some_name limit (x ∷ operands) (name v ∷ said) says = (v, ap (λ (l : List Said). name v ∷ l) (no_word limit operands said says.1))
some_name limit (x ∷ operands) (label v ∷ said) says = absurd says.0
some_name limit (x ∷ operands) (kind v ∷ said) says = absurd says.0
some_name limit (x ∷ operands) (bytes v ∷ said) says = absurd says.0
some_name limit (x ∷ operands) (number v ∷ said) says = absurd says.0

some_label : (limit : ℕ) (operands : List (List ℕ)) (said : List Said) → SaysAll limit (a_label ∷ []) operands said → (text : List ℕ) × (said ≡ label text ∷ [])
some_label limit [] said says = absurd says
some_label limit (x ∷ operands) [] says = absurd says
some_label limit (x ∷ operands) (name v ∷ said) says = absurd says.0
some_label limit (x ∷ operands) (label v ∷ said) says = (v, ap (λ (l : List Said). label v ∷ l) (no_word limit operands said says.1))
some_label limit (x ∷ operands) (kind v ∷ said) says = absurd says.0
some_label limit (x ∷ operands) (bytes v ∷ said) says = absurd says.0
some_label limit (x ∷ operands) (number v ∷ said) says = absurd says.0

some_value : (limit : ℕ) (operands : List (List ℕ)) (said : List Said) → SaysAll limit (any_bytes ∷ []) operands said → (value : List ℕ) × (said ≡ bytes value ∷ [])
some_value limit [] said says = absurd says
some_value limit (x ∷ operands) [] says = absurd says
some_value limit (x ∷ operands) (name v ∷ said) says = absurd says.0
some_value limit (x ∷ operands) (label v ∷ said) says = absurd says.0
some_value limit (x ∷ operands) (kind v ∷ said) says = absurd says.0
some_value limit (x ∷ operands) (bytes v ∷ said) says = (v, ap (λ (l : List Said). bytes v ∷ l) (no_word limit operands said says.1))
some_value limit (x ∷ operands) (number v ∷ said) says = absurd says.0

some_units : (limit end : ℕ) (operands : List (List ℕ)) (said : List Said) → SaysAll limit (below end ∷ []) operands said → (units : ℕ) × (said ≡ number units ∷ [])
some_units limit end [] said says = absurd says
some_units limit end (x ∷ operands) [] says = absurd says
some_units limit end (x ∷ operands) (name v ∷ said) says = absurd says.0
some_units limit end (x ∷ operands) (label v ∷ said) says = absurd says.0
some_units limit end (x ∷ operands) (kind v ∷ said) says = absurd says.0
some_units limit end (x ∷ operands) (bytes v ∷ said) says = absurd says.0
some_units limit end (x ∷ operands) (number v ∷ said) says = (v, ap (λ (l : List Said). number v ∷ l) (no_word limit operands said says.1))

some_setting : (limit : ℕ) (operands : List (List ℕ)) (said : List Said) → SaysAll limit (a_name ∷ any_bytes ∷ []) operands said
    → (text : List ℕ) × (value : List ℕ) × (said ≡ name text ∷ bytes value ∷ [])
some_setting limit [] said says = absurd says
some_setting limit (x ∷ operands) [] says = absurd says
some_setting limit (x ∷ operands) (name v ∷ said) says =
    let value = some_value limit operands said says.1 in
    (v, value.0, ap (λ (l : List Said). name v ∷ l) value.1)
some_setting limit (x ∷ operands) (label v ∷ said) says = absurd says.0
some_setting limit (x ∷ operands) (kind v ∷ said) says = absurd says.0
some_setting limit (x ∷ operands) (bytes v ∷ said) says = absurd says.0
some_setting limit (x ∷ operands) (number v ∷ said) says = absurd says.0

-- the first form of a table is the one that was found, or it is one of the others
found_in : (f : Form) (forms : List Form) (word : List ℕ) (count : ℕ) (g : Form) → form_at (f ∷ forms) word count ≡ Some g → ((word ≡ f.word) × (f ≡ g)) ⊎ (form_at forms word count ≡ Some g)
found_in f forms word count g found = by (has_word word f && eqb (length f.fields) count) refl found
  where
    by : (b : Bool) → (has_word word f && eqb (length f.fields) count) ≡ b → cond b (Some f) (form_at forms word count) ≡ Some g → ((word ≡ f.word) × (f ≡ g)) ⊎ (form_at forms word count ≡ Some g)
    by true is same = inl ((bytes_eq-Decides word f.word).0 (and_parts (has_word word f) (eqb (length f.fields) count) is).0, cc)
    by false is same = inr same

row_is : (r : Row) (word : List ℕ) (said : List Said) → r.word ≡ word → r.said ≡ said → r ≡ row word said
row_is r word said same says = ap (λ (w : List ℕ). row w r.said) same ∙ ap (λ (l : List Said). row word l) says

says_by : (limit : ℕ) (f g : Form) (operands : List (List ℕ)) (said : List Said) → f ≡ g → SaysAll limit g.fields operands said → SaysAll limit f.fields operands said
says_by limit f g operands said same says = subst (λ (x : Form). SaysAll limit x.fields operands said) (sym same) says

none_found : (g : Form) → None ≡ Some g → ⊥
none_found g is = cc

module _ (limit : ℕ) (r : Row) (operands : List (List ℕ)) (g : Form) (says : SaysAll limit g.fields operands r.said) where
  -- what the words say where this form is the one that was found
  says_of : (f : Form) → f ≡ g → SaysAll limit f.fields operands r.said
  says_of f same = says_by limit f g operands r.said same says

  of_blank : form_at from_blank r.word (length operands) ≡ Some g → (line : Line) × (r ≡ row_of line)
  of_blank found = elim (found_in (form (codes "blank") (a_label ∷ [])) [] r.word (length operands) g found) [
    | inl is ↦
        let said = some_label limit operands r.said (says_of (form (codes "blank") (a_label ∷ [])) is.1) in
        (Blank said.0, row_is r (codes "blank") (label said.0 ∷ []) is.0 said.1)
    | inr later ↦ absurd (none_found g later)
  ]

  of_uncut : form_at from_uncut r.word (length operands) ≡ Some g → (line : Line) × (r ≡ row_of line)
  of_uncut found = elim (found_in (form (codes "uncut") []) from_blank r.word (length operands) g found) [
    | inl is ↦ (Uncut, row_is r (codes "uncut") [] is.0 (no_word limit operands r.said (says_of (form (codes "uncut") []) is.1)))
    | inr later ↦ of_blank later
  ]

  of_cut : form_at from_cut r.word (length operands) ≡ Some g → (line : Line) × (r ≡ row_of line)
  of_cut found = elim (found_in (form (codes "cut") (below UNITS_END ∷ [])) from_uncut r.word (length operands) g found) [
    | inl is ↦
        let said = some_units limit UNITS_END operands r.said (says_of (form (codes "cut") (below UNITS_END ∷ [])) is.1) in
        (Cut said.0, row_is r (codes "cut") (number said.0 ∷ []) is.0 said.1)
    | inr later ↦ of_uncut later
  ]

  of_mount : form_at from_mount r.word (length operands) ≡ Some g → (line : Line) × (r ≡ row_of line)
  of_mount found = elim (found_in (form (codes "mount") []) from_cut r.word (length operands) g found) [
    | inl is ↦ (Mount, row_is r (codes "mount") [] is.0 (no_word limit operands r.said (says_of (form (codes "mount") []) is.1)))
    | inr later ↦ of_cut later
  ]

  of_names : form_at from_names r.word (length operands) ≡ Some g → (line : Line) × (r ≡ row_of line)
  of_names found = elim (found_in (form (codes "names") []) from_mount r.word (length operands) g found) [
    | inl is ↦ (Names, row_is r (codes "names") [] is.0 (no_word limit operands r.said (says_of (form (codes "names") []) is.1)))
    | inr later ↦ of_mount later
  ]

  of_del : form_at from_del r.word (length operands) ≡ Some g → (line : Line) × (r ≡ row_of line)
  of_del found = elim (found_in (form (codes "del") (a_name ∷ [])) from_names r.word (length operands) g found) [
    | inl is ↦
        let said = some_name limit operands r.said (says_of (form (codes "del") (a_name ∷ [])) is.1) in
        (Del said.0, row_is r (codes "del") (name said.0 ∷ []) is.0 said.1)
    | inr later ↦ of_names later
  ]

  of_get : form_at from_get r.word (length operands) ≡ Some g → (line : Line) × (r ≡ row_of line)
  of_get found = elim (found_in (form (codes "get") (a_name ∷ [])) from_del r.word (length operands) g found) [
    | inl is ↦
        let said = some_name limit operands r.said (says_of (form (codes "get") (a_name ∷ [])) is.1) in
        (Get said.0, row_is r (codes "get") (name said.0 ∷ []) is.0 said.1)
    | inr later ↦ of_del later
  ]

  of_set : form_at from_set r.word (length operands) ≡ Some g → (line : Line) × (r ≡ row_of line)
  of_set found = elim (found_in (form (codes "set") (a_name ∷ any_bytes ∷ [])) from_get r.word (length operands) g found) [
    | inl is ↦
        let said = some_setting limit operands r.said (says_of (form (codes "set") (a_name ∷ any_bytes ∷ [])) is.1) in
        (Set said.0 said.1, row_is r (codes "set") (name said.0 ∷ bytes said.1 ∷ []) is.0 said.2)
    | inr later ↦ of_get later
  ]

-- a row that words spell is some line's
line_said : (limit : ℕ) (words : List (List ℕ)) → (r : Row) × Spells mirror_forms limit words r → (line : Line) × Spells mirror_forms limit words (row_of line)
line_said limit words (r, is) =
    let line = of_set limit r is.operands is.form is.says is.found in
    (line.0, subst (λ (x : Row). Spells mirror_forms limit words x) line.1 is)

pub each_is_read : EachIsRead
each_is_read limit words some = elim (reads.each_is_read mirror_forms limit words mirror_fits some) [
  | inl spells ↦ inl (line_said limit words spells)
  | inr refused ↦ inr refused
]

-- ---- the line of a row

setting_said : List Said → Option Line
setting_said (name text ∷ bytes value ∷ []) = Some (Set text value)
setting_said said = None

name_said : (List ℕ → Line) → List Said → Option Line
name_said line (name text ∷ []) = Some (line text)
name_said line said = None

label_said : List Said → Option Line
label_said (label text ∷ []) = Some (Blank text)
label_said said = None

units_said : List Said → Option Line
units_said (number units ∷ []) = Some (Cut units)
units_said said = None

line_of : Row → Option Line
line_of r =
    cond (bytes_eq r.word (codes "set")) (setting_said r.said)
    (cond (bytes_eq r.word (codes "get")) (name_said (λ text. Get text) r.said)
    (cond (bytes_eq r.word (codes "del")) (name_said (λ text. Del text) r.said)
    (cond (bytes_eq r.word (codes "names")) (Some Names)
    (cond (bytes_eq r.word (codes "mount")) (Some Mount)
    (cond (bytes_eq r.word (codes "cut")) (units_said r.said)
    (cond (bytes_eq r.word (codes "uncut")) (Some Uncut) (label_said r.said)))))))

line_back : (line : Line) → line_of (row_of line) ≡ Some line
unfolding line_of setting_said name_said label_said units_said
line_back (Set text value) = refl
line_back (Get text) = refl
line_back (Del text) = refl
line_back Names = refl
line_back Mount = refl
line_back (Cut units) = refl
line_back Uncut = refl
line_back (Blank text) = refl

some_same : (a b : Line) → Some a ≡ Some b → a ≡ b
some_same a b e = cc

pub one_meaning : OneMeaning
one_meaning one other same = some_same one other (sym (line_back one) ∙ ap line_of same ∙ line_back other)
