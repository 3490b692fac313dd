-- Laws of the table.
use Rattle.std.proofs.Common.{◌≡◌, ◌⊎◌, inl, inr, ℕ, eqb, ◌&&◌, Bool, true, false, cond, Option, Some, None, List, [], ◌∷◌, length, codes, refl, sym, ap, subst, ◌∙◌, lit≤}
use Rattle.std.proofs.lemmas.Bool.{and_parts}
use Rattle.std.proofs.lemmas.Slice.Eq.{bytes_eq-Decides}
use Rattle.std.specs.Str.{bytes_eq}
use Rattle.std.specs.List.{All}
use Rattle.std.proofs.lemmas.List.Elements.{All-nil, All-cons}
use Rattle.script_lines.specs.Forms.{Field, Form, Row, Said, SaysAll, Spells, form, form_at, has_word, row}
use Rattle.script_lines.specs.Forms.Field.{some_bytes, below}
use Rattle.script_lines.specs.Forms.Said.{name, label, kind, bytes, number}
use Rattle.script_lines.specs.Laws.{FieldFits, TableFits}
use Rattle.script_lines.specs.declared.line.TheConstants.{UNITS_END}
use Rattle.script_lines.proofs.EachRead as reads
use Rattle.log_session.specs.declared.line.Line.{Line}
use Rattle.log_session.specs.declared.line.Line.TheVariants.{Put, Records, Cut, Uncut, Mount}
use Rattle.log_session.specs.LineLaws.{EachIsRead, OneMeaning}
use Rattle.log_session.specs.Line.{log_forms, row_of}

abbrev Fits : Form → Type 0
Fits form = All FieldFits form.fields

one_field : (field : Field) → FieldFits field → All FieldFits (field ∷ [])
one_field field fits = All-cons FieldFits field [] fits (All-nil FieldFits)

first : (form : Form) (forms : List Form) → Fits form → All Fits forms → All Fits (form ∷ forms)
first form forms fits more = All-cons Fits form forms fits more

log_fits : TableFits log_forms
log_fits =
    first (form (codes "put") (some_bytes ∷ [])) (form (codes "all") [] ∷ form (codes "cut") (below UNITS_END ∷ []) ∷ form (codes "uncut") [] ∷ form (codes "mount") [] ∷ []) (one_field some_bytes tt)
    (first (form (codes "all") []) (form (codes "cut") (below UNITS_END ∷ []) ∷ form (codes "uncut") [] ∷ form (codes "mount") [] ∷ []) (All-nil FieldFits)
    (first (form (codes "cut") (below UNITS_END ∷ [])) (form (codes "uncut") [] ∷ form (codes "mount") [] ∷ []) (one_field (below UNITS_END) (lit≤ tt))
    (first (form (codes "uncut") []) (form (codes "mount") [] ∷ []) (All-nil FieldFits) (first (form (codes "mount") []) [] (All-nil FieldFits) (All-nil Fits)))))

-- ---- the line that a row of the table is

no_word : (limit : ℕ) (operands : List (List ℕ)) (said : List Said) → SaysAll limit [] operands said → said ≡ []
no_word limit [] [] says = refl
no_word limit [] (a ∷ said) says = absurd says
no_word limit (x ∷ operands) said says = absurd says

some_body : (limit : ℕ) (operands : List (List ℕ)) (said : List Said) → SaysAll limit (some_bytes ∷ []) operands said → (body : List ℕ) × (said ≡ bytes body ∷ [])
some_body limit [] said says = absurd says
some_body limit (x ∷ operands) [] says = absurd says
some_body limit (x ∷ operands) (bytes body ∷ said) says = (body, ap (λ (l : List Said). bytes body ∷ l) (no_word limit operands said says.1))
some_body limit (x ∷ operands) (name text ∷ said) says = absurd says.0
some_body limit (x ∷ operands) (label text ∷ said) says = absurd says.0
some_body limit (x ∷ operands) (kind k ∷ said) says = absurd says.0
some_body limit (x ∷ operands) (number n ∷ said) says = absurd says.0

some_units : (limit end : ℕ) (operands : List (List ℕ)) (said : List Said) → SaysAll limit (below end ∷ []) operands said → (units : ℕ) × (said ≡ number units ∷ [])
some_units limit end [] said says = absurd says
some_units limit end (x ∷ operands) [] says = absurd says
some_units limit end (x ∷ operands) (number n ∷ said) says = (n, ap (λ (l : List Said). number n ∷ l) (no_word limit operands said says.1))
some_units limit end (x ∷ operands) (name text ∷ said) says = absurd says.0
some_units limit end (x ∷ operands) (label text ∷ said) says = absurd says.0
some_units limit end (x ∷ operands) (kind k ∷ said) says = absurd says.0
some_units limit end (x ∷ operands) (bytes body ∷ said) says = absurd says.0

-- the first form of a table is the one that was found, or it is one of the others
found_in : (f : Form) (forms : List Form) (word : List ℕ) (count : ℕ) (g : Form) → form_at (f ∷ forms) word count ≡ Some g → ((word ≡ f.word) × (f ≡ g)) ⊎ (form_at forms word count ≡ Some g)
found_in f forms word count g found = by (has_word word f && eqb (length f.fields) count) refl found
  where
    by : (b : Bool) → (has_word word f && eqb (length f.fields) count) ≡ b → cond b (Some f) (form_at forms word count) ≡ Some g → ((word ≡ f.word) × (f ≡ g)) ⊎ (form_at forms word count ≡ Some g)
    by true is same = inl ((bytes_eq-Decides word f.word).0 (and_parts (has_word word f) (eqb (length f.fields) count) is).0, cc)
    by false is same = inr same

row_is : (r : Row) (word : List ℕ) (said : List Said) → r.word ≡ word → r.said ≡ said → r ≡ row word said
row_is r word said same says = ap (λ (w : List ℕ). row w r.said) same ∙ ap (λ (l : List Said). row word l) says

says_by : (limit : ℕ) (f g : Form) (operands : List (List ℕ)) (said : List Said) → f ≡ g → SaysAll limit g.fields operands said → SaysAll limit f.fields operands said
says_by limit f g operands said same says = subst (λ (x : Form). SaysAll limit x.fields operands said) (sym same) says

none_found : (g : Form) → None ≡ Some g → ⊥
none_found g is = cc

module _ (limit : ℕ) (r : Row) (operands : List (List ℕ)) (g : Form) (says : SaysAll limit g.fields operands r.said) where
  -- the row of a form whose fields say so much
  no_fields : (word : List ℕ) → form word [] ≡ g → r.said ≡ []
  no_fields word same = no_word limit operands r.said (says_by limit (form word []) g operands r.said same says)

  of_mount : form_at (form (codes "mount") [] ∷ []) r.word (length operands) ≡ Some g → (line : Line) × (r ≡ row_of line)
  of_mount found = elim (found_in (form (codes "mount") []) [] r.word (length operands) g found) [
    | inl is ↦ (Mount, row_is r (codes "mount") [] is.0 (no_fields (codes "mount") is.1))
    | inr later ↦ absurd (none_found g later)
  ]

  of_uncut : form_at (form (codes "uncut") [] ∷ form (codes "mount") [] ∷ []) r.word (length operands) ≡ Some g → (line : Line) × (r ≡ row_of line)
  of_uncut found = elim (found_in (form (codes "uncut") []) (form (codes "mount") [] ∷ []) r.word (length operands) g found) [
    | inl is ↦ (Uncut, row_is r (codes "uncut") [] is.0 (no_fields (codes "uncut") is.1))
    | inr later ↦ of_mount later
  ]

  of_cut : form_at (form (codes "cut") (below UNITS_END ∷ []) ∷ form (codes "uncut") [] ∷ form (codes "mount") [] ∷ []) r.word (length operands) ≡ Some g → (line : Line) × (r ≡ row_of line)
  of_cut found = elim (found_in (form (codes "cut") (below UNITS_END ∷ [])) (form (codes "uncut") [] ∷ form (codes "mount") [] ∷ []) r.word (length operands) g found) [
    | inl is ↦
        let units = some_units limit UNITS_END operands r.said (says_by limit (form (codes "cut") (below UNITS_END ∷ [])) g operands r.said is.1 says) in
        (Cut units.0, row_is r (codes "cut") (number units.0 ∷ []) is.0 units.1)
    | inr later ↦ of_uncut later
  ]

  of_all : form_at (form (codes "all") [] ∷ form (codes "cut") (below UNITS_END ∷ []) ∷ form (codes "uncut") [] ∷ form (codes "mount") [] ∷ []) r.word (length operands) ≡ Some g → (line : Line) × (r ≡ row_of line)
  of_all found = elim (found_in (form (codes "all") []) (form (codes "cut") (below UNITS_END ∷ []) ∷ form (codes "uncut") [] ∷ form (codes "mount") [] ∷ []) r.word (length operands) g found) [
    | inl is ↦ (Records, row_is r (codes "all") [] is.0 (no_fields (codes "all") is.1))
    | inr later ↦ of_cut later
  ]

  of_put : form_at (form (codes "put") (some_bytes ∷ []) ∷ form (codes "all") [] ∷ form (codes "cut") (below UNITS_END ∷ []) ∷ form (codes "uncut") [] ∷ form (codes "mount") [] ∷ []) r.word (length operands) ≡ Some g → (line : Line) × (r ≡ row_of line)
  of_put found = elim (found_in (form (codes "put") (some_bytes ∷ [])) (form (codes "all") [] ∷ form (codes "cut") (below UNITS_END ∷ []) ∷ form (codes "uncut") [] ∷ form (codes "mount") [] ∷ []) r.word (length operands) g found) [
    | inl is ↦
        let body = some_body limit operands r.said (says_by limit (form (codes "put") (some_bytes ∷ [])) g operands r.said is.1 says) in
        (Put body.0, row_is r (codes "put") (bytes body.0 ∷ []) is.0 body.1)
    | inr later ↦ of_all later
  ]

-- a row that words spell is some line's
line_said : (limit : ℕ) (words : List (List ℕ)) → (r : Row) × Spells log_forms limit words r → (line : Line) × Spells log_forms limit words (row_of line)
line_said limit words (r, is) =
    let line = of_put limit r is.operands is.form is.says is.found in
    (line.0, subst (λ (x : Row). Spells log_forms limit words x) line.1 is)

pub each_is_read : EachIsRead
each_is_read limit words some = elim (reads.each_is_read log_forms limit words log_fits some) [
  | inl spells ↦ inl (line_said limit words spells)
  | inr refused ↦ inr refused
]

-- ---- the line of a row

body_alone : List Said → Option Line
body_alone (bytes body ∷ []) = Some (Put body)
body_alone said = None

units_alone : List Said → Option Line
units_alone (number units ∷ []) = Some (Cut units)
units_alone said = None

line_of : Row → Option Line
line_of r =
    cond (bytes_eq r.word (codes "put")) (body_alone r.said)
    (cond (bytes_eq r.word (codes "all")) (Some Records)
    (cond (bytes_eq r.word (codes "cut")) (units_alone r.said)
    (cond (bytes_eq r.word (codes "uncut")) (Some Uncut) (Some Mount))))

line_back : (line : Line) → line_of (row_of line) ≡ Some line
unfolding line_of body_alone units_alone
line_back (Put body) = refl
line_back Records = refl
line_back (Cut units) = refl
line_back Uncut = refl
line_back Mount = refl

some_same : (a b : Line) → Some a ≡ Some b → a ≡ b
some_same a b e = cc

pub one_meaning : OneMeaning
one_meaning one other same = some_same one other (sym (line_back one) ∙ ap line_of same ∙ line_back other)
