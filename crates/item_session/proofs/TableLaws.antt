-- Laws of the table.
use Rattle.std.proofs.Common.{◌≡◌, ◌⊎◌, inl, inr, ℕ, ◌^◌, ◌≤◌, eqb, ◌&&◌, Bool, true, false, cond, Option, Some, None, List, [], ◌∷◌, length, codes, refl, sym, ap, subst, ◌∙◌, lit≤}
use Rattle.std.proofs.lemmas.Bool.{and_parts}
use Rattle.std.proofs.lemmas.Slice.Eq.{bytes_eq-Decides}
use Rattle.std.specs.Str.{bytes_eq}
use Rattle.std.specs.List.{All}
use Rattle.std.proofs.lemmas.List.Elements.{All-nil, All-cons}
use Rattle.script_lines.specs.Forms.{Field, Form, Row, Said, SaysAll, Spells, form, form_at, has_word, row}
use Rattle.script_lines.specs.Forms.Field.{some_bytes, below}
use Rattle.script_lines.specs.Forms.Said.{name, label, kind, bytes, number}
use Rattle.script_lines.specs.Laws.{FieldFits, TableFits}
use Rattle.script_lines.specs.declared.line.TheConstants.{UNITS_END}
use Rattle.script_lines.proofs.EachRead as reads
use Rattle.item_session.specs.declared.ids.Ids.{Ids}
use Rattle.item_session.specs.declared.ids.Ids.TheVariants.{Short, Long}
use Rattle.item_session.specs.declared.line.Line.{Line}
use Rattle.item_session.specs.declared.line.Line.TheVariants.{Set, Get, Delete, Older, Space, Cut, Uncut, Mount}
use Rattle.item_session.specs.declared.line.TheConstants.{VERSIONS_END}
use Rattle.item_session.specs.LineLaws.{EachIsRead, OneMeaning}
use Rattle.item_session.specs.Line.{ids_end, item_forms, row_of}

abbrev Fits : Form → Type 0
Fits form = All FieldFits form.fields

one_field : (field : Field) → FieldFits field → All FieldFits (field ∷ [])
one_field field fits = All-cons FieldFits field [] fits (All-nil FieldFits)

two_fields : (field other : Field) → FieldFits field → FieldFits other → All FieldFits (field ∷ other ∷ [])
two_fields field other fits more = All-cons FieldFits field (other ∷ []) fits (one_field other more)

first : (form : Form) (forms : List Form) → Fits form → All Fits forms → All Fits (form ∷ forms)
first form forms fits more = All-cons Fits form forms fits more

-- ---- what the words behind a first one say

no_word : (limit : ℕ) (operands : List (List ℕ)) (said : List Said) → SaysAll limit [] operands said → said ≡ []
no_word limit [] [] says = refl
no_word limit [] (a ∷ said) says = absurd says
no_word limit (x ∷ operands) said says = absurd says

some_number : (limit end : ℕ) (operands : List (List ℕ)) (said : List Said) → SaysAll limit (below end ∷ []) operands said → (n : ℕ) × (said ≡ number n ∷ [])
some_number limit end [] said says = absurd says
some_number limit end (x ∷ operands) [] says = absurd says
some_number limit end (x ∷ operands) (name v ∷ said) says = absurd says.0
some_number limit end (x ∷ operands) (label v ∷ said) says = absurd says.0
some_number limit end (x ∷ operands) (kind v ∷ said) says = absurd says.0
some_number limit end (x ∷ operands) (bytes v ∷ said) says = absurd says.0
some_number limit end (x ∷ operands) (number v ∷ said) says = (v, ap (λ (l : List Said). number v ∷ l) (no_word limit operands said says.1))

some_value : (limit : ℕ) (operands : List (List ℕ)) (said : List Said) → SaysAll limit (some_bytes ∷ []) operands said → (value : List ℕ) × (said ≡ bytes value ∷ [])
some_value limit [] said says = absurd says
some_value limit (x ∷ operands) [] says = absurd says
some_value limit (x ∷ operands) (name v ∷ said) says = absurd says.0
some_value limit (x ∷ operands) (label v ∷ said) says = absurd says.0
some_value limit (x ∷ operands) (kind v ∷ said) says = absurd says.0
some_value limit (x ∷ operands) (bytes v ∷ said) says = (v, ap (λ (l : List Said). bytes v ∷ l) (no_word limit operands said says.1))
some_value limit (x ∷ operands) (number v ∷ said) says = absurd says.0

number_first : (limit end : ℕ) (field : Field) (operands : List (List ℕ)) (said : List Said) → SaysAll limit (below end ∷ field ∷ []) operands said
    → (n : ℕ) × (more : List Said) × (words : List (List ℕ)) × (said ≡ number n ∷ more) × SaysAll limit (field ∷ []) words more
number_first limit end field [] said says = absurd says
number_first limit end field (x ∷ operands) [] says = absurd says
number_first limit end field (x ∷ operands) (name v ∷ said) says = absurd says.0
number_first limit end field (x ∷ operands) (label v ∷ said) says = absurd says.0
number_first limit end field (x ∷ operands) (kind v ∷ said) says = absurd says.0
number_first limit end field (x ∷ operands) (bytes v ∷ said) says = absurd says.0
number_first limit end field (x ∷ operands) (number v ∷ said) says = (v, said, operands, refl, says.1)

id_and_value : (limit ids : ℕ) (operands : List (List ℕ)) (said : List Said) → SaysAll limit (below ids ∷ some_bytes ∷ []) operands said → (id : ℕ) × (value : List ℕ) × (said ≡ number id ∷ bytes value ∷ [])
id_and_value limit ids operands said says =
    let one = number_first limit ids some_bytes operands said says in
    let other = some_value limit one.2 one.1 one.4 in
    (one.0, other.0, one.3 ∙ ap (λ (l : List Said). number one.0 ∷ l) other.1)

id_and_number : (limit ids end : ℕ) (operands : List (List ℕ)) (said : List Said) → SaysAll limit (below ids ∷ below end ∷ []) operands said → (id : ℕ) × (n : ℕ) × (said ≡ number id ∷ number n ∷ [])
id_and_number limit ids end operands said says =
    let one = number_first limit ids (below end) operands said says in
    let other = some_number limit end one.2 one.1 one.4 in
    (one.0, other.0, one.3 ∙ ap (λ (l : List Said). number one.0 ∷ l) other.1)

-- the first form of a table is the one that was found, or it is one of the others
found_in : (f : Form) (forms : List Form) (word : List ℕ) (count : ℕ) (g : Form) → form_at (f ∷ forms) word count ≡ Some g → ((word ≡ f.word) × (f ≡ g)) ⊎ (form_at forms word count ≡ Some g)
found_in f forms word count g found = by (has_word word f && eqb (length f.fields) count) refl found
  where
    by : (b : Bool) → (has_word word f && eqb (length f.fields) count) ≡ b → cond b (Some f) (form_at forms word count) ≡ Some g → ((word ≡ f.word) × (f ≡ g)) ⊎ (form_at forms word count ≡ Some g)
    by true is same = inl ((bytes_eq-Decides word f.word).0 (and_parts (has_word word f) (eqb (length f.fields) count) is).0, cc)
    by false is same = inr same

row_is : (r : Row) (word : List ℕ) (said : List Said) → r.word ≡ word → r.said ≡ said → r ≡ row word said
row_is r word said same says = ap (λ (w : List ℕ). row w r.said) same ∙ ap (λ (l : List Said). row word l) says

says_by : (limit : ℕ) (f g : Form) (operands : List (List ℕ)) (said : List Said) → f ≡ g → SaysAll limit g.fields operands said → SaysAll limit f.fields operands said
says_by limit f g operands said same says = subst (λ (x : Form). SaysAll limit x.fields operands said) (sym same) says

none_found : (g : Form) → None ≡ Some g → ⊥
none_found g is = cc

module _ (ids : ℕ) where
  -- the forms of the table from each on
  abbrev from_mount : List Form
  from_mount = form (codes "mount") [] ∷ []

  abbrev from_uncut : List Form
  from_uncut = form (codes "uncut") [] ∷ from_mount

  abbrev from_cut : List Form
  from_cut = form (codes "cut") (below UNITS_END ∷ []) ∷ from_uncut

  abbrev from_space : List Form
  from_space = form (codes "space") [] ∷ from_cut

  abbrev from_older : List Form
  from_older = form (codes "older") (below ids ∷ below VERSIONS_END ∷ []) ∷ from_space

  abbrev from_del : List Form
  from_del = form (codes "del") (below ids ∷ []) ∷ from_older

  abbrev from_get : List Form
  from_get = form (codes "get") (below ids ∷ []) ∷ from_del

  abbrev from_set : List Form
  from_set = form (codes "set") (below ids ∷ some_bytes ∷ []) ∷ from_get

  item_fits : ids ≤ 2 ^ 64 → TableFits (item_forms ids)
  item_fits small =
      first (form (codes "set") (below ids ∷ some_bytes ∷ [])) from_get (two_fields (below ids) some_bytes small tt)
      (first (form (codes "get") (below ids ∷ [])) from_del (one_field (below ids) small)
      (first (form (codes "del") (below ids ∷ [])) from_older (one_field (below ids) small)
      (first (form (codes "older") (below ids ∷ below VERSIONS_END ∷ [])) from_space (two_fields (below ids) (below VERSIONS_END) small (lit≤ tt))
      (first (form (codes "space") []) from_cut (All-nil FieldFits)
      (first (form (codes "cut") (below UNITS_END ∷ [])) from_uncut (one_field (below UNITS_END) (lit≤ tt))
      (first (form (codes "uncut") []) from_mount (All-nil FieldFits)
      (first (form (codes "mount") []) [] (All-nil FieldFits) (All-nil Fits))))))))

  module _ (limit : ℕ) (r : Row) (operands : List (List ℕ)) (g : Form) (says : SaysAll limit g.fields operands r.said) where
    -- what the words say where this form is the one that was found
    says_of : (f : Form) → f ≡ g → SaysAll limit f.fields operands r.said
    says_of f same = says_by limit f g operands r.said same says

    of_mount : form_at from_mount r.word (length operands) ≡ Some g → (line : Line) × (r ≡ row_of line)
    of_mount found = elim (found_in (form (codes "mount") []) [] r.word (length operands) g found) [
      | inl is ↦ (Mount, row_is r (codes "mount") [] is.0 (no_word limit operands r.said (says_of (form (codes "mount") []) is.1)))
      | inr later ↦ absurd (none_found g later)
    ]

    of_uncut : form_at from_uncut r.word (length operands) ≡ Some g → (line : Line) × (r ≡ row_of line)
    of_uncut found = elim (found_in (form (codes "uncut") []) from_mount r.word (length operands) g found) [
      | inl is ↦ (Uncut, row_is r (codes "uncut") [] is.0 (no_word limit operands r.said (says_of (form (codes "uncut") []) is.1)))
      | inr later ↦ of_mount later
    ]

    of_cut : form_at from_cut r.word (length operands) ≡ Some g → (line : Line) × (r ≡ row_of line)
    of_cut found = elim (found_in (form (codes "cut") (below UNITS_END ∷ [])) from_uncut r.word (length operands) g found) [
      | inl is ↦
          let said = some_number limit UNITS_END operands r.said (says_of (form (codes "cut") (below UNITS_END ∷ [])) is.1) in
          (Cut said.0, row_is r (codes "cut") (number said.0 ∷ []) is.0 said.1)
      | inr later ↦ of_uncut later
    ]

    of_space : form_at from_space r.word (length operands) ≡ Some g → (line : Line) × (r ≡ row_of line)
    of_space found = elim (found_in (form (codes "space") []) from_cut r.word (length operands) g found) [
      | inl is ↦ (Space, row_is r (codes "space") [] is.0 (no_word limit operands r.said (says_of (form (codes "space") []) is.1)))
      | inr later ↦ of_cut later
    ]

    of_older : form_at from_older r.word (length operands) ≡ Some g → (line : Line) × (r ≡ row_of line)
    of_older found = elim (found_in (form (codes "older") (below ids ∷ below VERSIONS_END ∷ [])) from_space r.word (length operands) g found) [
      | inl is ↦
          let said = id_and_number limit ids VERSIONS_END operands r.said (says_of (form (codes "older") (below ids ∷ below VERSIONS_END ∷ [])) is.1) in
          (Older said.0 said.1, row_is r (codes "older") (number said.0 ∷ number said.1 ∷ []) is.0 said.2)
      | inr later ↦ of_space later
    ]

    of_del : form_at from_del r.word (length operands) ≡ Some g → (line : Line) × (r ≡ row_of line)
    of_del found = elim (found_in (form (codes "del") (below ids ∷ [])) from_older r.word (length operands) g found) [
      | inl is ↦
          let said = some_number limit ids operands r.said (says_of (form (codes "del") (below ids ∷ [])) is.1) in
          (Delete said.0, row_is r (codes "del") (number said.0 ∷ []) is.0 said.1)
      | inr later ↦ of_older later
    ]

    of_get : form_at from_get r.word (length operands) ≡ Some g → (line : Line) × (r ≡ row_of line)
    of_get found = elim (found_in (form (codes "get") (below ids ∷ [])) from_del r.word (length operands) g found) [
      | inl is ↦
          let said = some_number limit ids operands r.said (says_of (form (codes "get") (below ids ∷ [])) is.1) in
          (Get said.0, row_is r (codes "get") (number said.0 ∷ []) is.0 said.1)
      | inr later ↦ of_del later
    ]

    of_set : form_at from_set r.word (length operands) ≡ Some g → (line : Line) × (r ≡ row_of line)
    of_set found = elim (found_in (form (codes "set") (below ids ∷ some_bytes ∷ [])) from_get r.word (length operands) g found) [
      | inl is ↦
          let said = id_and_value limit ids operands r.said (says_of (form (codes "set") (below ids ∷ some_bytes ∷ [])) is.1) in
          (Set said.0 said.1, row_is r (codes "set") (number said.0 ∷ bytes said.1 ∷ []) is.0 said.2)
      | inr later ↦ of_get later
    ]

  -- a row that words spell is some line's
  line_said : (limit : ℕ) (words : List (List ℕ)) → (r : Row) × Spells (item_forms ids) limit words r → (line : Line) × Spells (item_forms ids) limit words (row_of line)
  line_said limit words (r, is) =
      let line = of_set limit r is.operands is.form is.says is.found in
      (line.0, subst (λ (x : Row). Spells (item_forms ids) limit words x) line.1 is)

ids_small : (ids : Ids) → ids_end ids ≤ 2 ^ 64
ids_small Short = lit≤ tt
ids_small Long = lit≤ tt

pub each_is_read : EachIsRead
each_is_read ids limit words some = elim (reads.each_is_read (item_forms (ids_end ids)) limit words (item_fits (ids_end ids) (ids_small ids)) some) [
  | inl spells ↦ inl (line_said (ids_end ids) limit words spells)
  | inr refused ↦ inr refused
]

-- ---- the line of a row

value_said : List Said → Option Line
value_said (number id ∷ bytes value ∷ []) = Some (Set id value)
value_said said = None

version_said : List Said → Option Line
version_said (number id ∷ number n ∷ []) = Some (Older id n)
version_said said = None

number_said : (ℕ → Line) → List Said → Option Line
number_said line (number n ∷ []) = Some (line n)
number_said line said = None

line_of : Row → Option Line
line_of r =
    cond (bytes_eq r.word (codes "set")) (value_said r.said)
    (cond (bytes_eq r.word (codes "get")) (number_said (λ id. Get id) r.said)
    (cond (bytes_eq r.word (codes "del")) (number_said (λ id. Delete id) r.said)
    (cond (bytes_eq r.word (codes "older")) (version_said r.said)
    (cond (bytes_eq r.word (codes "space")) (Some Space)
    (cond (bytes_eq r.word (codes "cut")) (number_said (λ units. Cut units) r.said)
    (cond (bytes_eq r.word (codes "uncut")) (Some Uncut) (Some Mount)))))))

line_back : (line : Line) → line_of (row_of line) ≡ Some line
unfolding line_of value_said version_said number_said
line_back (Set id value) = refl
line_back (Get id) = refl
line_back (Delete id) = refl
line_back (Older id n) = refl
line_back Space = refl
line_back (Cut units) = refl
line_back Uncut = refl
line_back Mount = refl

some_same : (a b : Line) → Some a ≡ Some b → a ≡ b
some_same a b e = cc

pub one_meaning : OneMeaning
one_meaning one other same = some_same one other (sym (line_back one) ∙ ap line_of same ∙ line_back other)
