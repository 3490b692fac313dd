-- No text is read in two ways, whatever the table.
use Rattle.std.specs.Prelude.{◌≡◌, ◌⊎◌, ℕ, ◌^◌, ◌<◌, ◌≤◌, ⊤, List, All, length}
use Rattle.script_lines.specs.declared.line.Line.{Line}
use Rattle.script_lines.specs.declared.why.LineWhy.{LineWhy}
use Rattle.script_lines.specs.Forms.{Field, Form, Row, Spells, Refuses}
use Rattle.script_lines.specs.Forms.Field.{a_name, a_label, a_kind, some_bytes, any_bytes, below}
use Rattle.script_lines.specs.Line.{row_of}
use Rattle.script_lines.specs.Script.{IsScript, IsBadLine}

-- words are at most one line, and are then not refused
abbrev pub OneLine : Type 0
OneLine = (table : List Form) (limit : ℕ) (words : List (List ℕ)) (one : Row) → Spells table limit words one
    → ((other : Row) → Spells table limit words other → other ≡ one)
    × ((why : LineWhy) → Refuses table limit words why → ⊥)

-- words are refused for at most one cause
abbrev pub OneCause : Type 0
OneCause = (table : List Form) (limit : ℕ) (words : List (List ℕ)) (one other : LineWhy)
    → Refuses table limit words one → Refuses table limit words other → one ≡ other

-- a text is at most one list of lines, and then none of its lines is refused
abbrev pub OneScript : Type 0
OneScript =
    (table : List Form) (limit : ℕ) (bytes : List ℕ) (rows : List Row) → IsScript table limit bytes rows
    → ((other : List Row) → IsScript table limit bytes other → other ≡ rows)
    × ((n : ℕ) (why : LineWhy) → IsBadLine table limit bytes n why → ⊥)

-- a text has at most one first refused line, with one cause
abbrev pub OneRefusal : Type 0
OneRefusal = (table : List Form) (limit : ℕ) (bytes : List ℕ) (n m : ℕ) (why other : LineWhy)
    → IsBadLine table limit bytes n why → IsBadLine table limit bytes m other → (n ≡ m) × (why ≡ other)

-- no two lines on settings say the same
abbrev pub OneMeaning : Type 0
OneMeaning = (one other : Line) → row_of one ≡ row_of other → one ≡ other

-- the numbers of a table have at most 64 bits
abbrev pub FieldFits : Field → Type 0
FieldFits (below end) = end ≤ 2 ^ 64
FieldFits a_name = ⊤
FieldFits a_label = ⊤
FieldFits a_kind = ⊤
FieldFits some_bytes = ⊤
FieldFits any_bytes = ⊤

abbrev pub TableFits : List Form → Type 0
TableFits table = All (λ form. All FieldFits form.fields) table

-- words are a line, or are refused for some cause
abbrev pub EachIsRead : Type 0
EachIsRead = (table : List Form) (limit : ℕ) (words : List (List ℕ)) → TableFits table → 0 < length words
    → ((row : Row) × Spells table limit words row) ⊎ ((why : LineWhy) × Refuses table limit words why)
