-- A script: its lines, or its first refused line with its cause, for any table of forms.
use Rattle.std.specs.Prelude.{◌≡◌, ◌⊎◌, ℕ, ◌+◌, ◌==◌, ⊤, Bool, true, false, not, Result, Ok, Err, List, [], ◌∷◌, ◌++◌, filter, map}
use Rattle.std.specs.Global.{Vec}
use Rattle.text_parts.specs.Parts.{parts}
use Rattle.script_lines.specs.declared.line.Line.{Line}
use Rattle.script_lines.specs.declared.why.LineWhy.{LineWhy}
use Rattle.script_lines.specs.declared.grammar.ScriptFault.{ScriptFault}
use Rattle.script_lines.specs.declared.grammar.ScriptFault.TheVariants.{BadLine, NoMemory}
use Rattle.script_lines.specs.Forms.{Form, Row, Spells, Refuses}
use Rattle.script_lines.specs.Line.{settings_forms, row_of}

-- empty, or begins with `#`
abbrev pub is_skipped : List ℕ → Bool
is_skipped [] = true
is_skipped (c ∷ cs) = c == 35

-- the texts that are not skipped
abbrev pub spoken : List (List ℕ) → List (List ℕ)
spoken texts = filter (λ text. not (is_skipped text)) texts

-- each text is the line at its place
abbrev pub SpellsAll : List Form → ℕ → List (List ℕ) → List Row → Type 0
SpellsAll table limit [] [] = ⊤
SpellsAll table limit [] (row ∷ rows) = ⊥
SpellsAll table limit (text ∷ texts) [] = ⊥
SpellsAll table limit (text ∷ texts) (row ∷ rows) =
    Spells table limit (parts 32 text) row × SpellsAll table limit texts rows

abbrev pub IsScript : List Form → ℕ → List ℕ → List Row → Type 0
IsScript table limit text rows = SpellsAll table limit (spoken (parts 10 text)) rows

-- skipped, or a line
abbrev pub IsFine : List Form → ℕ → List ℕ → Type 0
IsFine table limit text = (is_skipped text ≡ true) ⊎ ((row : Row) × Spells table limit (parts 32 text) row)

-- not skipped, and refused for this cause
abbrev pub IsRefused : List Form → ℕ → List ℕ → LineWhy → Type 0
IsRefused table limit text why = (is_skipped text ≡ false) × Refuses table limit (parts 32 text) why

-- the n-th of the texts is refused for this cause, and each before it is fine
abbrev pub FirstRefused : List Form → ℕ → List (List ℕ) → ℕ → LineWhy → Type 0
FirstRefused table limit [] n why = ⊥
FirstRefused table limit (text ∷ texts) n why =
    ((n ≡ 1) × IsRefused table limit text why)
    ⊎ (IsFine table limit text × ((k : ℕ) × (n ≡ 1 + k) × FirstRefused table limit texts k why))

-- the n-th line of the text is the first that is refused, for this cause
abbrev pub IsBadLine : List Form → ℕ → List ℕ → ℕ → LineWhy → Type 0
IsBadLine table limit text n why = FirstRefused table limit (parts 10 text) n why

-- the rows so far, and that of this text unless it is skipped
abbrev pub Takes : List Form → ℕ → List ℕ → List Row → List Row → Type 0
Takes table limit text old new =
    ((is_skipped text ≡ true) × (new ≡ old))
    ⊎
    ((is_skipped text ≡ false) × (row : Row) × Spells table limit (parts 32 text) row
    × (new ≡ old ++ row ∷ []))

-- How the reading of a script ends, for lines that say rows of a table.
abbrev pub ReadsLines : {L : Type 0} → List Form → (L → Row) → ℕ → List ℕ → Result (Vec L) ScriptFault
    → Type 0
ReadsLines table row limit text (Ok lines) = IsScript table limit text (map row lines.items)
ReadsLines table row limit text (Err (BadLine n why)) = IsBadLine table limit text n why
ReadsLines table row limit text (Err NoMemory) = ⊤

abbrev pub TakesText : {L : Type 0} → List Form → (L → Row) → ℕ → List ℕ → ℕ → List L → List L
    → Result (Unit {0}) ScriptFault → Type 0
TakesText table row limit text number old new (Ok _) = Takes table limit text (map row old) (map row new)
TakesText table row limit text number old new (Err (BadLine n why)) =
    (n ≡ number) × IsRefused table limit text why
TakesText table row limit text number old new (Err NoMemory) = ⊤

-- the same for settings
abbrev pub ReadsScript : ℕ → List ℕ → Result (Vec Line) ScriptFault → Type 0
ReadsScript limit text read = ReadsLines settings_forms row_of limit text read
