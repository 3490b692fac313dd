-- What the table of the lines says of all words.
use Rattle.std.specs.Prelude.{◌≡◌, ◌⊎◌, ℕ, ◌<◌, List, length}
use Rattle.script_lines.specs.declared.why.LineWhy.{LineWhy}
use Rattle.script_lines.specs.Forms.{Spells, Refuses}
use Rattle.mirror_session.specs.declared.line.Line.{Line}
use Rattle.mirror_session.specs.Line.{mirror_forms, row_of}

-- no two lines say the same
abbrev pub OneMeaning : Type 0
OneMeaning = (one other : Line) → row_of one ≡ row_of other → one ≡ other

-- words are a line, or are refused for some cause
abbrev pub EachIsRead : Type 0
EachIsRead = (limit : ℕ) (words : List (List ℕ)) → 0 < length words
    → ((line : Line) × Spells mirror_forms limit words (row_of line))
    ⊎ ((why : LineWhy) × Refuses mirror_forms limit words why)
