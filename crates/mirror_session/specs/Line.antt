-- The lines of a script on a mirror: their table, and what each says.
use Rattle.std.specs.Prelude.{◌≡◌, ℕ, false, Option, Some, None, Result, List, [], ◌∷◌, codes}
use Rattle.std.specs.Global.{Vec}
use Rattle.std.specs.List.{list_any}
use Rattle.script_lines.specs.declared.grammar.ScriptFault.{ScriptFault}
use Rattle.script_lines.specs.declared.line.TheConstants.{UNITS_END}
use Rattle.script_lines.specs.declared.why.LineFault.{LineFault}
use Rattle.script_lines.specs.Forms.{Form, Row, form, row, has_word, ReadsRow}
use Rattle.script_lines.specs.Forms.Field.{a_name, a_label, any_bytes, below}
use Rattle.script_lines.specs.Forms.Said.{name, label, bytes, number}
use Rattle.script_lines.specs.Script.{ReadsLines}
use Rattle.mirror_session.specs.declared.line.Line.{Line}
use Rattle.mirror_session.specs.declared.line.Line.TheVariants.{Set, Get, Del, Names, Mount, Cut, Uncut, Blank}
use Rattle.mirror_session.specs.declared.reading.Command.{Command}
use Rattle.mirror_session.specs.declared.reading.Command.TheVariants as commands

abbrev pub mirror_forms : List Form
mirror_forms =
    form (codes "set") (a_name ∷ any_bytes ∷ [])
    ∷ form (codes "get") (a_name ∷ [])
    ∷ form (codes "del") (a_name ∷ [])
    ∷ form (codes "names") []
    ∷ form (codes "mount") []
    ∷ form (codes "cut") (below UNITS_END ∷ [])
    ∷ form (codes "uncut") []
    ∷ form (codes "blank") (a_label ∷ [])
    ∷ []

-- what a line says
abbrev pub row_of : Line → Row
row_of (Set text value) = row (codes "set") (name text ∷ bytes value ∷ [])
row_of (Get text) = row (codes "get") (name text ∷ [])
row_of (Del text) = row (codes "del") (name text ∷ [])
row_of Names = row (codes "names") []
row_of Mount = row (codes "mount") []
row_of (Cut units) = row (codes "cut") (number units ∷ [])
row_of Uncut = row (codes "uncut") []
row_of (Blank text) = row (codes "blank") (label text ∷ [])

abbrev pub command_word : Command → List ℕ
command_word commands.Set = codes "set"
command_word commands.Get = codes "get"
command_word commands.Del = codes "del"
command_word commands.Names = codes "names"
command_word commands.Mount = codes "mount"
command_word commands.Cut = codes "cut"
command_word commands.Uncut = codes "uncut"
command_word commands.Blank = codes "blank"

-- the command of a first word; `None` if no line has that word
abbrev pub FindsCommand : List ℕ → Option Command → Type 0
FindsCommand word None = list_any (has_word word) mirror_forms ≡ false
FindsCommand word (Some command) = word ≡ command_word command

-- How the reading of a line ends.
abbrev pub ReadsLine : ℕ → List (List ℕ) → Result Line LineFault → Type 0
ReadsLine limit words read = ReadsRow mirror_forms row_of limit words read

-- How the reading of a script ends.
abbrev pub ReadsScript : ℕ → List ℕ → Result (Vec Line) ScriptFault → Type 0
ReadsScript limit text read = ReadsLines mirror_forms row_of limit text read
