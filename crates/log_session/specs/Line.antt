-- The lines of a script on a log: their table, and what each says.
use Rattle.std.specs.Prelude.{◌≡◌, ℕ, false, Option, Some, None, Result, List, [], ◌∷◌, codes}
use Rattle.std.specs.Global.{Vec}
use Rattle.std.specs.List.{list_any}
use Rattle.script_lines.specs.declared.grammar.ScriptFault.{ScriptFault}
use Rattle.script_lines.specs.declared.line.TheConstants.{UNITS_END}
use Rattle.script_lines.specs.declared.why.LineFault.{LineFault}
use Rattle.script_lines.specs.Forms.{Form, Row, form, row, has_word, ReadsRow}
use Rattle.script_lines.specs.Forms.Field.{some_bytes, below}
use Rattle.script_lines.specs.Forms.Said.{bytes, number}
use Rattle.script_lines.specs.Script.{ReadsLines}
use Rattle.log_session.specs.declared.line.Line.{Line}
use Rattle.log_session.specs.declared.line.Line.TheVariants.{Put, Records, Cut, Uncut, Mount}
use Rattle.log_session.specs.declared.reading.Command.{Command}
use Rattle.log_session.specs.declared.reading.Command.TheVariants as commands

abbrev pub log_forms : List Form
log_forms =
    form (codes "put") (some_bytes ∷ [])
    ∷ form (codes "all") []
    ∷ form (codes "cut") (below UNITS_END ∷ [])
    ∷ form (codes "uncut") []
    ∷ form (codes "mount") []
    ∷ []

-- what a line says
abbrev pub row_of : Line → Row
row_of (Put body) = row (codes "put") (bytes body ∷ [])
row_of Records = row (codes "all") []
row_of (Cut units) = row (codes "cut") (number units ∷ [])
row_of Uncut = row (codes "uncut") []
row_of Mount = row (codes "mount") []

abbrev pub command_word : Command → List ℕ
command_word commands.Put = codes "put"
command_word commands.Records = codes "all"
command_word commands.Cut = codes "cut"
command_word commands.Uncut = codes "uncut"
command_word commands.Mount = codes "mount"

-- the command of a first word; `None` if no line has that word
abbrev pub FindsCommand : List ℕ → Option Command → Type 0
FindsCommand word None = list_any (has_word word) log_forms ≡ false
FindsCommand word (Some command) = word ≡ command_word command

-- How the reading of a line ends.
abbrev pub ReadsLine : ℕ → List (List ℕ) → Result Line LineFault → Type 0
ReadsLine limit words read = ReadsRow log_forms row_of limit words read

-- How the reading of a script ends.
abbrev pub ReadsScript : ℕ → List ℕ → Result (Vec Line) ScriptFault → Type 0
ReadsScript limit text read = ReadsLines log_forms row_of limit text read
