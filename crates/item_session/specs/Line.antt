-- The lines of a script on numbered items: their table, and what each says.
use Rattle.std.specs.Prelude.{◌≡◌, ℕ, false, Option, Some, None, Result, List, [], ◌∷◌, codes}
use Rattle.std.specs.Global.{Vec}
use Rattle.std.specs.List.{list_any}
use Rattle.script_lines.specs.declared.grammar.ScriptFault.{ScriptFault}
use Rattle.script_lines.specs.declared.line.TheConstants.{UNITS_END}
use Rattle.script_lines.specs.declared.why.LineFault.{LineFault}
use Rattle.script_lines.specs.Forms.{Form, Row, form, row, has_word, ReadsRow}
use Rattle.script_lines.specs.Forms.Field.{some_bytes, below}
use Rattle.script_lines.specs.Forms.Said.{bytes, number}
use Rattle.script_lines.specs.Script.{ReadsLines}
use Rattle.item_session.specs.declared.ids.Ids.{Ids}
use Rattle.item_session.specs.declared.ids.Ids.TheVariants.{Short, Long}
use Rattle.item_session.specs.declared.line.Line.{Line}
use Rattle.item_session.specs.declared.line.Line.TheVariants.{Set, Get, Delete, Older, Space, Cut, Uncut, Mount}
use Rattle.item_session.specs.declared.reading.Command.{Command}
use Rattle.item_session.specs.declared.reading.Command.TheVariants as commands

-- The end of ids: the greatest is one less.
abbrev pub ids_end : Ids → ℕ
ids_end Short = 0xFFFF
ids_end Long = 0xFFFFFFFF

-- the lines on items whose ids are below `ids`
abbrev pub item_forms : ℕ → List Form
item_forms ids =
    form (codes "set") (below ids ∷ some_bytes ∷ [])
    ∷ form (codes "get") (below ids ∷ [])
    ∷ form (codes "del") (below ids ∷ [])
    ∷ form (codes "older") (below ids ∷ below 4_294_967_296 ∷ [])
    ∷ form (codes "space") []
    ∷ form (codes "cut") (below UNITS_END ∷ [])
    ∷ form (codes "uncut") []
    ∷ form (codes "mount") []
    ∷ []

-- what a line says
abbrev pub row_of : Line → Row
row_of (Set id value) = row (codes "set") (number id ∷ bytes value ∷ [])
row_of (Get id) = row (codes "get") (number id ∷ [])
row_of (Delete id) = row (codes "del") (number id ∷ [])
row_of (Older id n) = row (codes "older") (number id ∷ number n ∷ [])
row_of Space = row (codes "space") []
row_of (Cut units) = row (codes "cut") (number units ∷ [])
row_of Uncut = row (codes "uncut") []
row_of Mount = row (codes "mount") []

abbrev pub command_word : Command → List ℕ
command_word commands.Set = codes "set"
command_word commands.Get = codes "get"
command_word commands.Delete = codes "del"
command_word commands.Older = codes "older"
command_word commands.Space = codes "space"
command_word commands.Cut = codes "cut"
command_word commands.Uncut = codes "uncut"
command_word commands.Mount = codes "mount"

-- the command of a first word; `None` if no line has that word, whatever the end of ids
abbrev pub FindsCommand : List ℕ → Option Command → Type 0
FindsCommand word None = (ids : ℕ) → list_any (has_word word) (item_forms ids) ≡ false
FindsCommand word (Some command) = word ≡ command_word command

-- How the reading of a line ends.
abbrev pub ReadsLine : ℕ → ℕ → List (List ℕ) → Result Line LineFault → Type 0
ReadsLine ids limit words read = ReadsRow (item_forms ids) row_of limit words read

-- How the reading of a script ends.
abbrev pub ReadsScript : Ids → ℕ → List ℕ → Result (Vec Line) ScriptFault → Type 0
ReadsScript ids limit text read = ReadsLines (item_forms (ids_end ids)) row_of limit text read
