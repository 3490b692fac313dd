-- The commands that a line stands for, and where carrying them out stops.
use Rattle.std.specs.Prelude.{◌≡◌, ℕ, true, false, List, [], ◌∷◌, ◌++◌}
use Rattle.std.specs.FinMap.{entries}
use Rattle.script_lines.specs.declared.line.Line.{Line}
use Rattle.script_lines.specs.declared.line.Line.TheVariants.{Set, Del as Delete, Save}
use Rattle.backend_api.specs.Commands.{Command, Del, all_applied, puts_of}
use Rattle.backend_api.specs.Map.{Map}
use Rattle.backend_api.specs.Room.{Room}
use Rattle.settings_core.specs.Carrying.{command_of, due, is_too_many, AreFree, SplitsAt}
use Rattle.settings_core.specs.Saving.{exported}
use Rattle.session_table.specs.State.{State}

-- the commands that change something; to set the empty value is to delete
abbrev pub commands_of : Line → State → List Command
commands_of (Set name value) s = due s.settings (command_of name value ∷ [])
commands_of (Delete name) s = due s.settings (Del name ∷ [])
commands_of (Save subtree) s = due s.settings (puts_of (exported subtree s.registry))
commands_of line s = []

-- the puts of all settings, in the byte order of names
abbrev pub all_puts : Map → List Command
all_puts settings = puts_of (entries settings)

-- there is a first command, and it puts no name too many
abbrev pub StartsFree : Room → Map → List Command → Type 0
StartsFree room settings [] = ⊥
StartsFree room settings (command ∷ commands) = is_too_many room settings command ≡ false

-- The first `count` commands were carried out. The next one would have put a name too many; none
-- before it did.
pub record StopsForNames (room : Room) (commands : List Command) (count : ℕ) (before now : Map) : Type 0 where
  pub split : SplitsAt commands count
  pub settings : now ≡ all_applied before split.done
  pub free : AreFree room before split.done
  pub many : is_too_many room now split.at ≡ true

-- Power was lost in commands: the first ones were carried out, and none of them put a
-- name too many.
pub record StopsForPower (room : Room) (commands : List Command) (before now : Map) : Type 0 where
  pub starts : StartsFree room before commands
  pub prefix : List Command
  pub rest : List Command
  pub are : commands ≡ prefix ++ rest
  pub free : AreFree room before prefix
  pub settings : now ≡ all_applied before prefix

-- Power was lost in one of the commands, and so many units of it spell another record.
pub record StopsTorn (room : Room) (tears : Command → ℕ → Map → Map → Type 0) (commands : List Command)
    (before now : Map) : Type 0 where
  pub count : ℕ
  pub split : SplitsAt commands count
  pub free : AreFree room before (split.done ++ split.at ∷ [])
  pub units : ℕ
  pub torn : tears split.at units (all_applied before split.done) now
