-- Which commands of a run stand: all of each line that was done, as many as a refused save reports,
-- and the first so many of each line in which power was lost.
use Rattle.std.specs.Prelude.{◌≡◌, Bool, true, false, List, [], ◌++◌, length, if◌then◌else◌}
use Rattle.script_lines.specs.declared.line.Line.{Line}
use Rattle.script_lines.specs.declared.line.Line.TheVariants.{Mount}
use Rattle.script_lines.specs.declared.answer.Answer.{Answer}
use Rattle.script_lines.specs.declared.answer.Answer.TheVariants.{Done, Lost, Saved}
use Rattle.script_lines.specs.declared.answer.SaveEnd.TheVariants.{Whole}
use Rattle.script_lines.specs.Plan.{is_lost}
use Rattle.backend_api.specs.Commands.{Command, all_applied}
use Rattle.backend_api.specs.Map.{Map}
use Rattle.session_table.specs.Commands.{commands_of}
use Rattle.session_table.specs.Follows.{Follows}
use Rattle.session_table.specs.Rules.{Rules}
use Rattle.session_table.specs.State.{State}
use Rattle.session_table.specs.Step.{Step, reported}

-- whether power was lost in a record whose units spell another one
abbrev pub is_torn : Answer → Bool
is_torn (Lost units chance) = chance
is_torn answer = false

-- the first ones of these commands
pub record IsPrefix (prefix commands : List Command) : Type 0 where
  pub rest : List Command
  pub are : commands ≡ prefix ++ rest

-- Of a line's commands these stand: all if it answered `ok`; as many as it reports if a save was
-- refused; the first so many if power was lost; else none.
abbrev pub Stand : Answer → List Command → List Command → Type 0
Stand (Done units) commands done = done ≡ commands
Stand (Saved pairs units Whole) commands done = done ≡ commands
Stand (Saved pairs units end) commands done = IsPrefix done commands × (pairs ≡ reported (length done))
Stand (Lost units chance) commands done = IsPrefix done commands
Stand answer commands done = done ≡ []

-- a state, and the commands that stand so far
pub record Logged : Type 0 where
  pub state : State
  pub log : List Command

-- A line adds those of its commands that stand. The settings after it are what all commands that stand
-- so far make of the first ones.
pub record LogStep (r : Rules) (start : Map) (line : Line) (answer : Answer) (old new : Logged) : Type 0 where
  pub step : Step r line answer old.state new.state
  pub done : List Command
  pub stand : Stand answer (commands_of line old.state) done
  pub log : new.log ≡ old.log ++ done
  pub settings : new.state.settings ≡ all_applied start new.log

-- The log has the commands that stand, line by line. Applied to the first settings, they give those
-- after each line, and so the last ones.
pub record IsAfterPrefix (r : Rules) (lines : List Line) (answers : List Answer) (old new : State) :
    Type 0 where
  pub log : List Command
  pub runs : Follows (LogStep r old.settings) lines answers (record { state = old; log = [] })
      (record { state = new; log = log })
  pub settings : new.settings ≡ all_applied old.settings log

-- ---- power

-- the line restores power
abbrev pub restores : Line → Bool
restores Mount = true
restores line = false

-- Power is off after a line in which it was lost, until a mount answers `ok`.
abbrev pub power_after : Line → Answer → Bool → Bool
power_after line answer was = if is_lost answer then false else (if restores line then true else was)

abbrev pub PowerStep : Line → Answer → Bool → Bool → Type 0
PowerStep line answer old new = new ≡ power_after line answer old
