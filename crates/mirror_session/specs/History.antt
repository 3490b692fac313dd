-- Which commands of a run stand: those of the lines that were done. A command in which power was
-- lost stands or does not.
use Rattle.std.specs.Prelude.{◌≡◌, Bool, true, false, List, [], ◌++◌, if◌then◌else◌}
use Rattle.backend_api.specs.Commands.{Command, all_applied}
use Rattle.backend_api.specs.Map.{Map}
use Rattle.session_table.specs.Follows.{Follows}
use Rattle.session_table.specs.Prefix.{Stand}
use Rattle.mirror_session.specs.declared.line.Line.{Line}
use Rattle.mirror_session.specs.declared.line.Line.TheVariants.{Mount}
use Rattle.mirror_session.specs.declared.answer.Answer.{Answer}
use Rattle.mirror_session.specs.Plan.{as_plain, is_lost}
use Rattle.mirror_session.specs.State.{State, Rules, IsOn}
use Rattle.mirror_session.specs.Step.{Step, commands_of}

-- with power on, both areas read as the settings
abbrev pub IsMirrored : State → Type 0
IsMirrored s = IsOn s → s.other ≡ s.settings

-- with power on, the selector names the area that is read
abbrev pub NamesRead : State → Type 0
NamesRead s = IsOn s → s.gone ≡ false

-- a state, and the commands that stand so far
pub record Logged : Type 0 where
  pub state : State
  pub log : List Command

-- A line adds those of its commands that stand: all if it was done, the first of them if power was
-- lost. With power on, both areas read as what all commands that stand make of the first settings.
pub record LogStep (r : Rules) (start : Map) (line : Line) (answer : Answer) (old new : Logged) : Type 0 where
  pub step : Step r line answer old.state new.state
  pub done : List Command
  pub stand : Stand (as_plain answer) (commands_of line old.state.settings) done
  pub log : new.log ≡ old.log ++ done
  pub reads : IsOn new.state → new.state.settings ≡ all_applied start new.log
  pub both : IsMirrored new.state

-- Whenever the settings are read, and at the end, they are those that the commands that stand make
-- of the first ones, line by line. A later line may settle whether a command in which power was
-- lost stands; for example, the area that had it is replaced.
pub record IsAfterPrefix (r : Rules) (lines : List Line) (answers : List Answer) (old new : State) :
    Type 0 where
  pub log : List Command
  pub runs :
      Follows (LogStep r old.settings) lines answers
      (record { state = old; log = [] })
      (record { state = new; log = log })
  pub settings : new.settings ≡ all_applied old.settings log

-- ---- power

-- the line restores power
abbrev pub restores : Line → Bool
restores Mount = true
restores line = false

-- Power is off after a line in which it was lost, until a mount answers `ok`.
abbrev pub power_after : Line → Answer → Bool → Bool
power_after line answer was = if is_lost answer then false else (if restores line then true else was)

abbrev pub PowerStep : Line → Answer → Bool → Bool → Type 0
PowerStep line answer old new = new ≡ power_after line answer old
