-- What the table says of runs.
use Rattle.std.specs.Prelude.{◌≡◌, true, false, List, ◌++◌, map, All}
use Rattle.flash_map.specs.declared.area.Area.{Area}
use Rattle.script_lines.specs.declared.line.Line.{Line}
use Rattle.script_lines.specs.declared.answer.Answer.{Answer}
use Rattle.session_table.specs.Bench.{Meanings, Moment, LineDone, Runs}
use Rattle.session_table.specs.Follows.{Follows}
use Rattle.session_table.specs.Plain.{is_plain, without_units, plain_answers, plain_state}
use Rattle.session_table.specs.Prefix.{is_torn, IsAfterPrefix, PowerStep}
use Rattle.session_table.specs.Rules.{Rules}
use Rattle.session_table.specs.State.{State}
use Rattle.session_table.specs.Step.{Step}
use Rattle.session_table.specs.Torn.{IsAfterDeeds}

-- If no power is lost and nothing is refused for want of room, the lines and the state before
-- determine the answers, except for their units, and the state after.
abbrev pub LeavesUnitsOpen : Rules → Type 0
LeavesUnitsOpen r =
    (lines : List Line) (answers : List Answer) (old new : State) → Follows (Step r) lines answers old new
    → All (λ answer. is_plain answer ≡ true) answers
    → (map without_units answers ≡ plain_answers r lines old) × (new ≡ plain_state r lines old)

-- Wherever power is lost, the settings after each line are those after a prefix of the commands of each
-- line so far that has every acknowledged one, unless units spelt another record.
abbrev pub HoldsAcknowledged : Rules → Type 0
HoldsAcknowledged r =
    (lines : List Line) (answers : List Answer) (old new : State) → Follows (Step r) lines answers old new
    → All (λ answer. is_torn answer ≡ false) answers
    → IsAfterPrefix r lines answers old new

-- Wherever power is lost, the settings follow from what became of the commands: all of a line that
-- was done were carried out; of a save that was refused, as many as it reports; of a line in which
-- power was lost, the first so many, and the next one may have been torn by chance.
abbrev pub ReportsDeeds : Rules → Type 0
ReportsDeeds r =
    (lines : List Line) (answers : List Answer) (old new : State) → Follows (Step r) lines answers old new
    → IsAfterDeeds r lines answers old new

-- power is off from a line in which it was lost until a mount answers `ok`
abbrev pub LosesPower : Rules → Type 0
LosesPower r =
    (lines : List Line) (answers : List Answer) (old new : State) → Follows (Step r) lines answers old new
    → Follows PowerStep lines answers old.is_on new.is_on

-- two runs in a row are one
abbrev pub RunsInRow : Rules → Type 0
RunsInRow r =
    (lines more : List Line) (answers others : List Answer) (old mid new : State)
    → Follows (Step r) lines answers old mid → Follows (Step r) more others mid new
    → Follows (Step r) (lines ++ more) (answers ++ others) old new

-- a run of a bench, line by line, follows the table; its counts and its plan are as its answers
-- report, and no byte changes outside the areas that its lines work on
abbrev pub LinesMakeRuns : Meanings → List Area → Type 0
LinesMakeRuns m areas =
    (lines : List Line) (answers : List Answer) (old new : Moment)
    → Follows (LineDone m areas) lines answers old new → Runs m areas lines answers old new
