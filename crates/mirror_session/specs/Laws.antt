-- What the table says of runs.
use Rattle.std.specs.Prelude.{◌≡◌, ◌⊎◌, ℕ, true, false, List, ◌++◌, map, All}
use Rattle.flash_map.specs.declared.area.Area.{Area}
use Rattle.script_lines.specs.Script.{IsScript}
use Rattle.session_table.specs.Follows.{Follows}
use Rattle.mirror_session.specs.Line.{mirror_forms, row_of}
use Rattle.mirror_session.specs.declared.line.Line.{Line}
use Rattle.mirror_session.specs.declared.line.Line.TheVariants.{Mount}
use Rattle.mirror_session.specs.declared.answer.Answer.{Answer}
use Rattle.mirror_session.specs.Bench.{Meanings, Moment}
use Rattle.mirror_session.specs.LineDone.{IsServed, LineDone}
use Rattle.mirror_session.specs.Running.{Ran}
use Rattle.mirror_session.specs.History.{IsAfterPrefix, IsMirrored, NamesRead, PowerStep}
use Rattle.mirror_session.specs.State.{State, Rules}
use Rattle.mirror_session.specs.Step.{Step}

-- From before the opening mount on, wherever power is lost and an area is replaced, the
-- settings are those that commands of the lines make, in their order, with every acknowledged
-- one among them.
abbrev pub HoldsAcknowledged : Type 0
HoldsAcknowledged =
    (r : Rules) (lines : List Line) (answers : List Answer) (old new : State)
    → old.is_whole ≡ false → old.is_on ≡ false
    → Follows (Step r) lines answers old new → IsAfterPrefix r lines answers old new

-- With power on, both areas read as the settings.
abbrev pub StaysMirrored : Type 0
StaysMirrored =
    (r : Rules) (lines : List Line) (answers : List Answer) (old new : State)
    → IsMirrored old → Follows (Step r) lines answers old new → IsMirrored new

-- With power on, the selector names the area that is read.
abbrev pub KeepsNamesRead : Type 0
KeepsNamesRead =
    (r : Rules) (lines : List Line) (answers : List Answer) (old new : State)
    → NamesRead old → Follows (Step r) lines answers old new → NamesRead new

-- Power is off from a line in which it was lost until a mount answers `ok`.
abbrev pub LosesPower : Type 0
LosesPower =
    (r : Rules) (lines : List Line) (answers : List Answer) (old new : State)
    → Follows (Step r) lines answers old new → Follows PowerStep lines answers old.is_on new.is_on

-- The selector names another area only after a mount that found the area named before all FF, and
-- the other one not.
abbrev pub KeepsNamed : Type 0
KeepsNamed =
    (r : Rules) (line : Line) (answer : Answer) (old new : State)
    → Step r line answer old new
    → (new.named ≡ old.named) ⊎ ((line ≡ Mount) × (old.gone ≡ true) × (new.named ≡ r.beside old.named))

-- Two runs in a row are one.
abbrev pub RunsInRow : Type 0
RunsInRow =
    (r : Rules) (lines more : List Line) (answers others : List Answer) (old mid new : State)
    → Follows (Step r) lines answers old mid → Follows (Step r) more others mid new
    → Follows (Step r) (lines ++ more) (answers ++ others) old new

-- A run of a bench, line by line, follows the table; its counts and its plan are as its answers
-- report, and no byte changes outside the areas of the map.
abbrev pub LinesMakeRuns : Meanings → List Area → Type 0
LinesMakeRuns m areas =
    (lines : List Line) (answers : List Answer) (old new : Moment)
    → Follows (LineDone m areas) lines answers old new → Ran m areas lines answers old new

-- the lines of a text have values within the limit
abbrev pub LinesAreServed : Type 0
LinesAreServed =
    (limit : ℕ) (text : List ℕ) (lines : List Line)
    → IsScript mirror_forms limit text (map row_of lines) → All (IsServed limit) lines
