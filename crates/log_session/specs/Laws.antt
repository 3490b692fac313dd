-- What the table says of runs.
use Rattle.std.specs.Prelude.{ℕ, ◌<◌, List, ◌++◌, map}
use Rattle.std.specs.List.{All}
use Rattle.flash_sim.specs.Bank.{IsLawful}
use Rattle.flash_sim.specs.Device.{Device}
use Rattle.flash_map.specs.declared.area.Area.{Area}
use Rattle.flash_map.specs.declared.area.Geometry.{Geometry}
use Rattle.fcb_ring.specs.Standing.{IsRingArea}
use Rattle.event_ring.specs.Room.{IsFull}
use Rattle.event_ring.specs.Scripts.{IsReached}
use Rattle.script_lines.specs.Script.{IsScript}
use Rattle.session_table.specs.Follows.{Follows}
use Rattle.log_session.specs.Line.{log_forms, row_of}
use Rattle.log_session.specs.declared.line.Line.{Line}
use Rattle.log_session.specs.declared.line.Line.TheVariants.{Put}
use Rattle.log_session.specs.declared.answer.Answer.{Answer}
use Rattle.log_session.specs.declared.answer.Answer.TheVariants.{Appended}
use Rattle.log_session.specs.History.{IsAfterDrops, PowerStep}
use Rattle.log_session.specs.LineDone.{IsServed, LineDone, Runs}
use Rattle.log_session.specs.Owing.{OwesOn}
use Rattle.log_session.specs.Step.{State, Step}
use Rattle.log_session.specs.Stored.{DropsForRoom, IsBlankOn}

-- wherever power is lost, the log holds, in order, every acknowledged record that was not dropped,
-- and what lost appends left
abbrev pub HoldsAcknowledged : Type 0
HoldsAcknowledged =
    (geometry : Geometry) (last : ℕ) (lines : List Line) (answers : List Answer) (old new : State)
    → Follows (Step geometry last) lines answers old new → IsAfterDrops geometry last lines answers old new

-- power is off from a line in which it was lost until a mount answers `ok`
abbrev pub LosesPower : Type 0
LosesPower =
    (geometry : Geometry) (last : ℕ) (lines : List Line) (answers : List Answer) (old new : State)
    → Follows (Step geometry last) lines answers old new → Follows PowerStep lines answers old.is_on new.is_on

-- two runs in a row are one
abbrev pub RunsInRow : Type 0
RunsInRow =
    (geometry : Geometry) (last : ℕ) (lines more : List Line) (answers others : List Answer)
    (old mid new : State)
    → Follows (Step geometry last) lines answers old mid → Follows (Step geometry last) more others mid new
    → Follows (Step geometry last) (lines ++ more) (answers ++ others) old new

-- a run of a bench, line by line, follows the table; its counts and its plan are as its answers
-- report, and no byte changes outside the area
abbrev pub LinesMakeRuns : Type 0
LinesMakeRuns =
    (area : Area) (lines : List Line) (answers : List Answer) (old new : Device)
    → Follows (LineDone area) lines answers old new → Runs area lines answers old new

-- the lines of a text have bodies within the limit
abbrev pub LinesAreServed : Type 0
LinesAreServed =
    (limit : ℕ) (text : List ℕ) (lines : List Line)
    → IsScript log_forms limit text (map row_of lines) → All (IsServed limit) lines

-- Lines that are carried out one by one lead from an area that mounts and appends reach from a
-- blank one to another such area.
abbrev pub RunsReach : Type 0
RunsReach =
    (area : Area) (lines : List Line) (answers : List Answer) (old new : Device)
    → IsReached area old → Follows (LineDone area) lines answers old new → IsReached area new

-- On such an area an append drops records only if the items cost more than all sectors but one have
-- room for, less the longest record in each.
abbrev pub DropsWhereFull : Type 0
DropsWhereFull =
    (area : Area) (body : List ℕ) (units dropped : ℕ) (old new : Device)
    → IsReached area old → IsLawful old.banks old.bytes
    → LineDone area (Put body) (Appended units dropped) old new
    → 0 < dropped → IsFull old area

-- From a blank area on, lines drop items only if these cost more than all sectors but one have room
-- for, less the longest record in each, wherever power is lost.
abbrev pub BlankDropsForRoom : Type 0
BlankDropsForRoom =
    (area : Area) (lines : List Line) (answers : List Answer) (old new : Device)
    → IsLawful old.banks old.bytes → IsRingArea old.banks area → IsBlankOn old area
    → Follows (LineDone area) lines answers old new → DropsForRoom area lines answers old new

-- a mount of a blank area spends nothing
abbrev pub BlankOwesNothing : Type 0
BlankOwesNothing =
    (d : Device) (area : Area) → IsLawful d.banks d.bytes → IsRingArea d.banks area → IsBlankOn d area
    → OwesOn d area 0
