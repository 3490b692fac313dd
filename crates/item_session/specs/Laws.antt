-- What the table says of runs.
use Rattle.std.specs.Prelude.{ℕ, List, ◌++◌, map}
use Rattle.std.specs.List.{All}
use Rattle.flash_sim.specs.Bank.{IsLawful}
use Rattle.flash_sim.specs.Device.{Device}
use Rattle.flash_map.specs.declared.area.Area.{Area}
use Rattle.flash_map.specs.declared.area.Geometry.{Geometry}
use Rattle.flash_map.specs.declared.area.Role.{Role}
use Rattle.flash_map.specs.declared.area.Role.TheVariants.{Nvs, Zms}
use Rattle.script_lines.specs.Script.{IsScript}
use Rattle.session_table.specs.Follows.{Follows}
use Rattle.item_session.specs.Line.{item_forms, row_of}
use Rattle.item_session.specs.declared.line.Line.{Line}
use Rattle.item_session.specs.declared.answer.Answer.{Answer}
use Rattle.nvs_format.specs.Formats as nvs
use Rattle.item_store.specs.SectorFormat.{IsSectorFormat, SectorFormat}
use Rattle.item_store.specs.Listed.{format_on}
use Rattle.item_store.specs.Standing.{IsStoreArea}
use Rattle.zms_format.specs.Formats as zms
use Rattle.item_session.specs.Device.{IsServed, TakesValues}
use Rattle.item_session.specs.Fits.{FitsOpen, ForgetsNone}
use Rattle.item_session.specs.History.{HasHistory, PowerStep}
use Rattle.item_session.specs.LineDone.{LineDone, Runs}
use Rattle.item_session.specs.Step.{Rules, State, Step}
use Rattle.item_session.specs.Whole.{IsBlankOn, IsFresh, KeepsWhole}

-- wherever power is lost, the items are those of a plain list; of each id the newest versions in
-- that list are kept
abbrev pub HoldsAcknowledged : Type 0
HoldsAcknowledged =
    (rules : Rules) (last : ℕ) (lines : List Line) (answers : List Answer) (old new : State)
    → Follows (Step rules last) lines answers old new → HasHistory rules last lines answers old new

-- power is off from a line in which it was lost until a mount answers `ok`
abbrev pub LosesPower : Type 0
LosesPower =
    (rules : Rules) (last : ℕ) (lines : List Line) (answers : List Answer) (old new : State)
    → Follows (Step rules last) lines answers old new → Follows PowerStep lines answers old.is_on new.is_on

-- two runs in a row are one
abbrev pub RunsInRow : Type 0
RunsInRow =
    (rules : Rules) (last : ℕ) (lines more : List Line) (answers others : List Answer) (old mid new : State)
    → Follows (Step rules last) lines answers old mid → Follows (Step rules last) more others mid new
    → Follows (Step rules last) (lines ++ more) (answers ++ others) old new

-- a run of a bench, line by line, follows the table; its counts and its plan are as its answers
-- report, and no byte changes outside the area
abbrev pub LinesMakeRuns : Type 0
LinesMakeRuns =
    (format_of : Geometry → SectorFormat) (area : Area) (lines : List Line) (answers : List Answer)
    (old new : Device)
    → Follows (LineDone format_of area) lines answers old new → Runs format_of area lines answers old new

-- a line whose entry fits the open sector drops no version, nor does a mount of an area at rest
abbrev pub ForgetsForRoom : Type 0
ForgetsForRoom =
    (format_of : Geometry → SectorFormat) (area : Area) (line : Line) (answer : Answer) (old new : Device)
    → IsSectorFormat (format_on format_of old area) → LineDone format_of area line answer old new
    → FitsOpen format_of old area line
    → ForgetsNone format_of area line answer old new

-- From a fresh area on, the whole history of each id is kept as long as the sets and deletes of the
-- lines, but those answered `off`, cost at most what a sector has. This holds wherever power is lost.
abbrev pub HistoryStaysWhole : Type 0
HistoryStaysWhole =
    (format_of : Geometry → SectorFormat) (area : Area) (lines : List Line) (answers : List Answer)
    (old new : Device)
    → IsSectorFormat (format_on format_of old area) → IsFresh format_of old area
    → Follows (LineDone format_of area) lines answers old new
    → KeepsWhole format_of area lines answers old new

-- blank areas of NVS and of ZMS are fresh
abbrev pub BlankIsFresh : Role → (Geometry → SectorFormat) → Type 0
BlankIsFresh role format_of =
    (d : Device) (area : Area) → IsLawful d.banks d.bytes → IsStoreArea role d.banks area → IsBlankOn d area
    → IsFresh format_of d area

abbrev pub NvsBlankIsFresh : Type 0
NvsBlankIsFresh = BlankIsFresh Nvs nvs.format_of

abbrev pub ZmsBlankIsFresh : Type 0
ZmsBlankIsFresh = BlankIsFresh Zms zms.format_of

-- the lines of a text have ids below the end and values within the limit
abbrev pub LinesAreServed : Type 0
LinesAreServed =
    (ids limit : ℕ) (text : List ℕ) (lines : List Line)
    → IsScript (item_forms ids) limit text (map row_of lines) → All (IsServed ids limit) lines

-- the areas of NVS and of ZMS take each value within their limit
abbrev pub NvsTakesValues : Type 0
NvsTakesValues = (d : Device) (area : Area) → IsStoreArea Nvs d.banks area → TakesValues nvs.format_of d area

abbrev pub ZmsTakesValues : Type 0
ZmsTakesValues = (d : Device) (area : Area) → IsStoreArea Zms d.banks area → TakesValues zms.format_of d area
