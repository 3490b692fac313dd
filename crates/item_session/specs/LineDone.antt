-- How lines change a bench.
use Rattle.std.specs.Prelude.{◌≡◌, ℕ, ◌+◌, ◌≤◌, ⊤, Bool, true, false, None, List, [], ◌∷◌, All}
use Rattle.flash_sim.specs.Device.{Device, counted}
use Rattle.flash_map.specs.declared.area.Area.{Area}
use Rattle.flash_map.specs.declared.area.Geometry.{Geometry}
use Rattle.flash_map.specs.Area.{sectors_of}
use Rattle.flash_map.specs.Touches.{Touches}
use Rattle.script_lines.specs.Plan.Replan.{keeps as keeps_plan}
use Rattle.session_table.specs.Bench.{CountsAndPlan, Keeps, StaysUnplanned}
use Rattle.session_table.specs.Follows.{Follows}
use Rattle.item_session.specs.declared.line.Line.{Line}
use Rattle.item_session.specs.declared.line.Line.TheVariants.{Set, Get, Delete, Older, Space, Mount}
use Rattle.item_session.specs.declared.answer.Answer.{Answer}
use Rattle.item_session.specs.declared.answer.Answer.TheVariants as answers
use Rattle.item_session.specs.Plan.{units_of, is_lost, units_in, losses_in, replan, Allows, plan_after, Planned, plan_through, PlansNoLoss}
use Rattle.item_laws.specs.Area.{open_sector}
use Rattle.item_store.specs.Collecting.{redo_of, redo_list, redo_units, KeepsOrRedoes}
use Rattle.item_store.specs.SectorFormat.{SectorFormat}
use Rattle.item_store.specs.Listed.{format_on}
use Rattle.item_store.specs.Standing.{list_at, KeepsItems, SpendsIn, SpendsUpTo}
use Rattle.item_store.specs.Writing.{Deletes, FindsNoSpace, StopsDeleting, StopsWriting, Writes}
use Rattle.item_session.specs.Device.{RestsOn, rules_on, state_of, turned_on}
use Rattle.session_table.specs.Rules.{IsCounted}
use Rattle.item_session.specs.Step.{Step}

-- a mount turns power on first
abbrev pub powered_for : Line → Device → Device
powered_for Mount d = turned_on d
powered_for line d = d

-- the counts and the plan after a line
abbrev pub Accounts : Line → Answer → Device → Device → Type 0
Accounts line answer old new =
    CountsAndPlan (units_of answer) (is_lost answer) (Allows old.plan answer)
    (plan_after old.plan line answer) (PlansNoLoss line) old new

-- A set or a delete ends as the store's call does; for example, it collects only if its
-- entry does not fit.
abbrev pub WritesBy : (Geometry → SectorFormat) → Area → Line → Answer → Device → Device → Type 0
WritesBy format_of area (Set id value) (answers.Done units) old new =
    Writes (format_on format_of old area) old new area id value
WritesBy format_of area (Set id value) (answers.NoSpace units need live) old new =
    FindsNoSpace (format_on format_of old area) old new area id value need live
WritesBy format_of area (Set id value) (answers.Lost units) old new =
    StopsWriting (format_on format_of old area) old new area id value
WritesBy format_of area (Delete id) (answers.Done units) old new =
    Deletes (format_on format_of old area) old new area id
WritesBy format_of area (Delete id) (answers.Lost units) old new =
    StopsDeleting (format_on format_of old area) old new area id
WritesBy format_of area line answer old new = ⊤

-- A mount spends what there is to redo, by the area's bytes, and leaves the list that the redo
-- makes. If it is cut, it spends at most the `lost` of that range, which may exceed its `most`, and
-- leaves that list or the one before.
abbrev pub Redoes : SectorFormat → Area → Answer → Device → Device → Type 0
Redoes k area (answers.Done units) old new =
    let place = open_sector k.reading (sectors_of old area) in
    let redo = redo_of k (sectors_of old area) place in
    SpendsIn old new (redo_units k (sectors_of old area) place redo)
    × (list_at k new area ≡ redo_list k (sectors_of old area) place redo)
Redoes k area (answers.Lost units) old new =
    let place = open_sector k.reading (sectors_of old area) in
    let redo = redo_of k (sectors_of old area) place in
    SpendsUpTo old new (redo_units k (sectors_of old area) place redo)
    × KeepsOrRedoes k (sectors_of old area) (sectors_of new area) place
Redoes k area answer old new = ⊥

-- An area that shows no damage is mounted, and keeps its items. At rest nothing is done.
pub record MountsBy (format_of : Geometry → SectorFormat) (area : Area) (answer : Answer) (old new : Device)
    : Type 0 where
  pub undamaged : (format_on format_of old area).damage (sectors_of old area) ≡ None
  pub items : KeepsItems (format_on format_of old area) (sectors_of old area) (sectors_of new area)
  pub redoes : Redoes (format_on format_of old area) area answer (turned_on old) new
  pub rests : RestsOn format_of old area → (answer ≡ answers.Done 0) × (new ≡ turned_on old)

-- the line only asks
abbrev pub asks : Line → Bool
asks (Get id) = true
asks (Older id n) = true
asks Space = true
asks line = false

-- the plan alone may differ
abbrev pub SameButPlan : Device → Device → Type 0
SameButPlan old new = new ≡ record old { plan = new.plan }

-- A line was carried out by the table. Except for the plan, the bench was touched in the area
-- alone: a power loss lies in it, and without a unit no byte changed. A line on the plan changes
-- nothing else, and one that only asks changes nothing.
pub record LineDone (format_of : Geometry → SectorFormat) (area : Area) (line : Line) (answer : Answer)
    (old new : Device)
    : Type 0 where
  pub step :
      (last : ℕ) → new.spent ≤ last
      → Step (rules_on format_of old area) last line answer (state_of format_of area old)
      (state_of format_of area new)
  pub accounts : Accounts line answer old new
  pub keeps : Keeps (area ∷ []) old new
  pub touches : replan line ≡ keeps_plan → Touches (area ∷ []) (powered_for line old) new (is_lost answer)
  pub writes : WritesBy format_of area line answer old new
  pub mounts : line ≡ Mount → MountsBy format_of area answer old new
  pub reports : asks line ≡ true → new ≡ old
  pub plans : (replan line ≡ keeps_plan → ⊥) → SameButPlan old new

-- a whole run of lines
pub record Runs (format_of : Geometry → SectorFormat) (area : Area) (lines : List Line)
    (answers : List Answer)
    (old new : Device)
    : Type 0 where
  pub session :
      Follows (Step (rules_on format_of old area) new.spent) lines answers
      (state_of format_of area old) (state_of format_of area new)
  pub spent : old.spent + units_in answers ≡ new.spent
  pub losses : new.losses ≡ counted old.losses (losses_in answers)
  pub planned :
      IsCounted new.spent → Planned old.plan lines answers × (new.plan ≡ plan_through old.plan lines answers)
  pub keeps : Keeps (area ∷ []) old new
  pub unplanned : All PlansNoLoss lines → StaysUnplanned old new
