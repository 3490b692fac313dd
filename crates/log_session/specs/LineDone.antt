-- How lines change a bench.
use Rattle.std.specs.Prelude.{◌≡◌, ℕ, ◌+◌, ◌≤◌, ⊤, Bool, true, false, List, [], ◌∷◌, length, None, Some, Result, Ok, Err, All}
use Rattle.flash_sim.specs.Device.{Device, counted}
use Rattle.flash_sim.specs.declared.flash.Loss.{Loss}
use Rattle.flash_map.specs.declared.area.Area.{Area}
use Rattle.flash_map.specs.Area.{geometry_of}
use Rattle.flash_map.specs.Touches.{Touches}
use Rattle.fcb_ring.specs.declared.ring.Ring.{Ring}
use Rattle.fcb_ring.specs.Chance.{chance_on}
use Rattle.fcb_ring.specs.Standing.{erases_on, ring_damage}
use Rattle.event_ring.specs.declared.appending.LogFault.{LogFault}
use Rattle.event_ring.specs.declared.appending.LogFault.TheVariants.{PowerLost}
use Rattle.event_ring.specs.Appending.{LogAppends}
use Rattle.event_ring.specs.Items.{log_on}
use Rattle.event_ring.specs.Standing.{IsOpen, KeepsItems}
use Rattle.script_lines.specs.Plan.Replan.{keeps as keeps_plan}
use Rattle.session_table.specs.Bench.{CountsAndPlan, Keeps, StaysUnplanned}
use Rattle.session_table.specs.Follows.{Follows}
use Rattle.log_session.specs.declared.line.Line.{Line}
use Rattle.log_session.specs.declared.line.Line.TheVariants.{Put, Records, Mount}
use Rattle.log_session.specs.declared.answer.Answer.{Answer}
use Rattle.log_session.specs.declared.answer.Answer.TheVariants.{Appended, Done, Lost}
use Rattle.log_session.specs.Owing.{OwesUpTo, boot_units}
use Rattle.log_session.specs.Plan.{units_of, is_lost, units_in, losses_in, replan, Allows, plan_after, Planned, plan_through, PlansNoLoss}
use Rattle.session_table.specs.Rules.{IsCounted}
use Rattle.log_session.specs.Step.{State, Step}

-- the state, by the bytes and the power of the flash
abbrev pub state_of : Area → Device → State
state_of area d = record { log = log_on d area; is_on = d.is_on }

-- the line's body has 1 to `limit` bytes
abbrev pub IsServed : ℕ → Line → Type 0
IsServed limit (Put body) = (1 ≤ length body) × (length body ≤ limit)
IsServed limit line = ⊤

abbrev pub turned_on : Device → Device
turned_on d = record d { is_on = true }

-- a mount turns power on first
abbrev pub powered_for : Line → Device → Device
powered_for Mount d = turned_on d
powered_for line d = d

-- the counts and the plan after a line
abbrev pub Accounts : Line → Answer → Device → Device → Type 0
Accounts line answer old new =
    CountsAndPlan (units_of answer) (is_lost answer) (Allows old.plan answer)
    (plan_after old.plan line answer) (PlansNoLoss line) old new

-- the bench shows whether the units before the loss spell another record
pub record ShowsChance (area : Area) (chance : Bool) (d : Device) : Type 0 where
  pub loss : Loss
  pub last : d.last_loss ≡ Some loss
  pub is : chance ≡ chance_on d area loss

-- only an answer to an append says so
abbrev pub ReportsChance : Area → Line → Answer → Device → Type 0
ReportsChance area (Put body) (Lost units chance) d = ShowsChance area chance d
ReportsChance area line answer d = ⊤

-- the log that was open on the area appended the body, and that ended so
pub record AppendsOn (area : Area) (body : List ℕ) (end : Result ℕ LogFault) (old new : Device) : Type 0 where
  pub before : Ring
  pub after : Ring
  pub is_open : IsOpen old before
  pub same_area : before.area ≡ area
  pub ends : LogAppends old new before after body end

-- A record is put as the log appends it: the oldest records are dropped only if the record does not
-- fit and no sector but one is free.
abbrev pub PutsBy : Area → Line → Answer → Device → Device → Type 0
PutsBy area (Put body) (Appended units dropped) old new = AppendsOn area body (Ok dropped) old new
PutsBy area (Put body) (Lost units chance) old new = AppendsOn area body (Err PowerLost) old new
PutsBy area line answer old new = ⊤

-- An area that shows no damage is mounted: the erases that are due are carried out, some or all of
-- them if power is lost, and all items stay, the torn ones too. No more erases are due than before. At
-- rest nothing is done.
pub record MountsBy (area : Area) (answer : Answer) (old new : Device) : Type 0 where
  pub undamaged : ring_damage old area ≡ None
  pub at_most : units_of answer ≤ erases_on old area
  pub all : is_lost answer ≡ false → IsCounted new.spent → units_of answer ≡ erases_on old area
  pub items : KeepsItems old new area
  pub left : erases_on new area ≤ erases_on old area
  pub rests : erases_on old area ≡ 0 → (answer ≡ Done 0) × (new ≡ turned_on old)

-- the plan alone may differ
abbrev pub SameButPlan : Device → Device → Type 0
SameButPlan old new = new ≡ record old { plan = new.plan }

-- A line was carried out by the table. Except for the plan, the bench was touched in the area
-- alone: a power loss lies in it, and without a unit no byte changed. A line on the plan changes
-- nothing else, and one that lists the records changes nothing. A line leaves to the next mount no more
-- than before, or at most one erase.
pub record LineDone (area : Area) (line : Line) (answer : Answer) (old new : Device) : Type 0 where
  pub step : (last : ℕ) → new.spent ≤ last
      → Step (geometry_of old area) last line answer (state_of area old) (state_of area new)
  pub accounts : Accounts line answer old new
  pub keeps : Keeps (area ∷ []) old new
  pub touches : replan line ≡ keeps_plan → Touches (area ∷ []) (powered_for line old) new (is_lost answer)
  pub puts : PutsBy area line answer old new
  pub mounts : line ≡ Mount → MountsBy area answer old new
  pub reports : line ≡ Records → new ≡ old
  pub plans : (replan line ≡ keeps_plan → ⊥) → SameButPlan old new
  pub chance : ReportsChance area line answer new
  pub left : OwesUpTo boot_units area old new

-- only a loss in the last line says so
abbrev pub ReportsLastChance : Area → List Line → List Answer → Device → Type 0
ReportsLastChance area [] answers d = ⊤
ReportsLastChance area (line ∷ lines) [] d = ⊤
ReportsLastChance area (line ∷ []) (answer ∷ []) d = ReportsChance area line answer d
ReportsLastChance area (line ∷ lines) (answer ∷ answers) d = ReportsLastChance area lines answers d

-- a whole run of lines
pub record Runs (area : Area) (lines : List Line) (answers : List Answer) (old new : Device) : Type 0 where
  pub session : Follows (Step (geometry_of old area) new.spent) lines answers (state_of area old)
      (state_of area new)
  pub spent : old.spent + units_in answers ≡ new.spent
  pub losses : new.losses ≡ counted old.losses (losses_in answers)
  pub planned : IsCounted new.spent
      → Planned old.plan lines answers × (new.plan ≡ plan_through old.plan lines answers)
  pub keeps : Keeps (area ∷ []) old new
  pub unplanned : All PlansNoLoss lines → StaysUnplanned old new
  pub chance : ReportsLastChance area lines answers new
