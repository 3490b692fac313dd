-- How lines change a bench and its handlers.
use Rattle.std.specs.Prelude.{◌≡◌, ℕ, ◌+◌, ◌≤◌, ⊤, Bool, true, false, List, [], ◌∷◌, ◌++◌, length, map, filter, filter_map, slice_index_or, Some, if◌then◌else◌, All}
use Rattle.std.specs.List.{range_with_len}
use Rattle.flash_sim.specs.Bank.{bank_at}
use Rattle.flash_sim.specs.Device.{Device, Plan, Never, counted}
use Rattle.flash_sim.specs.declared.flash.Bank.{Bank}
use Rattle.flash_sim.specs.declared.flash.Loss.{Loss}
use Rattle.flash_map.specs.declared.area.Area.{Area}
use Rattle.flash_map.specs.declared.area.Geometry.{Geometry}
use Rattle.flash_map.specs.declared.area.Role.{Role}
use Rattle.flash_map.specs.declared.area.Role.TheVariants.{Sel}
use Rattle.flash_map.specs.Touches.{SameOutside}
use Rattle.migrator.specs.Active.{active_on}
use Rattle.migrator.specs.Areas.{target}
use Rattle.handlers.specs.declared.handler.HandlerKind.{HandlerKind}
use Rattle.handlers.specs.Registry.{Registered}
use Rattle.backend_api.specs.Commands.{Command}
use Rattle.backend_api.specs.Map.{Map}
use Rattle.flash_map.specs.On.{on}
use Rattle.backend_api.specs.Room.{Room}
use Rattle.script_lines.specs.declared.line.Line.{Line}
use Rattle.script_lines.specs.declared.line.Line.TheVariants.{Set, Del as Delete, Save, Mount, Migrate}
use Rattle.script_lines.specs.declared.answer.Answer.{Answer}
use Rattle.script_lines.specs.declared.answer.Answer.TheVariants.{Done, Lost, Off, NoTarget}
use Rattle.script_lines.specs.Plan.{units_of, is_lost, units_in, losses_in, Allows, plan_after, Planned, plan_through, PlansNoLoss}
use Rattle.session_table.specs.Follows.{Follows}
use Rattle.session_table.specs.Rules.{Rules, IsCounted}
use Rattle.session_table.specs.State.{State}
use Rattle.session_table.specs.Step.{Step}

-- What the bytes of areas mean to the stores that work on them, by the area's role.
pub record Meanings : Type 1 where
  pub contents : Area → Geometry → List (List ℕ) → Map
  pub room : Area → Geometry → Room
  pub chance : Area → Geometry → List (List ℕ) → Loss → Bool
  pub tears : Area → Geometry → Command → ℕ → Map → Map → Type 0

-- ---- areas

abbrev pub area_at : List Area → ℕ → Area
area_at areas place =
    slice_index_or areas place
    (record {
      label = record { bytes = []; spare = [] };
      role = Sel;
      bank = 0;
      first = 0;
      sectors = 0;
      version = 1;
    })

abbrev pub is_selector : Role → Bool
is_selector Sel = true
is_selector role = false

-- the places of the areas of a role like this
abbrev pub places_of : (Role → Bool) → List Area → List ℕ
places_of is areas = filter (λ place. is (area_at areas place).role) (range_with_len 0 (length areas))

abbrev pub geometry_in : List Bank → Area → Geometry
geometry_in banks area =
    record {
      unit = (bank_at banks area.bank).unit;
      sector = (bank_at banks area.bank).sector;
      sectors = area.sectors;
      kind = (bank_at banks area.bank).kind;
    }

-- the rules of these areas, for a run whose last count of units is `last`
abbrev pub rules_of : Meanings → List Area → List Bank → ℕ → Rules
rules_of m areas banks last = record {
  target = target areas;
  label = λ place. (area_at areas place).label.bytes;
  geometry = λ place. geometry_in banks (area_at areas place);
  room = λ place. m.room (area_at areas place) (geometry_in banks (area_at areas place));
  tears = λ place. m.tears (area_at areas place) (geometry_in banks (area_at areas place));
  last = last;
}

-- ---- states

-- a bench, its registered handlers, and the kinds of those that are left
pub record Moment : Type 0 where
  pub device : Device
  pub registry : List Registered
  pub pool : List HandlerKind

abbrev pub state_of : Meanings → List Area → Moment → State
state_of m areas now = record {
  settings = on m.contents now.device (area_at areas (active_on areas now.device));
  is_on = now.device.is_on;
  registry = now.registry;
  pool = now.pool;
  active = active_on areas now.device;
}

-- ---- which areas change

-- the places of the areas that a line works on, if one of `actives` is active
abbrev pub worked_on : Rules → List ℕ → Line → Answer → List ℕ → List ℕ
worked_on r selector line Off actives = []
worked_on r selector (Set name value) answer actives = actives
worked_on r selector (Delete name) answer actives = actives
worked_on r selector (Save subtree) answer actives = actives
worked_on r selector Mount answer actives = selector ++ actives
worked_on r selector Migrate NoTarget actives = []
worked_on r selector Migrate answer actives = selector ++ filter_map r.target actives
worked_on r selector line answer actives = []

-- the places of the areas that may be active after it
abbrev pub actives_after : Rules → Line → Answer → List ℕ → List ℕ
actives_after r Migrate (Done units) actives = filter_map r.target actives
actives_after r Migrate (Lost units chance) actives = actives ++ filter_map r.target actives
actives_after r line answer actives = actives

abbrev pub all_worked_on : Rules → List ℕ → List Line → List Answer → List ℕ → List ℕ
all_worked_on r selector [] answers actives = []
all_worked_on r selector (line ∷ lines) [] actives = []
all_worked_on r selector (line ∷ lines) (answer ∷ answers) actives =
    worked_on r selector line answer actives
    ++ all_worked_on r selector lines answers (actives_after r line answer actives)

-- the banks, the count of loads, and each byte outside these areas stay
pub record Keeps (areas : List Area) (old new : Device) : Type 0 where
  pub banks : new.banks ≡ old.banks
  pub loads : new.loads ≡ old.loads
  pub outside : SameOutside areas old new

-- ---- one line

-- if no loss is planned, none comes, and none is planned afterwards
abbrev pub StaysUnplanned : Device → Device → Type 0
StaysUnplanned old new = old.plan ≡ Never → (new.plan ≡ Never) × (new.losses ≡ old.losses)

-- The counts and the plan after a line: `units` were spent, power was lost or not, the old plan allows
-- that, and the plan is the new one. A line that plans no loss leaves it so.
pub record CountsAndPlan (units : ℕ) (was_lost : Bool) (allowed : Type 0) (planned : Plan)
    (plans_none : Type 0) (old new : Device) : Type 0 where
  pub spent : old.spent + units ≡ new.spent
  pub losses : new.losses ≡ counted old.losses (if was_lost then 1 else 0)
  pub allows : IsCounted new.spent → allowed
  pub plan : IsCounted new.spent → new.plan ≡ planned
  pub unplanned : plans_none → StaysUnplanned old new

-- the counts and the plan after a line on settings
abbrev pub Accounts : Line → Answer → Device → Device → Type 0
Accounts line answer old new =
    CountsAndPlan (units_of answer) (is_lost answer) (Allows old.plan answer)
    (plan_after old.plan line answer) (PlansNoLoss line) old new

-- the bench shows whether the units before the loss spell another record
pub record ShowsChance (m : Meanings) (area : Area) (chance : Bool) (d : Device) : Type 0 where
  pub loss : Loss
  pub last : d.last_loss ≡ Some loss
  pub is : chance ≡ on m.chance d area loss

-- only an answer to a command says so
abbrev pub ReportsChance : Meanings → List Area → Line → Answer → Device → Type 0
ReportsChance m areas Mount answer d = ⊤
ReportsChance m areas Migrate answer d = ⊤
ReportsChance m areas line (Lost units chance) d = ShowsChance m (area_at areas (active_on areas d)) chance d
ReportsChance m areas line answer d = ⊤

pub record LineDone (m : Meanings) (areas : List Area) (line : Line) (answer : Answer) (old new : Moment) :
    Type 0 where
  pub step : (last : ℕ) → new.device.spent ≤ last
      → Step (rules_of m areas old.device.banks last) line answer (state_of m areas old)
      (state_of m areas new)
  pub accounts : Accounts line answer old.device new.device
  pub keeps : Keeps
      (map (area_at areas)
      (worked_on (rules_of m areas old.device.banks 0) (places_of is_selector areas) line answer
      (active_on areas old.device ∷ []))) old.device new.device
  pub chance : ReportsChance m areas line answer new.device

-- ---- a run

-- only a loss in the last line says so
abbrev pub ReportsLastChance : Meanings → List Area → List Line → List Answer → Device → Type 0
ReportsLastChance m areas [] answers d = ⊤
ReportsLastChance m areas (line ∷ lines) [] d = ⊤
ReportsLastChance m areas (line ∷ []) (answer ∷ []) d = ReportsChance m areas line answer d
ReportsLastChance m areas (line ∷ lines) (answer ∷ answers) d = ReportsLastChance m areas lines answers d

pub record Runs (m : Meanings) (areas : List Area) (lines : List Line) (answers : List Answer)
    (old new : Moment) : Type 0 where
  pub session : Follows (Step (rules_of m areas old.device.banks new.device.spent)) lines answers
      (state_of m areas old) (state_of m areas new)
  pub spent : old.device.spent + units_in answers ≡ new.device.spent
  pub losses : new.device.losses ≡ counted old.device.losses (losses_in answers)
  pub planned : IsCounted new.device.spent
      → Planned old.device.plan lines answers × (new.device.plan ≡ plan_through old.device.plan lines answers)
  pub keeps : Keeps
      (map (area_at areas)
      (all_worked_on (rules_of m areas old.device.banks 0) (places_of is_selector areas) lines answers
      (active_on areas old.device ∷ []))) old.device new.device
  pub unplanned : All PlansNoLoss lines → StaysUnplanned old.device new.device
  pub chance : ReportsLastChance m areas lines answers new.device
