-- How lines end.
use Rattle.std.specs.Prelude.{◌≡◌, ◌⊎◌, ⊤, ℕ, ◌+◌, ◌≤◌, ◌||◌, Bool, true, false, Some, Result, Ok, Err, List, [], ◌∷◌, ◌++◌, length, if◌then◌else◌, All}
use Rattle.std.specs.FinMap as finite
use Rattle.std.specs.List.{slice_get}
use Rattle.flash_sim.specs.Device.{Device, counted}
use Rattle.flash_map.specs.declared.area.Area.{Area}
use Rattle.flash_map.specs.On.{on}
use Rattle.flash_map.specs.Spending.{SpendsAtMost}
use Rattle.flash_map.specs.Touches.{Touches}
use Rattle.backend_api.specs.Map.{Map}
use Rattle.flash_map.specs.declared.faults.Damaged.{Damaged as Found}
use Rattle.migrator.specs.Active.{selector_damage_on}
use Rattle.migrator.specs.Areas.{selector_of}
use Rattle.mirror.specs.Mounting.{FindsDamage, IsUnfit, LacksMemory, SparesAreas, both_units, other_place, trust_units}
use Rattle.mirror.specs.Owing.{MountsOwed, naming_units}
use Rattle.mirror.specs.Trusted.{MirrorReads, damage_shown, trusted_on}
use Rattle.script_lines.specs.declared.answer.Answer.TheVariants as settings
use Rattle.session_table.specs.Bench.{area_at, StaysUnplanned}
use Rattle.session_table.specs.Follows.{Follows}
use Rattle.mirror_session.specs.declared.line.Line.{Line}
use Rattle.mirror_session.specs.declared.line.Line.TheVariants.{Get, Names, Mount, Blank}
use Rattle.mirror_session.specs.declared.answer.Answer.{Answer}
use Rattle.mirror_session.specs.declared.answer.Answer.TheVariants.{Plain}
use Rattle.mirror_session.specs.Plan.{units_in, losses_in, Planned, plan_through, PlansNoLoss}
use Rattle.mirror_session.specs.declared.fault.SessionFault.{SessionFault}
use Rattle.mirror_session.specs.declared.fault.SessionFault.TheVariants.{Damaged, Unfit, NoMemory}
use Rattle.mirror_session.specs.Bench.{Meanings, Moment, labelled, moment, rules_of, state_of}
use Rattle.mirror_session.specs.Standing.{AtRest, RestsNow}
use Rattle.mirror_session.specs.LineDone.{BothNow, FitNow, FitsBoth, Keeps, LineDone, replaces}
use Rattle.session.specs.OnMap.{turned_on}
use Rattle.session_table.specs.Rules.{IsCounted}
use Rattle.mirror_session.specs.State.{IsOn}
use Rattle.mirror_session.specs.Step.{Step, needs_power}

-- how many areas were replaced
abbrev pub replaced_in : List Line → List Answer → ℕ
replaced_in (line ∷ lines) (answer ∷ answers) =
    (if replaces line answer then 1 else 0) + replaced_in lines answers
replaced_in lines answers = 0

-- Lines were carried out one after another. As a whole they follow the table; the counts, the plan
-- and the bytes of the bench are as the answers say.
pub record Ran (m : Meanings) (areas : List Area) (lines : List Line) (answers : List Answer)
    (old new : Moment) : Type 0 where
  pub in_turn : Follows (LineDone m areas) lines answers old new
  pub session : Follows (Step (rules_of m areas old.device.banks new.device.spent)) lines answers
      (state_of m areas old) (state_of m areas new)
  pub spent : old.device.spent + units_in answers ≡ new.device.spent
  pub losses : new.device.losses ≡ counted old.device.losses (losses_in answers)
  pub planned :
      IsCounted new.device.spent
      → Planned old.device.plan lines answers × (new.device.plan ≡ plan_through old.device.plan lines answers)
  pub keeps : Keeps areas (replaced_in lines answers) old.device new.device
  pub unplanned : All PlansNoLoss lines → StaysUnplanned old.device new.device
  pub both : BothNow m areas old → BothNow m areas new

-- ---- lines that stop

-- carrying the line out takes memory
abbrev pub takes_memory : Line → Bool
takes_memory (Get name) = true
takes_memory Names = true
takes_memory Mount = true
takes_memory (Blank label) = true
takes_memory line = false

-- What a mount that stops leaves, whatever it stopped for. It turned power on, and changed nothing
-- outside the areas of the map. The same area is read, as the same map, and is not formatted. At rest
-- nothing changes, and the other area, if it holds the settings that are read, is neither repaired nor
-- formatted. The selector keeps its records if it names the area that is read; else it gets exactly one
-- more. No more is spent than a mount may, nor than what the areas owed and one repair. The area that is
-- read owes no more than before, nor does the other one if it holds the same settings.
pub record MountStops (m : Meanings) (areas : List Area) (old new : Device) : Type 0 where
  pub touches : Touches areas (turned_on old) new false
  pub read : trusted_on areas new ≡ trusted_on areas old
  pub keeps : (settings : Map) → MirrorReads m.damage m.contents areas old settings
      → MirrorReads m.damage m.contents areas new settings
  pub rests : AtRest m areas old → new ≡ turned_on old
  pub copy : (selector trusted other : Area) → selector_of areas ≡ Some selector
      → slice_get areas (trusted_on areas old) ≡ Some trusted
      → slice_get areas (other_place areas (trusted_on areas old)) ≡ Some other
      → SparesAreas m.damage m.contents m.rests areas false (turned_on old) new selector trusted other
  pub at_most : (selector trusted other : Area) → selector_of areas ≡ Some selector
      → slice_get areas (trusted_on areas old) ≡ Some trusted
      → slice_get areas (other_place areas (trusted_on areas old)) ≡ Some other
      → SpendsAtMost (turned_on old) new
      (trust_units old selector + both_units old trusted other (finite.len (on m.contents old trusted)))
  pub owed : (selector trusted other : Area) → selector_of areas ≡ Some selector
      → slice_get areas (trusted_on areas old) ≡ Some trusted
      → slice_get areas (other_place areas (trusted_on areas old)) ≡ Some other
      → MountsOwed m.owes m.damage m.contents (naming_units areas old selector) (turned_on old) new trusted
      other

-- A mount found this damage. It changed nothing outside the selector's area, the same damage is shown
-- afterwards, and the selector names the area that it named or the one that is read.
abbrev pub MountFindsDamage : Meanings → List Area → Device → Device → ℕ → Found → Type 0
MountFindsDamage m areas old new place damaged =
    (selector : Area) → selector_of areas ≡ Some selector
    → FindsDamage m.damage m.contents areas selector (turned_on old) new place damaged

-- Memory ran out in a mount. The selector was sound. An area that is read and damaged is left as by a
-- mount that finds its damage.
abbrev pub MountLacksMemory : Meanings → List Area → Device → Device → Type 0
MountLacksMemory m areas old new =
    (selector : Area) → selector_of areas ≡ Some selector
    → LacksMemory m.damage m.contents areas selector (turned_on old) new

-- How a line for which memory ran out leaves the bench: a mount has begun; no other line changed it.
abbrev pub BeginsLine : Meanings → List Area → Line → Device → Device → Type 0
BeginsLine m areas Mount old new = MountStops m areas old new × MountLacksMemory m areas old new
BeginsLine m areas line old new = new ≡ old

-- `blank` has found its area: power is off, the last mount was whole, no area was replaced after it, and a
-- store area has the label.
abbrev pub FindsArea : List Area → Line → Moment → Type 0
FindsArea areas (Blank label) now =
    (now.device.is_on ≡ false) × (now.whole ≡ true) × ((place : ℕ) × (labelled areas label ≡ Some place))
FindsArea areas line now = ⊤

-- a damaged selector stays as it is
abbrev pub LeavesDamagedSelector : List Area → Device → Device → Type 0
LeavesDamagedSelector areas old new =
    (found : Found) → selector_damage_on areas old ≡ Some found → new ≡ turned_on old

-- the settings of the mirror do not fit both areas
abbrev pub FindsNoFit : Meanings → List Area → Device → Type 0
FindsNoFit m areas d = ¬ FitsBoth m areas d.banks (on m.contents d (area_at areas (trusted_on areas d)))

-- Why a line was not carried out, and what it left: a mount found the damage that the map shows, or
-- settings that do not fit one of the areas; or memory ran out for a line that takes some. A line that
-- needs power answers `off` in place of that, unless power is on, the last mount was whole, and no area was
-- replaced after it. Nor does memory run out for `blank` before it has found its area.
abbrev pub LineStops : Meanings → List Area → Line → Moment → Device → SessionFault → Type 0
LineStops m areas line old new (Damaged place damaged) =
    (line ≡ Mount) × (damage_shown m.damage areas old.device ≡ Some (place, damaged))
    × MountFindsDamage m areas old.device new place damaged × LeavesDamagedSelector areas old.device new
    × MountStops m areas old.device new
LineStops m areas line old new (Unfit place) =
    (line ≡ Mount) × IsUnfit m.damage m.contents m.room m.prices areas (turned_on old.device) new place
    × FindsNoFit m areas old.device × MountStops m areas old.device new
LineStops m areas line old new NoMemory =
    (takes_memory line ≡ true) × (needs_power line ≡ true → IsOn (state_of m areas old))
    × FindsArea areas line old × BeginsLine m areas line old.device new

-- ---- all lines

-- lines were carried out, and memory ran out for the answer to the last of them
abbrev pub LacksAnswer : List Line → Device → Device → SessionFault → Type 0
LacksAnswer prefix old new fault = (1 ≤ length prefix) × (fault ≡ NoMemory) × (new ≡ old)

-- After the first lines the next one stopped; or memory ran out for the answer to the line before.
abbrev pub StopsAt : Meanings → List Area → List Line → List Line → Moment → Device → SessionFault → Type 0
StopsAt m areas prefix [] old new fault = LacksAnswer prefix old.device new fault
StopsAt m areas prefix (line ∷ lines) old new fault =
    LacksAnswer prefix old.device new fault ⊎ LineStops m areas line old new fault

-- a mount among these lines was whole
abbrev pub is_mounted : Line → Answer → Bool
is_mounted Mount (Plain (settings.Done units)) = true
is_mounted line answer = false

abbrev pub mounted_in : List Line → List Answer → Bool
mounted_in (line ∷ lines) (answer ∷ answers) = is_mounted line answer || mounted_in lines answers
mounted_in lines answers = false

-- a mount found settings that do not fit
abbrev pub ReportsUnfit : SessionFault → Type 0
ReportsUnfit (Damaged place damaged) = ⊥
ReportsUnfit (Unfit place) = ⊤
ReportsUnfit NoMemory = ⊥

-- The first lines were carried out, and then a line stopped. No mount after a whole one finds
-- settings that do not fit, and none does if the settings fitted both areas when the lines began.
pub record RunStops (m : Meanings) (areas : List Area) (lines : List Line) (old : Moment) (new : Device)
    (fault : SessionFault) : Type 0 where
  pub prefix : List Line
  pub rest : List Line
  pub are : lines ≡ prefix ++ rest
  pub answers : List Answer
  pub mid : Moment
  pub runs : Ran m areas prefix answers old mid
  pub stops : StopsAt m areas prefix rest mid new fault
  pub early : ReportsUnfit fault → mounted_in prefix answers ≡ false
  pub fitting : ReportsUnfit fault → ¬ FitNow m areas old

-- How lines end: all were carried out, with these answers, or one stopped. After the last line
-- a mount has nothing to do, if power is on.
abbrev pub RunEnds : Meanings → List Area → List Line → Moment → Device → Result (List Answer) SessionFault
    → Type 0
RunEnds m areas lines old new (Ok answers) =
    (whole : Bool) × Ran m areas lines answers old (moment new whole) × RestsNow m areas (moment new whole)
RunEnds m areas lines old new (Err fault) = RunStops m areas lines old new fault
