-- Counts and plan of a call on areas.
use Rattle.std.proofs.Common.{◌≡◌, ◌-◌, Bool, true, false, List, sym, ap, subst, ◌∙◌}
use Rattle.flash_sim.specs.Device.{Device}
use Rattle.flash_map.specs.declared.area.Area.{Area}
use Rattle.flash_map.specs.Touches.{Touches}
use Rattle.script_lines.specs.Plan.{Replan, plan_by}
use Rattle.script_lines.specs.Plan.Replan.{keeps}
use Rattle.mirror_session.specs.declared.line.Line.{Line}
use Rattle.mirror_session.specs.declared.answer.Answer.{Answer}
use Rattle.mirror_session.specs.Plan.{as_plain, units_of, is_lost, PlansNoLoss, replan, plan_after}
use Rattle.mirror_session.specs.LineDone.{Accounts, Keeps}
use Rattle.session_table.proofs.CountLemmas.{counted_none, counts, lasted}

-- what a call on the areas leaves alone
pub kept_beside : (areas : List Area) (old new : Device) (cut : Bool) → Touches areas old new cut → Keeps areas 0 old new
kept_beside areas old new cut touches = record { banks = touches.banks; loaded = touches.loads ∙ counted_none old.loads; outside = touches.outside }

-- a call in which power lasted
pub kept : (areas : List Area) (line : Line) (answer : Answer) (old new : Device) → Touches areas old new false → replan line answer ≡ keeps → is_lost answer ≡ false → units_of answer ≡ new.spent - old.spent
    → Accounts line answer old new
kept areas line answer old new touches stays lasts units =
    counts areas (units_of answer) (is_lost answer) (plan_after old.plan line answer) (PlansNoLoss line) old new (subst (λ (b : Bool). Touches areas old new b) (sym lasts) touches)
    (lasted (is_lost answer) old lasts) units (ap (λ (n : Replan). plan_by n old.plan (as_plain answer)) stays)

-- a call in which power was lost
pub lost : (areas : List Area) (line : Line) (answer : Answer) (old new : Device) → old.is_on ≡ true → Touches areas old new true → replan line answer ≡ keeps → is_lost answer ≡ true → units_of answer ≡ new.spent - old.spent
    → Accounts line answer old new
lost areas line answer old new on touches stays is units =
    counts areas (units_of answer) (is_lost answer) (plan_after old.plan line answer) (PlansNoLoss line) old new (subst (λ (b : Bool). Touches areas old new b) (sym is) touches)
    (λ cut. on) units (ap (λ (n : Replan). plan_by n old.plan (as_plain answer)) stays)
