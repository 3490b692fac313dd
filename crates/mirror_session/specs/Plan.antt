-- Units and losses in answers, and the plan of a loss, as for lines on settings. The replacement of
-- an area drops the plan.
use Rattle.std.specs.Prelude.{◌≢◌, ℕ, ⊤, Bool, List, [], ◌∷◌, sum_by, count_by}
use Rattle.flash_sim.specs.Device.{Plan}
use Rattle.script_lines.specs.declared.answer.Answer.{Answer as settings_answer}
use Rattle.script_lines.specs.declared.answer.Answer.TheVariants as settings
use Rattle.script_lines.specs.Plan as of_settings
use Rattle.script_lines.specs.Plan.{Replan}
use Rattle.script_lines.specs.Plan.Replan.{keeps, drops, plans}
use Rattle.mirror_session.specs.declared.line.Line.{Line}
use Rattle.mirror_session.specs.declared.line.Line.TheVariants.{Cut, Uncut, Blank}
use Rattle.mirror_session.specs.declared.answer.Answer.{Answer}
use Rattle.mirror_session.specs.declared.answer.Answer.TheVariants.{Plain}

-- an answer that only `blank` gives reports no unit and no loss, as `off` does
abbrev pub as_plain : Answer → settings_answer
as_plain (Plain answer) = answer
as_plain answer = settings.Off

abbrev pub units_of : Answer → ℕ
units_of answer = of_settings.units_of (as_plain answer)

abbrev pub is_lost : Answer → Bool
is_lost answer = of_settings.is_lost (as_plain answer)

abbrev pub units_in : List Answer → ℕ
units_in answers = sum_by units_of answers

abbrev pub losses_in : List Answer → ℕ
losses_in answers = count_by is_lost answers

-- how a line itself changes the plan
abbrev pub replan : Line → Answer → Replan
replan (Cut units) answer = plans units
replan Uncut answer = drops
replan (Blank label) (Plain (settings.Done units)) = drops
replan line answer = keeps

abbrev pub Allows : Plan → Answer → Type 0
Allows plan answer = of_settings.Allows plan (as_plain answer)

abbrev pub plan_after : Plan → Line → Answer → Plan
plan_after plan line answer = of_settings.plan_by (replan line answer) plan (as_plain answer)

abbrev pub Planned : Plan → List Line → List Answer → Type 0
Planned plan [] [] = ⊤
Planned plan (line ∷ lines) (answer ∷ answers) =
    Allows plan answer × Planned (plan_after plan line answer) lines answers
Planned plan [] (answer ∷ answers) = ⊥
Planned plan (line ∷ lines) [] = ⊥

abbrev pub plan_through : Plan → List Line → List Answer → Plan
plan_through plan (line ∷ lines) (answer ∷ answers) =
    plan_through (plan_after plan line answer) lines answers
plan_through plan lines answers = plan

-- the line plans no loss
abbrev pub PlansNoLoss : Line → Type 0
PlansNoLoss line = (answer : Answer) (units : ℕ) → replan line answer ≢ plans units
