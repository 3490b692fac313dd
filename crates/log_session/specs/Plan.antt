-- Units and losses in answers, and the plan of a loss.
use Rattle.std.specs.Prelude.{◌≢◌, ℕ, ⊤, Bool, true, false, List, [], ◌∷◌, MatchBool, sum_by, count_by, if◌then◌else◌}
use Rattle.flash_sim.specs.Device.{Plan, After, Lasts, LostAfter, lowered, dropped, replanned}
use Rattle.script_lines.specs.Plan.{Replan}
use Rattle.script_lines.specs.Plan.Replan.{keeps, drops, plans}
use Rattle.log_session.specs.declared.line.Line.{Line}
use Rattle.log_session.specs.declared.line.Line.TheVariants.{Cut, Uncut}
use Rattle.log_session.specs.declared.answer.Answer.{Answer}
use Rattle.log_session.specs.declared.answer.Answer.TheVariants.{Done, Appended, Lost}

abbrev pub units_of : Answer → ℕ
units_of (Done units) = units
units_of (Appended units dropped) = units
units_of (Lost units chance) = units
units_of _ = 0

abbrev pub is_lost : Answer → Bool
is_lost (Lost units chance) = true
is_lost _ = false

abbrev pub units_in : List Answer → ℕ
units_in answers = sum_by units_of answers

abbrev pub losses_in : List Answer → ℕ
losses_in answers = count_by is_lost answers

-- how a line itself changes the plan
abbrev pub replan : Line → Replan
replan (Cut units) = plans units
replan Uncut = drops
replan _ = keeps

-- the plan lasts through the answer's units; or they use it up, exactly if power is lost
abbrev pub Allows : Plan → Answer → Type 0
Allows plan answer =
    MatchBool (is_lost answer) (LostAfter plan (units_of answer)) (Lasts plan (units_of answer))

abbrev pub after_answer : Plan → Answer → Plan
after_answer plan answer = if is_lost answer then dropped plan else lowered plan (units_of answer)

abbrev pub plan_by : Replan → Plan → Answer → Plan
plan_by keeps plan answer = after_answer plan answer
plan_by drops plan answer = dropped plan
plan_by (plans units) plan answer = replanned plan (After units)

abbrev pub plan_after : Plan → Line → Answer → Plan
plan_after plan line answer = plan_by (replan line) plan answer

abbrev pub Planned : Plan → List Line → List Answer → Type 0
Planned plan [] [] = ⊤
Planned plan (line ∷ lines) (answer ∷ answers) =
    Allows plan answer × Planned (plan_after plan line answer) lines answers
Planned plan [] (answer ∷ answers) = ⊥
Planned plan (line ∷ lines) [] = ⊥

abbrev pub plan_through : Plan → List Line → List Answer → Plan
plan_through plan (line ∷ lines) (answer ∷ answers) =
    plan_through (plan_after plan line answer) lines answers
plan_through plan lines answers = plan

-- the line plans no loss
abbrev pub PlansNoLoss : Line → Type 0
PlansNoLoss line = (units : ℕ) → replan line ≢ plans units
