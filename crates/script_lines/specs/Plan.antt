-- Units and losses in answers, and the plan of a loss.
use Rattle.std.specs.Prelude.{◌≡◌, ◌≢◌, ℕ, ⊤, Bool, true, false, List, [], ◌∷◌, ◌++◌, All, sum_by, count_by, if◌then◌else◌, MatchBool}
use Rattle.flash_sim.specs.Device.{Plan, Never, After, Lasts, LostAfter, lowered, dropped, replanned}
use Rattle.script_lines.specs.declared.line.Line.{Line}
use Rattle.script_lines.specs.declared.line.Line.TheVariants.{Cut, Uncut}
use Rattle.script_lines.specs.declared.answer.Answer.{Answer}
use Rattle.script_lines.specs.declared.answer.Answer.TheVariants.{Done, Lost, NoSpace, TooMany, Saved}

abbrev pub units_of : Answer → ℕ
units_of (Done units) = units
units_of (Lost units chance) = units
units_of (NoSpace units need live) = units
units_of (TooMany units) = units
units_of (Saved pairs units end) = units
units_of _ = 0

abbrev pub is_lost : Answer → Bool
is_lost (Lost units chance) = true
is_lost _ = false

abbrev pub units_in : List Answer → ℕ
units_in answers = sum_by units_of answers

abbrev pub losses_in : List Answer → ℕ
losses_in answers = count_by is_lost answers

-- how a line itself changes the plan
pub data Replan : Type 0 where
  keeps : Replan
  drops : Replan
  plans : ℕ → Replan

abbrev pub replan : Line → Replan
replan (Cut units) = plans units
replan Uncut = drops
replan _ = keeps

-- the plan lasts through the answer's units; or they use it up, exactly if power is lost
abbrev pub Allows : Plan → Answer → Type 0
Allows plan answer =
    MatchBool (is_lost answer) (LostAfter plan (units_of answer)) (Lasts plan (units_of answer))

abbrev pub after_answer : Plan → Answer → Plan
after_answer plan answer = if is_lost answer then dropped plan else lowered plan (units_of answer)

abbrev pub plan_by : Replan → Plan → Answer → Plan
plan_by keeps plan answer = after_answer plan answer
plan_by drops plan answer = dropped plan
plan_by (plans units) plan answer = replanned plan (After units)

abbrev pub plan_after : Plan → Line → Answer → Plan
plan_after plan line answer = plan_by (replan line) plan answer

abbrev pub Planned : Plan → List Line → List Answer → Type 0
Planned plan [] [] = ⊤
Planned plan (line ∷ lines) (answer ∷ answers) =
    Allows plan answer × Planned (plan_after plan line answer) lines answers
Planned plan [] (answer ∷ answers) = ⊥
Planned plan (line ∷ lines) [] = ⊥

abbrev pub plan_through : Plan → List Line → List Answer → Plan
plan_through plan (line ∷ lines) (answer ∷ answers) =
    plan_through (plan_after plan line answer) lines answers
plan_through plan lines answers = plan

-- the line plans no loss
abbrev pub PlansNoLoss : Line → Type 0
PlansNoLoss line = (units : ℕ) → replan line ≢ plans units

-- what holds of some lines and of the next ones holds of all
abbrev pub PlannedInParts : Type 0
PlannedInParts = (plan : Plan) (prefix back : List Line) (first second : List Answer)
    → Planned plan prefix first → Planned (plan_through plan prefix first) back second
    → Planned plan (prefix ++ back) (first ++ second)

-- with no plan at first, power is lost only if a line plans it
abbrev pub NoLossUnplanned : Type 0
NoLossUnplanned = (lines : List Line) (answers : List Answer)
    → All PlansNoLoss lines → Planned Never lines answers → losses_in answers ≡ 0
