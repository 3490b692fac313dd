-- Plans over lines.
use Rattle.std.proofs.Common.{◌≡◌, ◌≢◌, ℕ, Bool, true, false, [], ◌∷◌, MatchBool, refl, subst}
use Rattle.std.proofs.lemmas.List.Elements.{All-head, All-tail}
use Rattle.flash_sim.specs.Device.{Plan, Never, Lasts, LostAfter}
use Rattle.script_lines.specs.declared.answer.Answer.{Answer}
use Rattle.script_lines.specs.Plan.{units_of, is_lost, Replan, replan, plan_by, plan_after, Planned, PlansNoLoss, PlannedInParts, NoLossUnplanned}
use Rattle.script_lines.specs.Plan.Replan.{keeps, drops, plans}

pub in_parts : PlannedInParts
in_parts plan [] back [] second planned more = more
in_parts plan [] back (answer ∷ first) second planned more = absurd planned
in_parts plan (line ∷ prefix) back [] second planned more = absurd planned
in_parts plan (line ∷ prefix) back (answer ∷ first) second planned more = (planned.0, in_parts (plan_after plan line answer) prefix back first second planned.1 more)

none_lost : (lost : Bool) (units : ℕ) → MatchBool lost (LostAfter Never units) (Lasts Never units) → lost ≡ false
none_lost true units allows = absurd allows
none_lost false units allows = refl

none_planned : (next : Replan) (answer : Answer) → ((units : ℕ) → next ≢ plans units) → is_lost answer ≡ false → plan_by next Never answer ≡ Never
none_planned keeps answer none stands = rw stands
none_planned drops answer none stands = refl
none_planned (plans units) answer none stands = absurd (none units refl)

pub no_loss : NoLossUnplanned
no_loss [] [] all planned = refl
no_loss [] (answer ∷ answers) all planned = absurd planned
no_loss (line ∷ lines) [] all planned = absurd planned
no_loss (line ∷ lines) (answer ∷ answers) all planned =
    let stands : is_lost answer ≡ false = none_lost (is_lost answer) (units_of answer) planned.0 in
    let next : plan_after Never line answer ≡ Never = none_planned (replan line) answer (All-head PlansNoLoss line lines all) stands in
    rw stands (no_loss lines answers (All-tail PlansNoLoss line lines all) (subst (λ (plan : Plan). Planned plan lines answers) next planned.1))
