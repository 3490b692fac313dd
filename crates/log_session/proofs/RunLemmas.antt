-- What the clause of one line says of a run.
use Rattle.std.proofs.Common.{◌≡◌, ℕ, ◌≤◌, cond, List, [], ◌∷◌, refl, sym, ap, subst, ◌∙◌, arith}
use Rattle.std.specs.Prelude.{All}
use Rattle.std.proofs.lemmas.List.Sums.{sum_by-cons}
use Rattle.std.proofs.lemmas.List.Elements.{All-head, All-tail}
use Rattle.flash_sim.specs.Device.{Device, Plan, counted}
use Rattle.flash_sim.specs.declared.flash.Bank.{Bank}
use Rattle.flash_sim.specs.Bank.{bank_at}
use Rattle.flash_map.specs.declared.area.Area.{Area}
use Rattle.flash_map.specs.declared.area.Geometry.{Geometry}
use Rattle.flash_map.specs.Area.{geometry_of}
use Rattle.flash_map.specs.Touches.{IsInSome}
use Rattle.flash_map.proofs.Plans.{counted_counted}
use Rattle.session_table.specs.Follows.{Follows}
use Rattle.session_table.proofs.FollowsLemmas.{kept, summed}
use Rattle.log_session.specs.declared.line.Line.{Line}
use Rattle.log_session.specs.declared.answer.Answer.{Answer}
use Rattle.log_session.specs.Plan.{units_of, is_lost, losses_in, Planned, plan_through, PlansNoLoss}
use Rattle.session_table.specs.Bench.{Keeps, StaysUnplanned}
use Rattle.log_session.specs.LineDone.{LineDone, Runs, ReportsChance, ReportsLastChance, state_of}
use Rattle.log_session.specs.Laws.{LinesMakeRuns}
use Rattle.session_table.specs.Rules.{IsCounted}
use Rattle.log_session.specs.Step.{Step}

module _ (area : Area) where
  keeps_same : (d : Device) → Keeps (area ∷ []) d d
  keeps_same d = record { banks = refl; loads = refl; outside = λ bank offset out. refl }

  keeps_both : (a b c : Device) → Keeps (area ∷ []) a b → Keeps (area ∷ []) b c → Keeps (area ∷ []) a c
  keeps_both a b c one two = record {
    banks = two.banks ∙ one.banks;
    loads = two.loads ∙ one.loads;
    outside = λ bank offset out. two.outside bank offset (subst (λ (banks : List Bank). ¬ IsInSome banks bank offset (area ∷ [])) (sym one.banks) out) ∙ one.outside bank offset out;
  }

  spent_rises : (lines : List Line) (answers : List Answer) (old new : Device) → Follows (LineDone area) lines answers old new → old.spent ≤ new.spent
  spent_rises lines answers old new runs =
      kept (LineDone area) (λ a b. a.spent ≤ b.spent) (λ s. omega arith) (λ a b c one two. omega (arith, one, two))
      (λ line answer a b done. let spent = done.accounts.spent in omega (arith, spent)) lines answers old new runs

  same_geometry : (old new : Device) → new.banks ≡ old.banks → geometry_of new area ≡ geometry_of old area
  same_geometry old new same =
      ap (λ (banks : List Bank). record { unit = (bank_at banks area.bank).unit; sector = (bank_at banks area.bank).sector; sectors = area.sectors; kind = (bank_at banks area.bank).kind }) same

  -- the table, where the count of units is no more than so much
  session_of : (geometry : Geometry) (last : ℕ) (lines : List Line) (answers : List Answer) (old new : Device) → geometry_of old area ≡ geometry → new.spent ≤ last → Follows (LineDone area) lines answers old new
      → Follows (Step geometry last) lines answers (state_of area old) (state_of area new)
  session_of geometry last [] [] old new is within same = ap (state_of area) same
  session_of geometry last [] (answer ∷ answers) old new is within none = absurd none
  session_of geometry last (line ∷ lines) [] old new is within none = absurd none
  session_of geometry last (line ∷ lines) (answer ∷ answers) old new is within runs =
      let mid : Device = runs.0 in
      let rises = spent_rises lines answers mid new runs.2 in
      let head = runs.1.step last (omega (arith, rises, within)) in (
        state_of area mid,
        subst (λ (g : Geometry). Step g last line answer (state_of area old) (state_of area mid)) is head,
        session_of geometry last lines answers mid new (same_geometry old mid runs.1.keeps.banks ∙ is) within runs.2,
      )

  losses_of : (lines : List Line) (answers : List Answer) (old new : Device) → Follows (LineDone area) lines answers old new → new.losses ≡ counted old.losses (losses_in answers)
  losses_of [] [] old new same = ap (λ (d : Device). d.losses) same ∙ omega arith
  losses_of [] (answer ∷ answers) old new none = absurd none
  losses_of (line ∷ lines) [] old new none = absurd none
  losses_of (line ∷ lines) (answer ∷ answers) old new runs =
      losses_of lines answers runs.0 new runs.2
      ∙ ap (λ (n : ℕ). counted n (losses_in answers)) runs.1.accounts.losses
      ∙ counted_counted old.losses (cond (is_lost answer) 1 0) (losses_in answers)
      ∙ ap (counted old.losses) (sym (sum_by-cons (λ (a : Answer). cond (is_lost a) 1 0) answer answers))

  planned_of : (lines : List Line) (answers : List Answer) (old new : Device) → IsCounted new.spent → Follows (LineDone area) lines answers old new
      → Planned old.plan lines answers × (new.plan ≡ plan_through old.plan lines answers)
  planned_of [] [] old new counts same = (tt, ap (λ (d : Device). d.plan) same)
  planned_of [] (answer ∷ answers) old new counts none = absurd none
  planned_of (line ∷ lines) [] old new counts none = absurd none
  planned_of (line ∷ lines) (answer ∷ answers) old new counts runs =
      let rises = spent_rises lines answers runs.0 new runs.2 in
      let mid : IsCounted runs.0.spent = omega (arith, rises, counts) in
      let tail = planned_of lines answers runs.0 new counts runs.2 in (
        (runs.1.accounts.allows mid, subst (λ (plan : Plan). Planned plan lines answers) (runs.1.accounts.plan mid) tail.0),
        tail.1 ∙ ap (λ (plan : Plan). plan_through plan lines answers) (runs.1.accounts.plan mid),
      )

  unplanned_of : (lines : List Line) (answers : List Answer) (old new : Device) → Follows (LineDone area) lines answers old new → All PlansNoLoss lines → StaysUnplanned old new
  unplanned_of [] [] old new same free never = (ap (λ (d : Device). d.plan) same ∙ never, ap (λ (d : Device). d.losses) same)
  unplanned_of [] (answer ∷ answers) old new none free never = absurd none
  unplanned_of (line ∷ lines) [] old new none free never = absurd none
  unplanned_of (line ∷ lines) (answer ∷ answers) old new runs free never =
      let head = runs.1.accounts.unplanned (All-head PlansNoLoss line lines free) never in
      let tail = unplanned_of lines answers runs.0 new runs.2 (All-tail PlansNoLoss line lines free) head.0 in
      (tail.0, tail.1 ∙ head.1)

  chance_of : (lines : List Line) (answers : List Answer) (old new : Device) → Follows (LineDone area) lines answers old new → ReportsLastChance area lines answers new
  chance_of [] [] old new same = tt
  chance_of [] (answer ∷ answers) old new none = absurd none
  chance_of (line ∷ lines) [] old new none = absurd none
  chance_of (line ∷ []) (answer ∷ []) old new runs = subst (λ (d : Device). ReportsChance area line answer d) (sym runs.2) runs.1.chance
  chance_of (line ∷ []) (answer ∷ also ∷ answers) old new runs = absurd runs.2
  chance_of (line ∷ next ∷ lines) (answer ∷ []) old new runs = absurd runs.2
  chance_of (line ∷ next ∷ lines) (answer ∷ also ∷ answers) old new runs = chance_of (next ∷ lines) (also ∷ answers) runs.0 new runs.2

  pub runs_of : (lines : List Line) (answers : List Answer) (old new : Device) → Follows (LineDone area) lines answers old new → Runs area lines answers old new
  runs_of lines answers old new runs = record {
    session = session_of (geometry_of old area) new.spent lines answers old new refl (omega arith) runs;
    spent = summed (LineDone area) (λ d. d.spent) units_of (λ line answer a b done. done.accounts.spent) lines answers old new runs;
    losses = losses_of lines answers old new runs;
    planned = λ counts. planned_of lines answers old new counts runs;
    keeps = kept (LineDone area) (Keeps (area ∷ [])) keeps_same keeps_both (λ line answer a b done. done.keeps) lines answers old new runs;
    unplanned = unplanned_of lines answers old new runs;
    chance = chance_of lines answers old new runs;
  }

pub lines_make_runs : LinesMakeRuns
lines_make_runs area lines answers old new runs = runs_of area lines answers old new runs
