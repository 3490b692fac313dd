-- What the clause of one line says of a run.
use Rattle.std.proofs.Common.{◌≡◌, ℕ, ◌≤◌, cond, List, [], ◌∷◌, ◌++◌, map, refl, sym, ap, subst, ◌∙◌, arith}
use Rattle.std.specs.Prelude.{Contains, All}
use Rattle.std.proofs.lemmas.List.Sums.{sum_by-cons}
use Rattle.std.proofs.lemmas.List.Elements.{Contains-append_left, Contains-append_right, All-head, All-tail}
use Rattle.flash_sim.specs.Device.{Device, Plan, counted}
use Rattle.flash_sim.specs.declared.flash.Bank.{Bank}
use Rattle.flash_map.specs.declared.area.Area.{Area}
use Rattle.flash_map.specs.Touches.{IsIn, IsInSome}
use Rattle.flash_map.proofs.Plans.{counted_counted}
use Rattle.migrator.specs.Active.{active_on}
use Rattle.script_lines.specs.declared.line.Line.{Line}
use Rattle.script_lines.specs.declared.answer.Answer.{Answer}
use Rattle.script_lines.specs.Plan.{units_of, is_lost, losses_in, Planned, plan_through, PlansNoLoss}
use Rattle.session_table.specs.Bench.{Meanings, Moment, LineDone, Runs, Keeps, StaysUnplanned, ReportsChance, ReportsLastChance, area_at, rules_of, state_of, worked_on, actives_after, all_worked_on, places_of, is_selector}
use Rattle.session_table.specs.Follows.{Follows}
use Rattle.session_table.specs.Rules.{Rules, IsCounted}
use Rattle.session_table.specs.Step.{Step}
use Rattle.session_table.proofs.ActiveLemmas.{goes_on, works_within}
use Rattle.session_table.proofs.FollowsLemmas.{kept, summed}
use Rattle.session_table.proofs.PlaceLemmas.{IsWithin, some_within}

-- ---- what stays

keeps_same : (areas : List Area) (d : Device) → Keeps areas d d
keeps_same areas d = record { banks = refl; loads = refl; outside = λ bank offset out. refl }

keeps_both : (areas : List Area) (a b c : Device) → Keeps areas a b → Keeps areas b c → Keeps areas a c
keeps_both areas a b c one two = record {
  banks = two.banks ∙ one.banks;
  loads = two.loads ∙ one.loads;
  outside = λ bank offset out. two.outside bank offset (subst (λ (banks : List Bank). ¬ IsInSome banks bank offset areas) (sym one.banks) out) ∙ one.outside bank offset out;
}

pub keeps_within : (at : ℕ → Area) (places more : List ℕ) (old new : Device) → IsWithin places more → Keeps (map at places) old new → Keeps (map at more) old new
keeps_within at places more old new within keeps = record {
  banks = keeps.banks;
  loads = keeps.loads;
  outside = λ bank offset out. keeps.outside bank offset (λ is. out (some_within at (IsIn old.banks bank offset) places more within is));
}

module _ (m : Meanings) (areas : List Area) where
  banks_stay : (lines : List Line) (answers : List Answer) (old new : Moment) → Follows (LineDone m areas) lines answers old new → new.device.banks ≡ old.device.banks
  banks_stay lines answers old new runs =
      kept (LineDone m areas) (λ a b. b.device.banks ≡ a.device.banks) (λ s. refl) (λ a b c one two. two ∙ one) (λ line answer a b done. done.keeps.banks) lines answers old new runs

  spent_rises : (lines : List Line) (answers : List Answer) (old new : Moment) → Follows (LineDone m areas) lines answers old new → old.device.spent ≤ new.device.spent
  spent_rises lines answers old new runs =
      kept (LineDone m areas) (λ a b. a.device.spent ≤ b.device.spent) (λ s. omega arith) (λ a b c one two. omega (arith, one, two))
      (λ line answer a b done. let spent = done.accounts.spent in omega (arith, spent)) lines answers old new runs

  -- the table, where the count of units is no more than so much
  session_of : (banks : List Bank) (last : ℕ) (lines : List Line) (answers : List Answer) (old new : Moment) → old.device.banks ≡ banks → new.device.spent ≤ last → Follows (LineDone m areas) lines answers old new
      → Follows (Step (rules_of m areas banks last)) lines answers (state_of m areas old) (state_of m areas new)
  session_of banks last [] [] old new is within same = ap (state_of m areas) same
  session_of banks last [] (answer ∷ answers) old new is within none = absurd none
  session_of banks last (line ∷ lines) [] old new is within none = absurd none
  session_of banks last (line ∷ lines) (answer ∷ answers) old new is within runs =
      let mid : Moment = runs.0 in
      let rises = spent_rises lines answers mid new runs.2 in
      let head = runs.1.step last (omega (arith, rises, within)) in (
        state_of m areas mid,
        subst (λ (b : List Bank). Step (rules_of m areas b last) line answer (state_of m areas old) (state_of m areas mid)) is head,
        session_of banks last lines answers mid new (runs.1.keeps.banks ∙ is) within runs.2,
      )

  losses_of : (lines : List Line) (answers : List Answer) (old new : Moment) → Follows (LineDone m areas) lines answers old new → new.device.losses ≡ counted old.device.losses (losses_in answers)
  losses_of [] [] old new same = ap (λ (s : Moment). s.device.losses) same ∙ omega arith
  losses_of [] (answer ∷ answers) old new none = absurd none
  losses_of (line ∷ lines) [] old new none = absurd none
  losses_of (line ∷ lines) (answer ∷ answers) old new runs =
      losses_of lines answers runs.0 new runs.2
      ∙ ap (λ (n : ℕ). counted n (losses_in answers)) runs.1.accounts.losses
      ∙ counted_counted old.device.losses (cond (is_lost answer) 1 0) (losses_in answers)
      ∙ ap (counted old.device.losses) (sym (sum_by-cons (λ (a : Answer). cond (is_lost a) 1 0) answer answers))

  planned_of : (lines : List Line) (answers : List Answer) (old new : Moment) → IsCounted new.device.spent → Follows (LineDone m areas) lines answers old new
      → Planned old.device.plan lines answers × (new.device.plan ≡ plan_through old.device.plan lines answers)
  planned_of [] [] old new counts same = (tt, ap (λ (s : Moment). s.device.plan) same)
  planned_of [] (answer ∷ answers) old new counts none = absurd none
  planned_of (line ∷ lines) [] old new counts none = absurd none
  planned_of (line ∷ lines) (answer ∷ answers) old new counts runs =
      let rises = spent_rises lines answers runs.0 new runs.2 in
      let mid : IsCounted runs.0.device.spent = omega (arith, rises, counts) in
      let tail = planned_of lines answers runs.0 new counts runs.2 in (
        (runs.1.accounts.allows mid, subst (λ (plan : Plan). Planned plan lines answers) (runs.1.accounts.plan mid) tail.0),
        tail.1 ∙ ap (λ (plan : Plan). plan_through plan lines answers) (runs.1.accounts.plan mid),
      )

  keeps_of : (banks : List Bank) (lines : List Line) (answers : List Answer) (actives : List ℕ) (old new : Moment) → old.device.banks ≡ banks → Contains actives (active_on areas old.device)
      → Follows (LineDone m areas) lines answers old new → Keeps (map (area_at areas) (all_worked_on (rules_of m areas banks 0) (places_of is_selector areas) lines answers actives)) old.device new.device
  keeps_of banks [] [] actives old new is has same = subst (λ (s : Moment). Keeps [] old.device s.device) (sym same) (keeps_same [] old.device)
  keeps_of banks [] (answer ∷ answers) actives old new is has none = absurd none
  keeps_of banks (line ∷ lines) [] actives old new is has none = absurd none
  keeps_of banks (line ∷ lines) (answer ∷ answers) actives old new is has runs =
      let mid : Moment = runs.0 in
      let r : Rules = rules_of m areas banks 0 in
      let sel : List ℕ = places_of is_selector areas in
      let active : ℕ = active_on areas old.device in
      let next : List ℕ = actives_after r line answer actives in
      let prefix : List ℕ = worked_on r sel line answer actives in
      let back : List ℕ = all_worked_on r sel lines answers next in
      let last : ℕ = mid.device.spent in
      let one = subst (λ (b : List Bank). Keeps (map (area_at areas) (worked_on (rules_of m areas b 0) sel line answer (active ∷ []))) old.device mid.device) is runs.1.keeps in
      let head = keeps_within (area_at areas) (worked_on r sel line answer (active ∷ [])) prefix old.device mid.device (works_within r sel line answer active actives has) one in
      let goes = subst (λ (b : List Bank). Contains (actives_after (rules_of m areas b last) line answer actives) (active_on areas mid.device)) is
      (goes_on (rules_of m areas old.device.banks last) line answer (state_of m areas old) (state_of m areas mid) actives (runs.1.step last (omega arith)) has) in
      let tail = keeps_of banks lines answers next mid new (runs.1.keeps.banks ∙ is) goes runs.2 in
      keeps_both (map (area_at areas) (prefix ++ back)) old.device mid.device new.device
      (keeps_within (area_at areas) prefix (prefix ++ back) old.device mid.device (λ x. Contains-append_left prefix back x) head)
      (keeps_within (area_at areas) back (prefix ++ back) mid.device new.device (λ x. Contains-append_right prefix back x) tail)

  unplanned_of : (lines : List Line) (answers : List Answer) (old new : Moment) → Follows (LineDone m areas) lines answers old new → All PlansNoLoss lines → StaysUnplanned old.device new.device
  unplanned_of [] [] old new same free never = (ap (λ (s : Moment). s.device.plan) same ∙ never, ap (λ (s : Moment). s.device.losses) same)
  unplanned_of [] (answer ∷ answers) old new none free never = absurd none
  unplanned_of (line ∷ lines) [] old new none free never = absurd none
  unplanned_of (line ∷ lines) (answer ∷ answers) old new runs free never =
      let head = runs.1.accounts.unplanned (All-head PlansNoLoss line lines free) never in
      let tail = unplanned_of lines answers runs.0 new runs.2 (All-tail PlansNoLoss line lines free) head.0 in
      (tail.0, tail.1 ∙ head.1)

  chance_of : (lines : List Line) (answers : List Answer) (old new : Moment) → Follows (LineDone m areas) lines answers old new → ReportsLastChance m areas lines answers new.device
  chance_of [] [] old new same = tt
  chance_of [] (answer ∷ answers) old new none = absurd none
  chance_of (line ∷ lines) [] old new none = absurd none
  chance_of (line ∷ []) (answer ∷ []) old new runs = subst (λ (s : Moment). ReportsChance m areas line answer s.device) (sym runs.2) runs.1.chance
  chance_of (line ∷ []) (answer ∷ also ∷ answers) old new runs = absurd runs.2
  chance_of (line ∷ next ∷ lines) (answer ∷ []) old new runs = absurd runs.2
  chance_of (line ∷ next ∷ lines) (answer ∷ also ∷ answers) old new runs = chance_of (next ∷ lines) (also ∷ answers) runs.0 new runs.2

  pub runs_of : (lines : List Line) (answers : List Answer) (old new : Moment) → Follows (LineDone m areas) lines answers old new → Runs m areas lines answers old new
  runs_of lines answers old new runs = record {
    session = session_of old.device.banks new.device.spent lines answers old new refl (omega arith) runs;
    spent = summed (LineDone m areas) (λ s. s.device.spent) units_of (λ line answer a b done. done.accounts.spent) lines answers old new runs;
    losses = losses_of lines answers old new runs;
    planned = λ counts. planned_of lines answers old new counts runs;
    keeps = keeps_of old.device.banks lines answers (active_on areas old.device ∷ []) old new refl (0, omega arith, refl) runs;
    unplanned = unplanned_of lines answers old new runs;
    chance = chance_of lines answers old new runs;
  }
