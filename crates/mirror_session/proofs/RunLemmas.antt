-- What the clause of one line says of a run.
use Rattle.std.proofs.Common.{◌≡◌, ◌⊎◌, inl, inr, ℕ, ◌+◌, ◌≤◌, ◌||◌, Bool, true, false, cond, List, [], ◌∷◌, ◌++◌, refl, sym, ap, subst, ◌∙◌, arith}
use Rattle.std.specs.Prelude.{All}
use Rattle.std.proofs.lemmas.Bool.{false≢true}
use Rattle.std.proofs.lemmas.List.Sums.{sum_by-cons}
use Rattle.std.proofs.lemmas.List.Elements.{All-head, All-tail}
use Rattle.flash_sim.specs.Device.{Device, Plan, counted}
use Rattle.flash_sim.specs.declared.flash.Bank.{Bank}
use Rattle.flash_map.specs.declared.area.Area.{Area}
use Rattle.flash_map.specs.Touches.{IsInSome}
use Rattle.flash_map.proofs.Plans.{counted_counted}
use Rattle.script_lines.specs.declared.answer.Answer.TheVariants as settings
use Rattle.session_table.specs.Follows.{Follows}
use Rattle.session_table.proofs.FollowsLemmas.{kept, summed}
use Rattle.mirror_session.specs.declared.line.Line.{Line}
use Rattle.mirror_session.specs.declared.line.Line.TheVariants.{Mount}
use Rattle.mirror_session.specs.declared.answer.Answer.{Answer}
use Rattle.mirror_session.specs.declared.answer.Answer.TheVariants.{Plain}
use Rattle.mirror_session.specs.Plan.{units_of, is_lost, losses_in, Planned, plan_through, PlansNoLoss}
use Rattle.mirror_session.specs.declared.fault.SessionFault.{SessionFault}
use Rattle.mirror_session.specs.declared.fault.SessionFault.TheVariants.{Damaged, Unfit, NoMemory}
use Rattle.mirror_session.specs.Bench.{Meanings, Moment, rules_of, state_of}
use Rattle.session_table.specs.Bench.{StaysUnplanned}
use Rattle.mirror_session.specs.LineDone.{BothNow, FitNow, FitsThen, Keeps, LineDone, replaces}
use Rattle.mirror_session.specs.Running.{LineStops, Ran, RunStops, StopsAt, ReportsUnfit, is_mounted, mounted_in, replaced_in}
use Rattle.session_table.specs.Rules.{IsCounted}
use Rattle.mirror_session.specs.Step.{Step}
use Rattle.session_table.proofs.CountLemmas.{counted_none}

module _ (m : Meanings) (areas : List Area) where
  spent_rises : (lines : List Line) (answers : List Answer) (old new : Moment) → Follows (LineDone m areas) lines answers old new → old.device.spent ≤ new.device.spent
  spent_rises lines answers old new runs =
      kept (LineDone m areas) (λ a b. a.device.spent ≤ b.device.spent) (λ s. omega arith) (λ a b c one two. omega (arith, one, two))
      (λ line answer a b done. let spent = done.accounts.spent in omega (arith, spent)) lines answers old new runs

  -- the table, where the count of units is no more than so much
  session_of : (banks : List Bank) (last : ℕ) (lines : List Line) (answers : List Answer) (old new : Moment) → old.device.banks ≡ banks → new.device.spent ≤ last → Follows (LineDone m areas) lines answers old new
      → Follows (Step (rules_of m areas banks last)) lines answers (state_of m areas old) (state_of m areas new)
  session_of banks last [] [] old new is within same = ap (state_of m areas) same
  session_of banks last [] (answer ∷ answers) old new is within none = absurd none
  session_of banks last (line ∷ lines) [] old new is within none = absurd none
  session_of banks last (line ∷ lines) (answer ∷ answers) old new is within runs =
      let mid : Moment = runs.0 in
      let rises = spent_rises lines answers mid new runs.2 in
      let head = runs.1.step last (omega (arith, rises, within)) in (
        state_of m areas mid,
        subst (λ (b : List Bank). Step (rules_of m areas b last) line answer (state_of m areas old) (state_of m areas mid)) is head,
        session_of banks last lines answers mid new (runs.1.keeps.banks ∙ is) within runs.2,
      )

  losses_of : (lines : List Line) (answers : List Answer) (old new : Moment) → Follows (LineDone m areas) lines answers old new → new.device.losses ≡ counted old.device.losses (losses_in answers)
  losses_of [] [] old new same = ap (λ (d : Moment). d.device.losses) same ∙ omega arith
  losses_of [] (answer ∷ answers) old new none = absurd none
  losses_of (line ∷ lines) [] old new none = absurd none
  losses_of (line ∷ lines) (answer ∷ answers) old new runs =
      losses_of lines answers runs.0 new runs.2
      ∙ ap (λ (n : ℕ). counted n (losses_in answers)) runs.1.accounts.losses
      ∙ counted_counted old.device.losses (cond (is_lost answer) 1 0) (losses_in answers)
      ∙ ap (counted old.device.losses) (sym (sum_by-cons (λ (a : Answer). cond (is_lost a) 1 0) answer answers))

  planned_of : (lines : List Line) (answers : List Answer) (old new : Moment) → IsCounted new.device.spent → Follows (LineDone m areas) lines answers old new
      → Planned old.device.plan lines answers × (new.device.plan ≡ plan_through old.device.plan lines answers)
  planned_of [] [] old new counts same = (tt, ap (λ (d : Moment). d.device.plan) same)
  planned_of [] (answer ∷ answers) old new counts none = absurd none
  planned_of (line ∷ lines) [] old new counts none = absurd none
  planned_of (line ∷ lines) (answer ∷ answers) old new counts runs =
      let rises = spent_rises lines answers runs.0 new runs.2 in
      let mid : IsCounted runs.0.device.spent = omega (arith, rises, counts) in
      let tail = planned_of lines answers runs.0 new counts runs.2 in (
        (runs.1.accounts.allows mid, subst (λ (plan : Plan). Planned plan lines answers) (runs.1.accounts.plan mid) tail.0),
        tail.1 ∙ ap (λ (plan : Plan). plan_through plan lines answers) (runs.1.accounts.plan mid),
      )

  unplanned_of : (lines : List Line) (answers : List Answer) (old new : Moment) → Follows (LineDone m areas) lines answers old new → All PlansNoLoss lines → StaysUnplanned old.device new.device
  unplanned_of [] [] old new same free never = (ap (λ (d : Moment). d.device.plan) same ∙ never, ap (λ (d : Moment). d.device.losses) same)
  unplanned_of [] (answer ∷ answers) old new none free never = absurd none
  unplanned_of (line ∷ lines) [] old new none free never = absurd none
  unplanned_of (line ∷ lines) (answer ∷ answers) old new runs free never =
      let head = runs.1.accounts.unplanned (All-head PlansNoLoss line lines free) never in
      let tail = unplanned_of lines answers runs.0 new runs.2 (All-tail PlansNoLoss line lines free) head.0 in
      (tail.0, tail.1 ∙ head.1)

  keeps_same : (d e : Device) → e ≡ d → Keeps areas 0 d e
  keeps_same d e same = subst (λ (x : Device). Keeps areas 0 d x) (sym same) record { banks = refl; loaded = counted_none d.loads; outside = λ bank offset out. refl }

  keeps_both : (a b c : Device) (first second : ℕ) → Keeps areas first a b → Keeps areas second b c → Keeps areas (first + second) a c
  keeps_both a b c first second one two = record {
    banks = two.banks ∙ one.banks;
    loaded = two.loaded ∙ ap (λ (n : ℕ). counted n second) one.loaded ∙ counted_counted a.loads first second;
    outside = λ bank offset out. two.outside bank offset (subst (λ (banks : List Bank). ¬ IsInSome banks bank offset areas) (sym one.banks) out) ∙ one.outside bank offset out;
  }

  keeps_of : (lines : List Line) (answers : List Answer) (old new : Moment) → Follows (LineDone m areas) lines answers old new → Keeps areas (replaced_in lines answers) old.device new.device
  keeps_of [] [] old new same = keeps_same old.device new.device (ap (λ (d : Moment). d.device) same)
  keeps_of [] (answer ∷ answers) old new none = absurd none
  keeps_of (line ∷ lines) [] old new none = absurd none
  keeps_of (line ∷ lines) (answer ∷ answers) old new runs =
      keeps_both old.device runs.0.device new.device (cond (replaces line answer) 1 0) (replaced_in lines answers) runs.1.keeps (keeps_of lines answers runs.0 new runs.2)

  pub runs_of : (lines : List Line) (answers : List Answer) (old new : Moment) → Follows (LineDone m areas) lines answers old new → Ran m areas lines answers old new
  runs_of lines answers old new runs = record {
    in_turn = runs;
    session = session_of old.device.banks new.device.spent lines answers old new refl (omega arith) runs;
    spent = summed (LineDone m areas) (λ d. d.device.spent) units_of (λ line answer a b done. done.accounts.spent) lines answers old new runs;
    losses = losses_of lines answers old new runs;
    planned = λ counts. planned_of lines answers old new counts runs;
    keeps = keeps_of lines answers old new runs;
    unplanned = unplanned_of lines answers old new runs;
    both = kept (LineDone m areas) (λ a b. BothNow m areas a → BothNow m areas b) (λ s is. is) (λ a b c one two is. two (one is)) (λ line answer a b done. done.both) lines answers old new runs;
  }

  -- ---- what the areas read as fits

  mounted_fits : (line : Line) (answer : Answer) (new : Moment) → is_mounted line answer ≡ true → FitsThen m areas line answer new → FitNow m areas new
  mounted_fits Mount (Plain (settings.Done units)) new is fits = fits
  mounted_fits line answer new is fits = absurd (false≢true is)

  -- from the beginning, or from a mount that was whole on
  pub fit_of : (lines : List Line) (answers : List Answer) (old new : Moment) → Follows (LineDone m areas) lines answers old new → FitNow m areas old ⊎ (mounted_in lines answers ≡ true) → FitNow m areas new
  fit_of [] [] old new same (inl fit) = subst (FitNow m areas) (sym same) fit
  fit_of [] [] old new same (inr none) = absurd (false≢true none)
  fit_of [] (answer ∷ answers) old new none either = absurd none
  fit_of (line ∷ lines) [] old new none either = absurd none
  fit_of (line ∷ lines) (answer ∷ answers) old new runs (inl fit) = fit_of lines answers runs.0 new runs.2 (inl (runs.1.fit fit))
  fit_of (line ∷ lines) (answer ∷ answers) old new runs (inr mounted) = fit_of lines answers runs.0 new runs.2 (by (is_mounted line answer) refl)
    where
      by : (b : Bool) → is_mounted line answer ≡ b → FitNow m areas runs.0 ⊎ (mounted_in lines answers ≡ true)
      by true is = inl (mounted_fits line answer runs.0 is runs.1.fits)
      by false is = inr (sym (ap (λ (b : Bool). b || mounted_in lines answers) is) ∙ mounted)

  wants_no_fit : (fault : SessionFault) → fault ≡ NoMemory → ReportsUnfit fault → ⊥
  wants_no_fit fault wants reports = no (subst ReportsUnfit wants reports)
    where
      no : ReportsUnfit NoMemory → ⊥
      no is = is

  line_fits : (line : Line) (old : Moment) (new : Device) (fault : SessionFault) → LineStops m areas line old new fault → ReportsUnfit fault → FitNow m areas old → ⊥
  line_fits line old new (Unfit place) stops reports fit = stops.2 fit.settings
  line_fits line old new (Damaged place damaged) stops reports fit = reports
  line_fits line old new NoMemory stops reports fit = reports

  stop_fits : (prefix rest : List Line) (old : Moment) (new : Device) (fault : SessionFault) → StopsAt m areas prefix rest old new fault → ReportsUnfit fault → FitNow m areas old → ⊥
  stop_fits prefix [] old new fault stops reports fit = wants_no_fit fault stops.1 reports
  stop_fits prefix (line ∷ rest) old new fault (inl lacks) reports fit = wants_no_fit fault lacks.1 reports
  stop_fits prefix (line ∷ rest) old new fault (inr stops) reports fit = line_fits line old new fault stops reports fit

  -- The first lines were carried out, and then one stopped.
  pub stopped : (lines prefix rest : List Line) (answers : List Answer) (old mid : Moment) (new : Device) (fault : SessionFault) → lines ≡ prefix ++ rest → Follows (LineDone m areas) prefix answers old mid → StopsAt m areas prefix rest mid new fault
      → RunStops m areas lines old new fault
  stopped lines prefix rest answers old mid new fault are runs stops = record {
    prefix = prefix;
    rest = rest;
    are = are;
    answers = answers;
    mid = mid;
    runs = runs_of prefix answers old mid runs;
    stops = stops;
    early = λ reports. by reports (mounted_in prefix answers) refl;
    fitting = λ reports fit. stop_fits prefix rest mid new fault stops reports (fit_of prefix answers old mid runs (inl fit));
  }
    where
      by : ReportsUnfit fault → (b : Bool) → mounted_in prefix answers ≡ b → mounted_in prefix answers ≡ false
      by reports true is = absurd (stop_fits prefix rest mid new fault stops reports (fit_of prefix answers old mid runs (inr is)))
      by reports false is = is
