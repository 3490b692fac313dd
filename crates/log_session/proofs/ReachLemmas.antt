-- What lines make of an area that a script of mounts and appends reached, and when they drop records there.
use Rattle.std.proofs.Common.{◌≡◌, ℕ, ◌+◌, ◌-◌, ◌*◌, ◌<◌, Bool, true, cond, [], length, Result, Err, inl, inr, refl, sym, ap, subst, ◌∙◌, arith}
use Rattle.std.proofs.lemmas.Bool.{cases_Bool}
use Rattle.flash_sim.specs.Device.{Device, Plan, counted}
use Rattle.flash_map.specs.declared.area.Area.{Area}
use Rattle.flash_map.specs.declared.faults.MountFault.TheVariants.{PowerLost as MountLost}
use Rattle.fcb_ring.specs.declared.ring.Ring.{Ring}
use Rattle.event_ring.specs.declared.appending.LogFault.{LogFault}
use Rattle.event_ring.specs.Appending.{drops_for, dropped_for}
use Rattle.event_ring.specs.Items.{items_in, items_on, cost_in, log_of}
use Rattle.event_ring.specs.Room.{room_on, longest_on}
use Rattle.event_ring.specs.Scripts.{IsReached, Mounts, Appends, Stays}
use Rattle.event_ring.proofs.ScriptLemmas.{drops-reached}
use Rattle.session_table.proofs.FollowsLemmas.{kept}
use Rattle.log_session.specs.declared.line.Line.{Line}
use Rattle.log_session.specs.declared.line.Line.TheVariants.{Put, Records, Cut, Uncut, Mount}
use Rattle.log_session.specs.declared.answer.Answer.{Answer}
use Rattle.log_session.specs.declared.answer.Answer.TheVariants.{Done, Appended, Log, Lost, Off}
use Rattle.log_session.specs.Plan.{units_of}
use Rattle.log_session.specs.Laws.{DropsWhereFull, RunsReach}
use Rattle.log_session.specs.LineDone.{AppendsOn, LineDone, SameButPlan}
use Rattle.log_session.proofs.LineLemmas.{no_keeping, no_dropping}

-- what a count went on by
went_on : (old more by new : ℕ) → old + by ≡ new → new ≡ counted old more → new ≡ counted old by
went_on old more by new is was = omega arith

module _ (area : Area) (old new : Device) where
  -- an append that was carried out
  appended : (body : _) (end : Result ℕ LogFault) → AppendsOn area body end old new → IsReached area old → IsReached area new
  appended body end is before = Appends area old new is.before is.after body end before is.is_open is.same_area is.ends

  replanned_stays : (plan : Plan) → IsReached area old → IsReached area (record old { plan = plan })
  replanned_stays plan before = Stays area old (record old { plan = plan }) before refl refl

  but_plan : SameButPlan old new → IsReached area old → IsReached area new
  but_plan is before = subst (IsReached area) (sym is) (replanned_stays new.plan before)

  nothing : new ≡ old → IsReached area old → IsReached area new
  nothing is before = subst (IsReached area) (sym is) before

  pub off_put : (body : _) → LineDone area (Put body) Off old new → new ≡ old
  off_put body done = let step = done.step new.spent (omega arith) in let touches = done.touches refl in touches.off step.1

  mounted : (answer : Answer) → LineDone area Mount answer old new → IsReached area old → IsReached area new
  mounted answer done before =
      let mounts = done.mounts refl in
      let touches = done.touches refl in
      Mounts area old new (Err MountLost) before
      (mounts.undamaged, mounts.items, (units_of answer, mounts.at_most, went_on old.spent touches.units (units_of answer) new.spent done.accounts.spent touches.spent))

each : (area : Area) (line : Line) (answer : Answer) (old new : Device) → LineDone area line answer old new → IsReached area old → IsReached area new
each area (Put body) (Appended units dropped) old new done before = appended area old new body _ done.puts before
each area (Put body) (Lost units chance) old new done before = appended area old new body _ done.puts before
each area (Put body) Off old new done before = nothing area old new (off_put area old new body done) before
each area (Put body) (Done units) old new done before = let step = done.step new.spent (omega arith) in absurd step.1
each area (Put body) (Log bodies) old new done before = let step = done.step new.spent (omega arith) in absurd step.1
each area Records answer old new done before = nothing area old new (done.reports refl) before
each area Mount answer old new done before = mounted area old new answer done before
each area (Cut units) answer old new done before = but_plan area old new (done.plans (no_keeping units)) before
each area Uncut answer old new done before = but_plan area old new (done.plans no_dropping) before

pub runs_reach : RunsReach
runs_reach area lines answers old new before runs =
    kept (LineDone area) (λ a b. IsReached area a → IsReached area b) (λ s here. here) (λ a b c one two here. two (one here)) (each area) lines answers old new runs before

-- ---- when records are dropped

-- where some records were dropped, a front was
drops_some : (d : Device) (ring : Ring) (body : _) (dropped : ℕ) → dropped ≡ length (log_of (dropped_for d ring body)) → 0 < dropped → drops_for d ring body ≡ true
drops_some d ring body dropped are some = elim (cases_Bool (drops_for d ring body)) [
  | inl drops ↦ drops
  | inr none ↦
      let zero : dropped ≡ 0 = are ∙ ap (λ (b : Bool). length (log_of (cond b (items_in d ring.area ring.oldest) []))) none in
      absurd (omega arith)
]

pub drops_where_full : DropsWhereFull
drops_where_full area body units dropped old new before lawful done some =
    let puts = done.puts in
    let ring : Ring = puts.before in
    let reached = subst (λ (a : Area). IsReached a old) (sym puts.same_area) before in
    let drops = drops_some old puts.before body dropped puts.ends.1.count some in
    let full = drops-reached old puts.before body reached lawful puts.is_open puts.ends.0 drops in
    subst (λ (a : Area). (a.sectors - 1) * (room_on old a - longest_on old a) < cost_in old a (items_on old a)) puts.same_area full
