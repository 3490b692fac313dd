-- Lines that change no record: those that leave the bench, those on the plan, and mounts.
use Rattle.std.proofs.Common.{◌≡◌, ℕ, ◌+◌, ◌-◌, ◌≤◌, Bool, true, false, List, [], ◌∷◌, Option, Some, None, Result, Ok, Err, refl, sym, ap, subst, ◌∙◌, arith}
use Rattle.std.specs.Prelude.{OnErr}
use Rattle.std.proofs.lemmas.Bool.{false≢true}
use Rattle.flash_sim.specs.declared.flash.NoMemory.{NoMemory}
use Rattle.flash_sim.specs.Device.{Device, After, replanned, dropped}
use Rattle.flash_map.specs.declared.area.Area.{Area}
use Rattle.flash_map.specs.Area.{geometry_of, unit_of, sectors_of}
use Rattle.flash_map.specs.Touches.{Touches}
use Rattle.flash_map.proofs.Plans.{Lasts-zero}
use Rattle.flash_map.proofs.Touches.{untouched}
use Rattle.flash_map.specs.Spending.{Spends, SpendsAtMost}
use Rattle.fcb_ring.specs.Standing.{erases_on, ring_damage}
use Rattle.fcb_ring.proofs.RestLemmas.{ready-rests}
use Rattle.event_ring.specs.declared.event_log.EventLog.{EventLog}
use Rattle.event_ring.specs.Items.{items_on, log_of, log_on}
use Rattle.event_ring.specs.Standing.{KeepsItems}
use Rattle.script_lines.specs.Plan.Replan.{keeps}
use Rattle.log_session.specs.declared.line.Line.{Line}
use Rattle.log_session.specs.declared.line.Line.TheVariants.{Put, Records, Cut, Uncut, Mount}
use Rattle.log_session.specs.declared.answer.Answer.{Answer}
use Rattle.log_session.specs.declared.answer.Answer.TheVariants.{Done, Log, Lost}
use Rattle.log_session.specs.Plan.{units_of, is_lost, replan}
use Rattle.session_table.specs.Bench.{Keeps}
use Rattle.log_session.specs.LineDone.{LineDone, MountsBy, PutsBy, ReportsChance, powered_for, state_of, turned_on}
use Rattle.log_session.specs.Standing.{IsMounted}
use Rattle.session_table.specs.Rules.{IsCounted}
use Rattle.log_session.specs.Step.{Step}
use Rattle.session_table.proofs.CountLemmas.{at_most, units_are, units_most}
use Rattle.log_session.proofs.AccountLemmas.{kept, lost}

none_spent : (units spent : ℕ) → units ≡ 0 → units ≡ spent - spent
none_spent units spent is = omega (arith, is)

-- what a call on the area leaves alone
pub kept_beside : (area : Area) (old new : Device) (cut : Bool) → Touches (area ∷ []) old new cut → Keeps (area ∷ []) old new
kept_beside area old new cut touches = record { banks = touches.banks; loads = touches.loads; outside = touches.outside }

-- ---- states

pub log_is : (area : Area) (old new : Device) (log : List (List ℕ)) → new.is_on ≡ old.is_on → log_on new area ≡ log → state_of area new ≡ record (state_of area old) { log = log }
log_is area old new log on is =
    ap (λ (b : Bool). record (state_of area new) { is_on = b }) on ∙ ap (λ (log : List (List ℕ)). record (state_of area old) { log = log }) is

pub power_is : (area : Area) (old new : Device) (b : Bool) → new.is_on ≡ b → log_on new area ≡ log_on old area → state_of area new ≡ record (state_of area old) { is_on = b }
power_is area old new b on is =
    ap (λ (b : Bool). record (state_of area new) { is_on = b }) on ∙ ap (λ (log : List (List ℕ)). record (state_of area old) { log = log; is_on = b }) is

-- ---- lines that leave the bench

pub put_no_mount : (body : List ℕ) → Put body ≡ Mount → ⊥
put_no_mount body is = cc

pub put_no_records : (body : List ℕ) → Put body ≡ Records → ⊥
put_no_records body is = cc

pub records_no_mount : Records ≡ Mount → ⊥
records_no_mount is = cc

quiet : (area : Area) (d : Device) (line : Line) (answer : Answer)
    → ((last : ℕ) → Step (geometry_of d area) last line answer (state_of area d) (state_of area d))
    → powered_for line d ≡ d → replan line ≡ keeps → is_lost answer ≡ false → units_of answer ≡ 0 → PutsBy area line answer d d → (line ≡ Mount → ⊥) → ReportsChance area line answer d
    → LineDone area line answer d d
quiet area d line answer step same stays lasts units puts no_mount reported = record {
  step = λ last within. step last;
  accounts = kept (area ∷ []) line answer d d (untouched (area ∷ []) d) stays lasts (none_spent (units_of answer) d.spent units);
  keeps = kept_beside area d d false (untouched (area ∷ []) d);
  touches = λ plain.
      subst (λ (b : Bool). Touches (area ∷ []) (powered_for line d) d b) (sym lasts)
      (subst (λ (x : Device). Touches (area ∷ []) x d false) (sym same) (untouched (area ∷ []) d));
  puts = puts;
  mounts = λ is. absurd (no_mount is);
  reports = λ is. refl;
  plans = λ other. absurd (other stays);
  chance = reported;
  left = λ most one owes. owes;
}

-- all records are reported
pub reported : (area : Area) (d : Device) (bodies : List (List ℕ)) → d.is_on ≡ true → bodies ≡ log_on d area → LineDone area Records (Log bodies) d d
reported area d bodies on are = quiet area d Records (Log bodies) (λ last. (λ needs. on, (are, refl))) refl refl refl refl tt records_no_mount tt

-- what holds if memory runs out
pub whole_if_err : (r : Result Answer NoMemory) (d : Device) → OnErr r (d ≡ d)
whole_if_err (Ok answer) d = tt
whole_if_err (Err e) d = refl

pub wants_if_err : (r : Result Answer NoMemory) (line : Line) (d : Device) → line ≡ Records → OnErr r (d.is_on ≡ true) → OnErr r ((line ≡ Records) × (d.is_on ≡ true))
wants_if_err (Ok answer) line d is on = tt
wants_if_err (Err e) line d is on = (is, on)

-- ---- plans

same_spent : (spent : ℕ) → spent + 0 ≡ spent
same_spent spent = omega arith

pub no_keeping : (units : ℕ) → replan (Cut units) ≡ keeps → ⊥
no_keeping units is = cc

pub no_dropping : replan Uncut ≡ keeps → ⊥
no_dropping is = cc

pub cut_no_mount : (units : ℕ) → Cut units ≡ Mount → ⊥
cut_no_mount units is = cc

cut_no_records : (units : ℕ) → Cut units ≡ Records → ⊥
cut_no_records units is = cc

pub uncut_no_mount : Uncut ≡ Mount → ⊥
uncut_no_mount is = cc

uncut_no_records : Uncut ≡ Records → ⊥
uncut_no_records is = cc

mount_no_records : Mount ≡ Records → ⊥
mount_no_records is = cc

pub planned : (area : Area) (old new : Device) (units : ℕ) → new ≡ record old { plan = replanned old.plan (After units) } → LineDone area (Cut units) (Done 0) old new
planned area old new units is =
    subst (λ (d : Device). LineDone area (Cut units) (Done 0) old d) (sym is)
    record {
      step = λ last within. (λ needs. absurd (false≢true needs), (refl, refl));
      accounts = record {
        spent = same_spent old.spent;
        losses = omega arith;
        allows = λ counts. Lasts-zero old.plan;
        plan = λ counts. refl;
        unplanned = λ free. absurd (free units refl);
      };
      keeps = record { banks = refl; loads = refl; outside = λ bank offset out. refl };
      touches = λ stays. absurd (no_keeping units stays);
      puts = tt;
      mounts = λ is. absurd (cut_no_mount units is);
      reports = λ is. absurd (cut_no_records units is);
      plans = λ other. refl;
      chance = tt;
      left = λ most one owes. owes;
    }

pub unplanned : (area : Area) (old new : Device) → new ≡ record old { plan = dropped old.plan } → LineDone area Uncut (Done 0) old new
unplanned area old new is =
    subst (λ (d : Device). LineDone area Uncut (Done 0) old d) (sym is)
    record {
      step = λ last within. (λ needs. absurd (false≢true needs), (refl, refl));
      accounts = record {
        spent = same_spent old.spent;
        losses = omega arith;
        allows = λ counts. Lasts-zero old.plan;
        plan = λ counts. refl;
        unplanned = λ free never. (ap dropped never, refl);
      };
      keeps = record { banks = refl; loads = refl; outside = λ bank offset out. refl };
      touches = λ stays. absurd (no_dropping stays);
      puts = tt;
      mounts = λ is. absurd (uncut_no_mount is);
      reports = λ is. absurd (uncut_no_records is);
      plans = λ other. refl;
      chance = tt;
      left = λ most one owes. owes;
    }

-- ---- mounts

same_log : (area : Area) (old new : Device) → items_on new area ≡ items_on old area → log_on new area ≡ log_on old area
same_log area old new same = ap log_of same

-- what changed nothing spent nothing
idle_spends : (mid new : Device) (units : ℕ) → units ≡ new.spent - mid.spent → new ≡ mid → Done units ≡ Done 0
idle_spends mid new units are same =
    let spent : new.spent ≡ mid.spent = ap (λ (d : Device). d.spent) same in
    let no_unit : units ≡ 0 = omega (arith, are, spent) in
    ap (λ (n : ℕ). Done n) no_unit

-- and lost no power
not_idle : {A : Type 0} (mid new : Device) → mid.is_on ≡ true → new.is_on ≡ false → new ≡ mid → A
not_idle mid new on off same = absurd (false≢true (sym off ∙ ap (λ (d : Device). d.is_on) same ∙ on))

module _ (area : Area) (old mid new : Device) (on : mid ≡ turned_on old) (none : ring_damage mid area ≡ None) (keeps : KeepsItems mid new area) (idle : erases_on old area ≡ 0 → new ≡ mid)
    (left : erases_on new area ≤ erases_on mid area) where
  -- as the bench was before power was turned on
  by_mount : (answer : Answer) → units_of answer ≤ erases_on mid area → (is_lost answer ≡ false → IsCounted new.spent → units_of answer ≡ erases_on mid area) → (new ≡ mid → answer ≡ Done 0) → MountsBy area answer old new
  by_mount answer most all spends_none = let here = subst (λ (d : Device). KeepsItems d new area) on keeps in record {
    undamaged = ap (λ (d : Device). ring_damage d area) (sym on) ∙ none;
    at_most = subst (λ (d : Device). units_of answer ≤ erases_on d area) on most;
    all = λ whole counts. all whole counts ∙ ap (λ (d : Device). erases_on d area) on;
    items = record { undamaged = here.undamaged; items = here.items; filled = here.filled };
    left = subst (λ (d : Device). erases_on new area ≤ erases_on d area) on left;
    rests = λ rest. (spends_none (idle rest), idle rest ∙ on);
  }

  same_items : items_on new area ≡ items_on old area
  same_items = keeps.items ∙ ap (λ (d : Device). items_on d area) on

  mount_whole : (units : ℕ) → units ≡ new.spent - old.spent → Touches (area ∷ []) (turned_on old) new false → MountsBy area (Done units) old new → LineDone area Mount (Done units) old new
  mount_whole units are touches mounts =
      let accounts = kept (area ∷ []) Mount (Done units) (turned_on old) new touches refl refl are in
      record {
        step = λ last within. (λ needs. absurd (false≢true needs), power_is area old new true touches.ends.on (same_log area old new same_items));
        accounts = record { spent = accounts.spent; losses = accounts.losses; allows = accounts.allows; plan = accounts.plan; unplanned = accounts.unplanned };
        keeps = record { banks = touches.banks; loads = touches.loads; outside = touches.outside };
        touches = λ stays. touches;
        puts = tt;
        mounts = λ is. mounts;
        reports = λ is. absurd (mount_no_records is);
        plans = λ other. absurd (other refl);
        chance = tt;
        left = λ most one owes. let less = mounts.left in omega arith;
      }

  mount_cut : (units : ℕ) → units ≡ new.spent - old.spent → Touches (area ∷ []) (turned_on old) new true → MountsBy area (Lost units false) old new → LineDone area Mount (Lost units false) old new
  mount_cut units are touches mounts =
      let accounts = lost (area ∷ []) Mount (Lost units false) (turned_on old) new refl touches refl refl are in
      record {
        step = λ last within. (λ needs. absurd (false≢true needs), power_is area old new false (touches.ends refl).off (same_log area old new same_items));
        accounts = record { spent = accounts.spent; losses = accounts.losses; allows = accounts.allows; plan = accounts.plan; unplanned = accounts.unplanned };
        keeps = record { banks = touches.banks; loads = touches.loads; outside = touches.outside };
        touches = λ stays. touches;
        puts = tt;
        mounts = λ is. mounts;
        reports = λ is. absurd (mount_no_records is);
        plans = λ other. absurd (other refl);
        chance = tt;
        left = λ most one owes. let less = mounts.left in omega arith;
      }

  pub mount_done : (units : ℕ) → units ≡ new.spent - mid.spent → Spends mid new (erases_on mid area) → Touches (area ∷ []) mid new false → LineDone area Mount (Done units) old new
  mount_done units are spends touches =
      mount_whole units (are ∙ ap (λ (d : Device). new.spent - d.spent) on) (subst (λ (d : Device). Touches (area ∷ []) d new false) on touches)
      (by_mount (Done units) (subst (λ (n : ℕ). n ≤ erases_on mid area) (sym are) (units_most mid.spent new.spent (erases_on mid area) spends))
      (λ whole counts. are ∙ sym (units_are mid.spent new.spent (erases_on mid area) spends counts))
      (idle_spends mid new units are))

  pub mount_lost : (units : ℕ) → units ≡ new.spent - mid.spent → SpendsAtMost mid new (erases_on mid area) → Touches (area ∷ []) mid new true → LineDone area Mount (Lost units false) old new
  mount_lost units are spends touches =
      let few : new.spent - mid.spent ≤ spends.0 = units_most mid.spent new.spent spends.0 spends.2 in
      mount_cut units (are ∙ ap (λ (d : Device). new.spent - d.spent) on) (subst (λ (d : Device). Touches (area ∷ []) d new true) on touches)
      (by_mount (Lost units false) (at_most units spends.0 (erases_on mid area) (subst (λ (n : ℕ). n ≤ spends.0) (sym are) few) spends.1) (λ whole counts. absurd (false≢true (sym whole)))
      (not_idle mid new (ap (λ (d : Device). d.is_on) on) (touches.ends (ap (λ (d : Device). d.is_on) on)).off))

-- a log that is mounted is at rest
pub at_rest : (d : Device) (area : Area) (log : Option EventLog) → IsMounted d area log → d.is_on ≡ true → erases_on d area ≡ 0
at_rest d area None off on = absurd (false≢true (sym off ∙ on))
at_rest d area (Some log) mounted on =
    let now = mounted.1 on in
    subst (λ (a : Area). erases_on d a ≡ 0) mounted.0 (ready-rests (unit_of d log.ring.area) (sectors_of d log.ring.area) log.ring now.stands.sectors now.ready)
