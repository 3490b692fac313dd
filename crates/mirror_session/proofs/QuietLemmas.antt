-- Lines that leave the bench, and lines on the plan of losses.
use Rattle.std.proofs.Common.{◌≡◌, ℕ, ◌+◌, ◌-◌, ◌&&◌, Bool, true, false, cond, List, [], map, Some, None, refl, sym, ap, subst, ◌∙◌, arith}
use Rattle.std.specs.FinMap.{entries}
use Rattle.std.proofs.lemmas.Bool.{false≢true}
use Rattle.flash_sim.specs.Device.{Device, Plan, After, replanned, dropped}
use Rattle.flash_map.specs.declared.area.Area.{Area}
use Rattle.flash_map.specs.On.{on}
use Rattle.flash_map.specs.Touches.{Touches}
use Rattle.flash_map.proofs.Plans.{Lasts-zero}
use Rattle.flash_map.proofs.Touches.{untouched}
use Rattle.backend_api.specs.Map.{IsStored, IsAbsent}
use Rattle.migrator.specs.Active.{active_on}
use Rattle.mirror.specs.Trusted.{trusted_on}
use Rattle.script_lines.specs.declared.answer.Answer.TheVariants as settings
use Rattle.script_lines.specs.declared.lists.Pair.{Pair}
use Rattle.script_lines.specs.Plan.Replan.{keeps}
use Rattle.session.proofs.ActiveAreas.{selector_still}
use Rattle.session_table.specs.Bench.{area_at}
use Rattle.session_table.specs.Step.{as_pair}
use Rattle.mirror_session.specs.declared.line.Line.{Line}
use Rattle.mirror_session.specs.declared.line.Line.TheVariants.{Set, Get, Del, Names, Mount, Cut, Uncut, Blank}
use Rattle.mirror_session.specs.declared.answer.Answer.{Answer}
use Rattle.mirror_session.specs.declared.answer.Answer.TheVariants.{Plain, On, NoArea, NotYet}
use Rattle.mirror_session.specs.Answer.{done, off}
use Rattle.mirror_session.specs.Plan.{units_of, is_lost, replan}
use Rattle.mirror_session.specs.Bench.{Meanings, beside_in, is_gone, labelled, moment, rules_of, state_of}
use Rattle.mirror_session.specs.LineDone.{BothNow, Cuts, Finds, FitsThen, Keeps, LineDone, Replaced, Spares, StaysSound, powered_for, replaces, worked_on}
use Rattle.mirror_session.specs.Step.{Step, needs_power}
use Rattle.session_table.proofs.CountLemmas.{counted_none}
use Rattle.mirror_session.proofs.AccountLemmas.{kept, kept_beside}

none_spent : (units spent : ℕ) → units ≡ 0 → units ≡ spent - spent
none_spent units spent is = omega (arith, is)

module _ (m : Meanings) (areas : List Area) (d : Device) where
  quiet : (whole : Bool) (line : Line) (answer : Answer)
      → ((last : ℕ) → Step (rules_of m areas d.banks last) line answer (state_of m areas (moment d whole)) (state_of m areas (moment d whole)))
      → powered_for line d ≡ d → replan line answer ≡ keeps → replaces line answer ≡ false → is_lost answer ≡ false → units_of answer ≡ 0
      → Cuts m areas line answer d d → Finds m areas line answer d d → Spares m areas line answer d d → Replaced areas line answer d d → StaysSound m areas (moment d whole) (moment d whole) → FitsThen m areas line answer (moment d whole)
      → LineDone m areas line answer (moment d whole) (moment d whole)
  quiet whole line answer step same stays none lasts units cuts finds spares left sound fits = record {
    step = λ last within. step last;
    accounts = kept [] line answer d d (untouched [] d) stays lasts (none_spent (units_of answer) d.spent units);
    keeps = subst (λ (b : Bool). Keeps areas (cond b 1 0) d d) (sym none) (kept_beside areas d d false (untouched areas d));
    touches = λ plain.
        subst (λ (b : Bool). Touches (worked_on areas line d) (powered_for line d) d b) (sym lasts)
        (subst (λ (x : Device). Touches (worked_on areas line d) x d false) (sym same) (untouched (worked_on areas line d) d));
    blanks = left;
    quiet = λ is. refl;
    cuts = cuts;
    finds = finds;
    spares = spares;
    fits = fits;
    fit = λ is. is;
    both = λ is. is;
    sound = sound;
  }

  -- with power off
  pub off_line : (whole : Bool) (line : Line) → (d.is_on && whole) ≡ false → needs_power line ≡ true → LineDone m areas line off (moment d whole) (moment d whole)
  off_line whole (Set name value) dark needs = quiet whole (Set name value) off (λ last. (refl, dark, refl)) refl refl refl refl refl tt tt tt tt (λ shown. shown) tt
  off_line whole (Get name) dark needs = quiet whole (Get name) off (λ last. (refl, dark, refl)) refl refl refl refl refl tt tt tt tt (λ shown. shown) tt
  off_line whole (Del name) dark needs = quiet whole (Del name) off (λ last. (refl, dark, refl)) refl refl refl refl refl tt tt tt tt (λ shown. shown) tt
  off_line whole Names dark needs = quiet whole Names off (λ last. (refl, dark, refl)) refl refl refl refl refl tt tt tt tt (λ shown. shown) tt
  off_line whole Mount dark needs = absurd (false≢true needs)
  off_line whole (Cut units) dark needs = absurd (false≢true needs)
  off_line whole Uncut dark needs = absurd (false≢true needs)
  off_line whole (Blank label) dark needs = absurd (false≢true needs)

  none_up : (b : Bool) → (b && false) ≡ false
  none_up true = refl
  none_up false = refl

  pub no_power : (whole : Bool) → whole ≡ false → (d.is_on && whole) ≡ false
  no_power whole down = ap (λ (b : Bool). d.is_on && b) down ∙ none_up d.is_on

  pub off_dark : (whole : Bool) (line : Line) → d.is_on ≡ false → needs_power line ≡ true → LineDone m areas line off (moment d whole) (moment d whole)
  off_dark whole line dark needs = off_line whole line (ap (λ (b : Bool). b && whole) dark) needs

  pub off_down : (whole : Bool) (line : Line) → whole ≡ false → needs_power line ≡ true → LineDone m areas line off (moment d whole) (moment d whole)
  off_down whole line down needs = off_line whole line (no_power whole down) needs

  -- ---- lines that ask for settings

  powered : d.is_on ≡ true → (d.is_on && true) ≡ true
  powered power = ap (λ (b : Bool). b && true) power

  pub found : (name value : List ℕ) → d.is_on ≡ true → IsStored (on m.contents d (area_at areas (trusted_on areas d))) name value → LineDone m areas (Get name) (Plain (settings.Value value)) (moment d true) (moment d true)
  found name value power is = quiet true (Get name) (Plain (settings.Value value)) (λ last. (λ needs. powered power, (is, refl))) refl refl refl refl refl tt tt tt tt (λ shown. shown) tt

  pub missing : (name : List ℕ) → d.is_on ≡ true → IsAbsent (on m.contents d (area_at areas (trusted_on areas d))) name → LineDone m areas (Get name) (Plain settings.Absent) (moment d true) (moment d true)
  missing name power is = quiet true (Get name) (Plain settings.Absent) (λ last. (λ needs. powered power, (is, refl))) refl refl refl refl refl tt tt tt tt (λ shown. shown) tt

  pub names : (active : List ℕ) (pairs : List Pair) → d.is_on ≡ true → active ≡ (area_at areas (active_on areas d)).label.bytes → pairs ≡ map as_pair (entries (on m.contents d (area_at areas (trusted_on areas d))))
      → is_gone areas d ≡ false → LineDone m areas Names (Plain (settings.Names active pairs)) (moment d true) (moment d true)
  names active pairs power label are read =
      let at : active ≡ (area_at areas (cond (is_gone areas d) (beside_in areas (active_on areas d)) (active_on areas d))).label.bytes =
      label ∙ sym (ap (λ (b : Bool). (area_at areas (cond b (beside_in areas (active_on areas d)) (active_on areas d))).label.bytes) read) in
      quiet true Names (Plain (settings.Names active pairs)) (λ last. (λ needs. powered power, (at, are, read, refl))) refl refl refl refl refl tt tt tt tt (λ shown. shown) tt

  -- ---- an area that is not replaced

  pub blank_on : (label : List ℕ) → d.is_on ≡ true → LineDone m areas (Blank label) On (moment d true) (moment d true)
  blank_on label power = quiet true (Blank label) On (λ last. (powered power, refl)) refl refl refl refl refl tt tt tt tt (λ shown. shown) tt

  pub blank_none : (label : List ℕ) (whole : Bool) → (d.is_on && whole) ≡ false → labelled areas label ≡ None → LineDone m areas (Blank label) NoArea (moment d whole) (moment d whole)
  blank_none label whole dark none = quiet whole (Blank label) NoArea (λ last. (dark, none, refl)) refl refl refl refl refl tt tt tt tt (λ shown. shown) tt

  pub blank_early : (label : List ℕ) (place : ℕ) → (d.is_on && false) ≡ false → labelled areas label ≡ Some place → LineDone m areas (Blank label) NotYet (moment d false) (moment d false)
  blank_early label place dark is = quiet false (Blank label) NotYet (λ last. (dark, (place, is), refl, refl)) refl refl refl refl refl tt tt tt tt (λ shown. shown) tt

-- ---- plans

same_spent : (spent : ℕ) → spent + 0 ≡ spent
same_spent spent = omega arith

no_keeping : (units : ℕ) (answer : Answer) → replan (Cut units) answer ≡ keeps → ⊥
no_keeping units answer is = cc

no_dropping : (answer : Answer) → replan Uncut answer ≡ keeps → ⊥
no_dropping answer is = cc

both_still : (m : Meanings) (areas : List Area) (d : Device) (plan : Plan) (whole : Bool) → BothNow m areas (moment d whole) → BothNow m areas (moment (record d { plan = plan }) whole)
both_still m areas d plan whole is power = let both = is power in
    record { sound = selector_still areas d (record d { plan = plan }) refl (λ s at. refl) ∙ both.sound; undamaged = both.undamaged; reads = both.reads }

pub planned : (m : Meanings) (areas : List Area) (old new : Device) (units : ℕ) → new ≡ record old { plan = replanned old.plan (After units) } → (whole : Bool)
    → LineDone m areas (Cut units) (done 0) (moment old whole) (moment new whole)
planned m areas old new units is whole =
    subst (λ (d : Device). LineDone m areas (Cut units) (done 0) (moment old whole) (moment d whole)) (sym is)
    record {
      step = λ last within. (λ needs. absurd (false≢true needs), (refl, refl));
      accounts = record {
        spent = same_spent old.spent;
        losses = counted_none old.losses;
        allows = λ counts. Lasts-zero old.plan;
        plan = λ counts. refl;
        unplanned = λ free. absurd (free (done 0) units refl);
      };
      keeps = record { banks = refl; loaded = counted_none old.loads; outside = λ bank offset out. refl };
      touches = λ stays. absurd (no_keeping units (done 0) stays);
      blanks = tt;
      quiet = λ same. refl;
      cuts = tt;
      finds = tt;
      spares = tt;
      fits = tt;
      fit = λ is. is;
      both = both_still m areas old (replanned old.plan (After units)) whole;
      sound = λ shown. shown;
    }

pub unplanned : (m : Meanings) (areas : List Area) (old new : Device) → new ≡ record old { plan = dropped old.plan } → (whole : Bool)
    → LineDone m areas Uncut (done 0) (moment old whole) (moment new whole)
unplanned m areas old new is whole =
    subst (λ (d : Device). LineDone m areas Uncut (done 0) (moment old whole) (moment d whole)) (sym is)
    record {
      step = λ last within. (λ needs. absurd (false≢true needs), (refl, refl));
      accounts = record {
        spent = same_spent old.spent;
        losses = counted_none old.losses;
        allows = λ counts. Lasts-zero old.plan;
        plan = λ counts. refl;
        unplanned = λ free never. (ap dropped never, refl);
      };
      keeps = record { banks = refl; loaded = counted_none old.loads; outside = λ bank offset out. refl };
      touches = λ stays. absurd (no_dropping (done 0) stays);
      blanks = tt;
      quiet = λ same. refl;
      cuts = tt;
      finds = tt;
      spares = tt;
      fits = tt;
      fit = λ is. is;
      both = both_still m areas old (dropped old.plan) whole;
      sound = λ shown. shown;
    }
