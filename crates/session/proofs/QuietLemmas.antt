-- Lines that leave the bench as it is.
use Rattle.std.proofs.Common.{◌≡◌, ℕ, ◌-◌, Bool, true, false, List, [], ◌∷◌, map, refl, sym, subst, arith}
use Rattle.std.proofs.lemmas.Bool.{false≢true}
use Rattle.flash_sim.specs.Device.{Device}
use Rattle.flash_sim.specs.declared.flash.Loss.{Loss}
use Rattle.flash_map.specs.declared.area.Area.{Area}
use Rattle.flash_map.specs.declared.area.Geometry.{Geometry}
use Rattle.flash_map.specs.Touches.{Touches}
use Rattle.flash_map.proofs.Touches.{untouched}
use Rattle.handlers.specs.declared.handler.HandlerKind.{HandlerKind}
use Rattle.handlers.specs.Registry.{Registered}
use Rattle.backend_api.specs.Commands.{Command}
use Rattle.backend_api.specs.Map.{Map}
use Rattle.backend_api.specs.Room.{Room}
use Rattle.script_lines.specs.declared.line.Line.{Line}
use Rattle.script_lines.specs.declared.line.Line.TheVariants.{Set, Get, Del, Register, Load, Direct, Save, Commit, RunSet, RunGet, Names, Mount, Cut, Uncut, Migrate}
use Rattle.script_lines.specs.declared.answer.Answer.{Answer}
use Rattle.script_lines.specs.declared.answer.Answer.TheVariants.{Off}
use Rattle.script_lines.specs.Plan.{units_of, is_lost, replan}
use Rattle.script_lines.specs.Plan.Replan.{keeps}
use Rattle.session_table.specs.Bench.{Keeps, ReportsChance, area_at, is_selector, places_of, rules_of, state_of, worked_on}
use Rattle.session_table.specs.Step.{Step, needs_power}
use Rattle.migrator.specs.Active.{active_on}
use Rattle.session.specs.OnMap.{DoneBeside, DoneWithin, areas_worked_on, meanings, moment, powered_for}
use Rattle.session.proofs.AccountLemmas.{kept}
use Rattle.session.proofs.BoundLemmas.{none_within}

none_kept : (d : Device) → Keeps [] d d
none_kept d = record { banks = refl; loads = refl; outside = λ bank offset out. refl }

pub untouched_at : (areas : List Area) (d x : Device) (cut : Bool) → x ≡ d → cut ≡ false → Touches areas x d cut
untouched_at areas d x cut same lasts =
    subst (λ (b : Bool). Touches areas x d b) (sym lasts) (subst (λ (y : Device). Touches areas y d false) (sym same) (untouched areas d))

none_spent : (units spent : ℕ) → units ≡ 0 → units ≡ spent - spent
none_spent units spent is = omega (arith, is)

module _ (contents : Area → Geometry → List (List ℕ) → Map) (room : Area → Geometry → Room) (chance : Area → Geometry → List (List ℕ) → Loss → Bool) (tears : Area → Geometry → Command → ℕ → Map → Map → Type 0)
    (areas : List Area) (d : Device) where
  -- the handlers may change
  pub quiet : (line : Line) (answer : Answer) (registry others : List Registered) (pool left : List HandlerKind)
      → ((last : ℕ) → Step (rules_of (meanings contents room chance tears) areas d.banks last) line answer (state_of (meanings contents room chance tears) areas (moment d registry pool)) (state_of (meanings contents room chance tears) areas (moment d others left)))
      → powered_for line d ≡ d → replan line ≡ keeps → is_lost answer ≡ false → units_of answer ≡ 0
      → worked_on (rules_of (meanings contents room chance tears) areas d.banks 0) (places_of is_selector areas) line answer (active_on areas d ∷ []) ≡ []
      → ReportsChance (meanings contents room chance tears) areas line answer d
      → DoneWithin (meanings contents room chance tears) areas line answer (moment d registry pool) (moment d others left)
  quiet line answer registry others pool left step same stays lasts units none reported = record {
    done = record {
      step = λ last within. step last;
      accounts = kept [] line answer d d (untouched [] d) stays lasts (none_spent (units_of answer) d.spent units);
      keeps = subst (λ (places : List ℕ). Keeps (map (area_at areas) places) d d) (sym none) (none_kept d);
      chance = reported;
    };
    touches = λ plain. untouched_at (areas_worked_on (meanings contents room chance tears) areas line answer d) d (powered_for line d) (is_lost answer) same lasts;
    most = none_within (meanings contents room chance tears) areas line answer (moment d registry pool) units;
  }

  -- with power off
  off_line : (line : Line) → d.is_on ≡ false → needs_power line ≡ true → powered_for line d ≡ d → replan line ≡ keeps → ReportsChance (meanings contents room chance tears) areas line Off d → DoneBeside (meanings contents room chance tears) areas line Off d d
  off_line line dark needs same stays reported registry pool = quiet line Off registry registry pool pool (λ last. (needs, dark, refl)) same stays refl refl refl reported

  pub off : (line : Line) → d.is_on ≡ false → needs_power line ≡ true → DoneBeside (meanings contents room chance tears) areas line Off d d
  off (Set name value) dark needs = off_line (Set name value) dark needs refl refl tt
  off (Get name) dark needs = off_line (Get name) dark needs refl refl tt
  off (Del name) dark needs = off_line (Del name) dark needs refl refl tt
  off (Register subtree kind) dark needs = off_line (Register subtree kind) dark needs refl refl tt
  off (Load subtree) dark needs = off_line (Load subtree) dark needs refl refl tt
  off (Direct subtree) dark needs = off_line (Direct subtree) dark needs refl refl tt
  off (Save subtree) dark needs = off_line (Save subtree) dark needs refl refl tt
  off Commit dark needs = off_line Commit dark needs refl refl tt
  off (RunSet name value) dark needs = off_line (RunSet name value) dark needs refl refl tt
  off (RunGet name) dark needs = off_line (RunGet name) dark needs refl refl tt
  off Names dark needs = off_line Names dark needs refl refl tt
  off Migrate dark needs = off_line Migrate dark needs refl refl tt
  off Mount dark needs = absurd (false≢true needs)
  off (Cut units) dark needs = absurd (false≢true needs)
  off Uncut dark needs = absurd (false≢true needs)
