-- Lines on handlers that leave the bench as it is, with power on.
use Rattle.std.proofs.Common.{◌≡◌, ℕ, ◌-◌, true, false, Option, Some, List, [], ◌∷◌, ◌++◌, map, refl, sym, ap, subst, ◌∙◌, arith}
use Rattle.std.specs.Prelude.{IfOk, Result, Ok, Err}
use Rattle.std.specs.FinMap.{entries}
use Rattle.std.specs.Option.{unwrap_or}
use Rattle.flash_sim.specs.Device.{Device}
use Rattle.flash_map.specs.declared.area.Area.{Area}
use Rattle.flash_map.proofs.Touches.{untouched}
use Rattle.handlers.specs.declared.handler.HandlerKind.{HandlerKind}
use Rattle.handlers.specs.Registry.{Registered, subtrees}
use Rattle.backend_api.specs.Map.{Map}
use Rattle.settings_core.specs.Committing.{commit_all}
use Rattle.settings_core.specs.Deliveries as deliveries
use Rattle.settings_core.specs.Deliveries.{Delivery, delivered}
use Rattle.settings_core.specs.Loading.{Gives}
use Rattle.settings_core.specs.Reported.{reported_more}
use Rattle.settings_core.specs.declared.loading.Loaded.{Loaded as Counts}
use Rattle.script_lines.specs.declared.lists.Give.{Give}
use Rattle.script_lines.specs.declared.line.Line.{Line}
use Rattle.script_lines.specs.declared.line.Line.TheVariants.{Register, Load, Commit, RunSet, RunGet}
use Rattle.script_lines.specs.declared.answer.Answer.{Answer}
use Rattle.script_lines.specs.declared.answer.Answer.TheVariants.{Done, Value, Absent, Exists, NoKind, Rejected, NoHandler, Loaded}
use Rattle.script_lines.specs.Plan.{units_of, is_lost, replan}
use Rattle.script_lines.specs.Plan.Replan.{keeps}
use Rattle.session_table.specs.Bench.{Meanings, Keeps, ReportsChance, area_at, is_selector, places_of, rules_of, state_of, worked_on}
use Rattle.session_table.specs.State.{State}
use Rattle.session_table.specs.Step.{Step, Registers, Loads, Commits, Offers, Asks, give}
use Rattle.migrator.specs.Active.{active_on}
use Rattle.session.specs.Handling.{beside, as_given}
use Rattle.session.specs.OnMap.{DoneWithin, areas_worked_on, moment, powered_for}
use Rattle.session.proofs.AccountLemmas.{kept}
use Rattle.session.proofs.BoundLemmas.{none_within}
use Rattle.session.proofs.QuietLemmas.{untouched_at}

pub if-ok : {X E : Type 0} (P Q : X → Type 0) (r : Result X E) → ((x : X) → P x → Q x) → IfOk r P → IfOk r Q
if-ok P Q (Ok x) goes is = goes x is
if-ok P Q (Err e) goes is = tt

none-kept : (d : Device) → Keeps [] d d
none-kept d = record { banks = refl; loads = refl; outside = λ bank offset out. refl }

none-spent : (units spent : ℕ) → units ≡ 0 → units ≡ spent - spent
none-spent units spent is = omega (arith, is)

module _ (m : Meanings) (areas : List Area) (d : Device) (powered : d.is_on ≡ true) (registry others : List Registered) (pool left : List HandlerKind) where
  quiet : (line : Line) (answer : Answer) → ((last : ℕ) → Step (rules_of m areas d.banks last) line answer (state_of m areas (moment d registry pool)) (state_of m areas (moment d others left)))
      → powered_for line d ≡ d → replan line ≡ keeps → is_lost answer ≡ false → units_of answer ≡ 0
      → worked_on (rules_of m areas d.banks 0) (places_of is_selector areas) line answer (active_on areas d ∷ []) ≡ [] → ReportsChance m areas line answer d
      → DoneWithin m areas line answer (moment d registry pool) (moment d others left)
  quiet line answer step same stays lasts units none reported = record {
    done = record {
      step = λ last within. step last;
      accounts = kept [] line answer d d (untouched [] d) stays lasts (none-spent (units_of answer) d.spent units);
      keeps = subst (λ (places : List ℕ). Keeps (map (area_at areas) places) d d) (sym none) (none-kept d);
      chance = reported;
    };
    touches = λ plain. untouched_at (areas_worked_on m areas line answer d) d (powered_for line d) (is_lost answer) same lasts;
    most = none_within m areas line answer (moment d registry pool) units;
  }

  pub registers : (subtree : List ℕ) (kind : HandlerKind) (answer : Answer) → ((s : State) → Registers subtree kind answer (beside s registry pool) (beside s others left))
      → DoneWithin m areas (Register subtree kind) answer (moment d registry pool) (moment d others left)
  registers subtree kind Exists is = quiet (Register subtree kind) Exists (λ last. (λ needs. powered, is (state_of m areas (moment d registry pool)))) refl refl refl refl refl tt
  registers subtree kind NoKind is = quiet (Register subtree kind) NoKind (λ last. (λ needs. powered, is (state_of m areas (moment d registry pool)))) refl refl refl refl refl tt
  registers subtree kind (Done units) is =
      quiet (Register subtree kind) (Done units) (λ last. (λ needs. powered, is (state_of m areas (moment d registry pool)))) refl refl refl (is (state_of m areas (moment d registry pool))).0 refl tt
  registers subtree kind answer is = absurd (is (state_of m areas (moment d registry pool)))

module _ (m : Meanings) (areas : List Area) (d : Device) (powered : d.is_on ≡ true) (registry others : List Registered) (pool : List HandlerKind) where
  pub loads : (subtree : Option (List ℕ)) (answer : Answer) → Loads subtree answer (state_of m areas (moment d registry pool)) (state_of m areas (moment d others pool))
      → DoneWithin m areas (Load subtree) answer (moment d registry pool) (moment d others pool)
  loads subtree (Loaded gives taken rejected passed) is = quiet m areas d powered registry others pool pool (Load subtree) (Loaded gives taken rejected passed) (λ last. (λ needs. powered, is)) refl refl refl refl refl tt
  loads subtree answer is = absurd is

  pub commits : (answer : Answer) → ((s : State) → Commits answer (beside s registry s.pool) (beside s others s.pool)) → DoneWithin m areas Commit answer (moment d registry pool) (moment d others pool)
  commits (Done units) is =
      quiet m areas d powered registry others pool pool Commit (Done units) (λ last. (λ needs. powered, is (state_of m areas (moment d registry pool)))) refl refl refl (is (state_of m areas (moment d registry pool))).0 refl tt
  commits answer is = absurd (is (state_of m areas (moment d registry pool)))

  pub offers : (name value : List ℕ) (answer : Answer) → ((s : State) → Offers name value answer (beside s registry s.pool) (beside s others s.pool)) → DoneWithin m areas (RunSet name value) answer (moment d registry pool) (moment d others pool)
  offers name value NoHandler is = quiet m areas d powered registry others pool pool (RunSet name value) NoHandler (λ last. (λ needs. powered, is (state_of m areas (moment d registry pool)))) refl refl refl refl refl tt
  offers name value Rejected is = quiet m areas d powered registry others pool pool (RunSet name value) Rejected (λ last. (λ needs. powered, is (state_of m areas (moment d registry pool)))) refl refl refl refl refl tt
  offers name value (Done units) is =
      quiet m areas d powered registry others pool pool (RunSet name value) (Done units) (λ last. (λ needs. powered, is (state_of m areas (moment d registry pool)))) refl refl refl (is (state_of m areas (moment d registry pool))).1 refl tt
  offers name value answer is = absurd (is (state_of m areas (moment d registry pool)))

module _ (m : Meanings) (areas : List Area) (d : Device) (powered : d.is_on ≡ true) (registry : List Registered) (pool : List HandlerKind) where
  pub asks : (name : List ℕ) (answer : Answer) → ((s : State) → Asks name answer (beside s registry s.pool) (beside s registry s.pool)) → DoneWithin m areas (RunGet name) answer (moment d registry pool) (moment d registry pool)
  asks name NoHandler is = quiet m areas d powered registry registry pool pool (RunGet name) NoHandler (λ last. (λ needs. powered, is (state_of m areas (moment d registry pool)))) refl refl refl refl refl tt
  asks name Absent is = quiet m areas d powered registry registry pool pool (RunGet name) Absent (λ last. (λ needs. powered, is (state_of m areas (moment d registry pool)))) refl refl refl refl refl tt
  asks name (Value value) is = quiet m areas d powered registry registry pool pool (RunGet name) (Value value) (λ last. (λ needs. powered, is (state_of m areas (moment d registry pool)))) refl refl refl refl refl tt
  asks name answer is = absurd (is (state_of m areas (moment d registry pool)))

-- ---- what a load gave

abbrev as-reported : deliveries.Give → Give
as-reported given = record { subtree = given.subtree; rest = given.rest; value = given.value; taken = given.taken }

gives-back : (gives : List Give) → map as-reported (map as_given gives) ≡ gives
gives-back [] = refl
gives-back (first ∷ gives) = ap (λ (rest : List Give). first ∷ rest) (gives-back gives)

as-answered : (registry : List Registered) (ds : List Delivery) → map as-reported (map (deliveries.give registry) ds) ≡ map (give registry) ds
as-answered registry [] = refl
as-answered registry (d ∷ ds) = ap (λ (rest : List Give). give registry d ∷ rest) (as-answered registry ds)

pub reported-gives : (registry : List Registered) (ds : List Delivery) (before gives : List Give) → before ≡ [] → Some (map as_given gives) ≡ reported_more (Some (map as_given before)) (map (deliveries.give registry) ds)
    → gives ≡ map (give registry) ds
reported-gives registry ds before gives none is =
    sym (gives-back gives)
    ∙ ap (λ (reported : Option (List deliveries.Give)). map as-reported (unwrap_or reported [])) (is ∙ ap (λ (first : List Give). Some (map as_given first ++ map (deliveries.give registry) ds)) none)
    ∙ as-answered registry ds

pub load-done : (registry full others : List Registered) (before gives : List Give) (subtree : Option (List ℕ)) (settings : Map) (counts : Counts) (s : State) → before ≡ [] → s.settings ≡ settings
    → Gives registry full (Some (map as_given before)) (Some (map as_given gives)) subtree (entries settings) counts → others ≡ commit_all subtree full
    → Loads subtree (Loaded gives counts.taken counts.rejected counts.passed) (beside s registry s.pool) (beside s others s.pool)
load-done registry full others before gives subtree settings counts s none here given committed =
    subst (λ (settings : Map). Loads subtree (Loaded gives counts.taken counts.rejected counts.passed) (beside (record s { settings = settings }) registry s.pool) (beside (record s { settings = settings }) others s.pool)) (sym here) (
      reported-gives registry (delivered (subtrees registry) subtree (entries settings)) before gives none given.reported,
      given.taken,
      given.rejected,
      given.passed,
      ap (λ (hs : List Registered). beside (record s { settings = settings }) hs s.pool) (committed ∙ ap (commit_all subtree) given.handlers),
    )
