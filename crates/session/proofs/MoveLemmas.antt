-- A migration as a line.
use Rattle.std.proofs.Common.{◌≡◌, ℕ, zero, suc, ◌-◌, ◌<◌, ◌≤◌, Bool, true, false, List, [], ◌∷◌, ◌++◌, map, get_or, Option, Some, None, Result, Ok, Err, refl, sym, ap, subst, ◌∙◌, inl, inr, arith}
use Rattle.std.specs.Prelude.{Contains, filter_map}
use Rattle.std.specs.FinMap.{empty, len}
use Rattle.std.specs.List.{cons_option, slice_get}
use Rattle.std.proofs.lemmas.Bool.{false≢true}
use Rattle.std.proofs.lemmas.Option.{none-some}
use Rattle.std.proofs.lemmas.List.Elements.{Contains-append_left, Contains-append_right}
use Rattle.flash_sim.specs.Device.{Device}
use Rattle.flash_sim.specs.declared.flash.Loss.{Loss}
use Rattle.flash_map.specs.declared.area.Area.{Area}
use Rattle.flash_map.specs.declared.area.Geometry.{Geometry}
use Rattle.flash_map.specs.declared.faults.Damaged.{Damaged}
use Rattle.flash_map.specs.Area.{geometry_of, sectors_of}
use Rattle.flash_map.specs.On.{on}
use Rattle.std.specs.Option.{option_map_or}
use Rattle.flash_map.specs.Spending.{SpendsAtMost}
use Rattle.flash_map.specs.Touches.{Touches}
use Rattle.flash_map.proofs.Touches.{wider}
use Rattle.handlers.specs.declared.handler.HandlerKind.{HandlerKind}
use Rattle.handlers.specs.Registry.{Registered}
use Rattle.backend_api.specs.Commands.{Command}
use Rattle.backend_api.specs.Map.{Map}
use Rattle.backend_api.specs.Room.{Room}
use Rattle.fcb_ring.specs.declared.ring.Ring.{Ring}
use Rattle.migrator.specs.declared.migrating.MigrateFault.{MigrateFault}
use Rattle.migrator.specs.declared.migrating.MigrateFault.TheVariants.{NoTarget as HasNoTarget, NoSpace as HasNoSpace, TooManyNames, PowerLost, NoMemory}
use Rattle.migrator.specs.declared.selecting.Selector.{Selector}
use Rattle.migrator.specs.Active.{active_on, active_in}
use Rattle.migrator.specs.Areas.{selector_of, target}
use Rattle.migrator.specs.Choosing.{IsOpen}
use Rattle.migrator.specs.Migrating.{FillsAndChooses, MigrateEnds, ReadsAs, IsMoved, IsTarget, StaysActive, IsServed, migrate_lost, is_refused, room_on, worked_on, migrate_units}
use Rattle.migrator.proofs.Migration.{active-on, worked-is}
use Rattle.settings_core.specs.declared.settings.Settings.{Settings}
use Rattle.settings_core.specs.Carrying.{AreFree, MeetsNoRoom}
use Rattle.script_lines.specs.declared.line.Line.TheVariants.{Migrate}
use Rattle.script_lines.specs.declared.answer.Answer.{Answer}
use Rattle.script_lines.specs.declared.answer.Answer.TheVariants.{Done, Lost, NoSpace, NoTarget, TooMany}
use Rattle.session_table.specs.Bench.{Keeps, area_at, is_selector, places_of, state_of}
use Rattle.session_table.specs.Commands.{StopsForNames, all_puts}
use Rattle.session_table.specs.State.{State}
use Rattle.session.specs.Moving.{answer_to}
use Rattle.session.specs.OnMap.{BeginsMove, ChoosesOnce, DoneBeside, DoneWithin, IsServedMap, PutsOne, SameSelector, StandsOnMap, active_area, damage_in, may_choose, meanings, moment, move_bound}
use Rattle.session.proofs.AccountLemmas.{kept, lost}
use Rattle.session.proofs.BoundLemmas.{spent_most}
use Rattle.session.proofs.ActiveAreas.{area_there, image, selector_listed}
use Rattle.session.proofs.DamageLemmas.{damage_none}
use Rattle.session.proofs.PutLemmas.{all_free, stops_for_names, meets_no_room}
use Rattle.session.proofs.ReportLemmas.{no_target}

some_same : {X : Type 0} (x y : X) → Some x ≡ Some y → x ≡ y
some_same x y e = cc

units_are : (before after old new : ℕ) → before ≡ old → after ≡ new → new - old ≡ after - before
units_are before after old new from to = omega (arith, from, to)

-- ---- the areas that it works on, as the table has them

of_two : (P : Area → Type 0) (first second x : Area) (k : ℕ) → k < 2 → get_or (first ∷ second ∷ []) k x ≡ x → P first → P second → P x
of_two P first second x zero below is p q = subst P is p
of_two P first second x (suc zero) below is p q = subst P is q
of_two P first second x (suc (suc k)) below is p q = absurd (omega (arith, below))

two_in : (areas : List Area) (s area : Area) (index : ℕ) → selector_of areas ≡ Some s → slice_get areas index ≡ Some area
    → (x : Area) → Contains (area ∷ s ∷ []) x → Contains (map (area_at areas) (places_of is_selector areas ++ index ∷ [])) x
two_in areas s area index selected there x has =
    let found = selector_listed areas s selected in
    of_two (Contains (map (area_at areas) (places_of is_selector areas ++ index ∷ []))) area s x has.0 has.1 has.2
    (subst (λ (a : Area). Contains (map (area_at areas) (places_of is_selector areas ++ index ∷ [])) a) (area_there areas index area there)
    (image (area_at areas) (places_of is_selector areas ++ index ∷ []) index (Contains-append_right (places_of is_selector areas) (index ∷ []) index (0, omega arith, refl))))
    (subst (λ (a : Area). Contains (map (area_at areas) (places_of is_selector areas ++ index ∷ [])) a) found.2
    (image (area_at areas) (places_of is_selector areas ++ index ∷ []) found.0 (Contains-append_left (places_of is_selector areas) (index ∷ []) found.0 found.1)))

module _ {K : Type 0} (mounted_on : K → Area) (damage : Area → Geometry → List (List ℕ) → Option Damaged)
    (contents : Area → Geometry → List (List ℕ) → Map) (room : Area → Geometry → Room) (chance : Area → Geometry → List (List ℕ) → Loss → Bool) (tears : Area → Geometry → Command → ℕ → Map → Map → Type 0)
    (areas : List Area) (s : Area) (d e : Device) where
  -- what a migration from the active area made of the bench
  pub record Migrated (r : Result (K × ℕ) MigrateFault) : Type 0 where
    pub selected : selector_of areas ≡ Some s
    pub touches : Touches (worked_on areas s (active_on areas d)) d e (migrate_lost r)
    pub reads : ReadsAs damage contents areas e (on contents d (active_area areas d))
    pub ends : MigrateEnds mounted_on damage contents room areas s (active_on areas d) (on contents d (active_area areas d)) d e r
    pub at_most : SpendsAtMost d e (migrate_units d areas s (active_on areas d) (len (on contents d (active_area areas d))))
    pub stays : is_refused r ≡ true → sectors_of e s ≡ sectors_of d s

  -- from an area that is the active one
  pub migrated : (source : Area) (active : ℕ) (r x : Result (K × ℕ) MigrateFault) → active ≡ active_on areas d → source ≡ active_area areas d → r ≡ x → selector_of areas ≡ Some s
      → Touches (worked_on areas s active) d e (migrate_lost r) → ReadsAs damage contents areas e (on contents d source)
      → MigrateEnds mounted_on damage contents room areas s active (on contents d source) d e r → SpendsAtMost d e (migrate_units d areas s active (len (on contents d source)))
      → (is_refused r ≡ true → sectors_of e s ≡ sectors_of d s) → Migrated x
  migrated source active r x is_active is_source is selected touches reads ends at_most stays = subst Migrated is (record {
    selected = selected;
    touches = subst (λ (place : ℕ). Touches (worked_on areas s place) d e (migrate_lost r)) is_active touches;
    reads = subst (λ (a : Area). ReadsAs damage contents areas e (on contents d a)) is_source reads;
    ends = subst (λ (place : ℕ). MigrateEnds mounted_on damage contents room areas s place (on contents d (active_area areas d)) d e r) is_active
        (subst (λ (a : Area). MigrateEnds mounted_on damage contents room areas s active (on contents d a) d e r) is_source ends);
    at_most = subst (λ (place : ℕ). SpendsAtMost d e (migrate_units d areas s place (len (on contents d (active_area areas d))))) is_active
        (subst (λ (a : Area). SpendsAtMost d e (migrate_units d areas s active (len (on contents d a)))) is_source at_most);
    stays = stays;
  })

  pub sound_by : (r : Result (K × ℕ) MigrateFault) → Migrated r → damage_in damage areas e ≡ None
  sound_by r m =
      damage_none damage areas e m.reads.sound (subst (λ (a : Area). on damage e a ≡ None) (sym (area_there areas (active_on areas e) m.reads.area m.reads.there)) m.reads.undamaged)

  stays_active : selector_of areas ≡ Some s → StaysActive areas s d e → active_on areas e ≡ active_on areas d
  stays_active selected same = active-on areas e s selected ∙ same ∙ sym (active-on areas d s selected)

  goes_to : (index : ℕ) → selector_of areas ≡ Some s → active_in areas e s ≡ index → active_on areas e ≡ index
  goes_to index selected is = active-on areas e s selected ∙ is

  same_contents : ReadsAs damage contents areas e (on contents d (active_area areas d)) → on contents e (active_area areas e) ≡ on contents d (active_area areas d)
  same_contents reads = ap (on contents e) (area_there areas (active_on areas e) reads.area reads.there) ∙ reads.reads

  moves_most : (r : Result (K × ℕ) MigrateFault) → Migrated r → SpendsAtMost d e (move_bound (meanings contents room chance tears) areas d)
  moves_most r m =
      subst (λ (o : Option Area). SpendsAtMost d e (option_map_or (λ selector. migrate_units d areas selector (active_on areas d) (len (on contents d (active_area areas d)))) o 0)) (sym m.selected) m.at_most

  moves_within : (r : Result (K × ℕ) MigrateFault) → Migrated r → e.spent - d.spent ≤ move_bound (meanings contents room chance tears) areas d
  moves_within r m = spent_most d e (move_bound (meanings contents room chance tears) areas d) (e.spent - d.spent) refl (moves_most r m)

  -- ---- the line

  module _ (registry : List Registered) (pool : List HandlerKind) (powered : d.is_on ≡ true) where
    abbrev before_it : State
    before_it = state_of (meanings contents room chance tears) areas (moment d registry pool)

    abbrev behind_it : State
    behind_it = state_of (meanings contents room chance tears) areas (moment e registry pool)

    state_to : (power : Bool) (to : ℕ) → ReadsAs damage contents areas e (on contents d (active_area areas d)) → e.is_on ≡ power → active_on areas e ≡ to
        → behind_it ≡ record before_it { is_on = power; active = to }
    state_to power to reads is_on at =
        ap (λ (m : Map). record behind_it { settings = m }) (same_contents reads)
        ∙ ap (λ (b : Bool). record before_it { is_on = b; active = active_on areas e }) is_on
        ∙ ap (λ (n : ℕ). record before_it { is_on = power; active = n }) at

    touches_of : (cut : Bool) (index : ℕ) (area : Area) → selector_of areas ≡ Some s → IsTarget areas (active_on areas d) index area → Touches (worked_on areas s (active_on areas d)) d e cut
        → Touches (map (area_at areas) (places_of is_selector areas ++ filter_map (target areas) (active_on areas d ∷ []))) d e cut
    touches_of cut index area selected is touches =
        let two : Touches (area ∷ s ∷ []) d e cut = subst (λ (all : List Area). Touches all d e cut) (worked-is areas s area (active_on areas d) index is.target is.there) touches in
        let wide = wider (map (area_at areas) (places_of is_selector areas ++ index ∷ [])) (two_in areas s area index selected is.there) two in
        subst (λ (places : List ℕ). Touches (map (area_at areas) (places_of is_selector areas ++ places)) d e cut) (sym (ap (λ (o : Option ℕ). cons_option o []) is.target)) wide

    keeps_of : (cut : Bool) (index : ℕ) (area : Area) → selector_of areas ≡ Some s → IsTarget areas (active_on areas d) index area → Touches (worked_on areas s (active_on areas d)) d e cut
        → Keeps (map (area_at areas) (places_of is_selector areas ++ filter_map (target areas) (active_on areas d ∷ []))) d e
    keeps_of cut index area selected is touches =
        let wide = touches_of cut index area selected is touches in
        record { banks = wide.banks; loads = wide.loads; outside = wide.outside }

    -- the numbers of the target, by its place
    at_place : (P : Area → Type 0) (index : ℕ) (area : Area) → slice_get areas index ≡ Some area → P area → P (area_at areas index)
    at_place P index area there p = subst P (sym (area_there areas index area there)) p

    free_at : (index : ℕ) (area : Area) → slice_get areas index ≡ Some area → IsMoved damage contents (room_on room d area) areas s area index (on contents d (active_area areas d)) e
        → AreFree (room (area_at areas index) (geometry_of d (area_at areas index))) empty (all_puts (on contents d (active_area areas d)))
    free_at index area there moved =
        at_place (λ (a : Area). AreFree (room a (geometry_of d a)) empty (all_puts (on contents d (active_area areas d)))) index area there (all_free (room_on room d area) (on contents d (active_area areas d)) moved.free)

    pub moved_done : (x : K × ℕ) → Migrated (Ok x) → DoneWithin (meanings contents room chance tears) areas Migrate (Done (e.spent - d.spent)) (moment d registry pool) (moment e registry pool)
    moved_done x m = record {
      done = record {
        step = λ last within. (λ needs. powered, (m.ends.0, m.ends.2.target, (free_at m.ends.0 m.ends.1 m.ends.2.there m.ends.3.2, state_to d.is_on m.ends.0 m.reads m.touches.ends.on (goes_to m.ends.0 m.selected m.ends.3.2.active))));
        accounts = kept (worked_on areas s (active_on areas d)) Migrate (Done (e.spent - d.spent)) d e m.touches refl refl refl;
        keeps = keeps_of false m.ends.0 m.ends.1 m.selected m.ends.2 m.touches;
        chance = tt;
      };
      touches = λ plain. touches_of false m.ends.0 m.ends.1 m.selected m.ends.2 m.touches;
      most = moves_within (Ok x) m;
    }

    pub names_done : Migrated (Err TooManyNames) → DoneWithin (meanings contents room chance tears) areas Migrate (TooMany (e.spent - d.spent)) (moment d registry pool) (moment e registry pool)
    names_done m =
        let stops = stops_for_names (room_on room d m.ends.1) (on contents d (active_area areas d)) m.ends.3.0 in
        let at = at_place (λ (a : Area). StopsForNames (room a (geometry_of d a)) (all_puts (on contents d (active_area areas d))) stops.0 empty stops.1) m.ends.0 m.ends.1 m.ends.2.there stops.2 in
        record {
          done = record {
            step = λ last within. (λ needs. powered, (m.ends.0, m.ends.2.target, (stops.0, stops.1, at, state_to d.is_on (active_on areas d) m.reads m.touches.ends.on (stays_active m.selected m.ends.3.1))));
            accounts = kept (worked_on areas s (active_on areas d)) Migrate (TooMany (e.spent - d.spent)) d e m.touches refl refl refl;
            keeps = keeps_of false m.ends.0 m.ends.1 m.selected m.ends.2 m.touches;
            chance = tt;
          };
          touches = λ plain. touches_of false m.ends.0 m.ends.1 m.selected m.ends.2 m.touches;
          most = moves_within (Err TooManyNames) m;
        }

    pub full_done : (need live : ℕ) → Migrated (Err (HasNoSpace need live)) → DoneWithin (meanings contents room chance tears) areas Migrate (NoSpace (e.spent - d.spent) need live) (moment d registry pool) (moment e registry pool)
    full_done need live m =
        let meets = meets_no_room (room_on room d m.ends.1) (on contents d (active_area areas d)) m.ends.1.sectors need live m.ends.3.0 in
        let at = at_place (λ (a : Area). MeetsNoRoom (room a (geometry_of d a)) a.sectors empty meets.1 (all_puts (on contents d (active_area areas d))) meets.0 need live) m.ends.0 m.ends.1 m.ends.2.there meets.2 in
        record {
          done = record {
            step = λ last within. (λ needs. powered, (m.ends.0, m.ends.2.target, (meets.0, meets.1, at, state_to d.is_on (active_on areas d) m.reads m.touches.ends.on (stays_active m.selected m.ends.3.1))));
            accounts = kept (worked_on areas s (active_on areas d)) Migrate (NoSpace (e.spent - d.spent) need live) d e m.touches refl refl refl;
            keeps = keeps_of false m.ends.0 m.ends.1 m.selected m.ends.2 m.touches;
            chance = tt;
          };
          touches = λ plain. touches_of false m.ends.0 m.ends.1 m.selected m.ends.2 m.touches;
          most = moves_within (Err (HasNoSpace need live)) m;
        }

    pub lost_done : Migrated (Err PowerLost) → DoneWithin (meanings contents room chance tears) areas Migrate (Lost (e.spent - d.spent) false) (moment d registry pool) (moment e registry pool)
    lost_done m =
        let cut = m.touches.ends powered in
        record {
          done = record {
            step = λ last within. (
              λ needs. powered,
              (
                m.ends.0,
                m.ends.2.target,
                elim m.ends.3 [
                  | inl same ↦ inl (state_to false (active_on areas d) m.reads cut.off (stays_active m.selected same))
                  | inr moved ↦ inr (free_at m.ends.0 m.ends.1 m.ends.2.there moved, state_to false m.ends.0 m.reads cut.off (goes_to m.ends.0 m.selected moved.active))
                ],
              ),
            );
            accounts = lost (worked_on areas s (active_on areas d)) Migrate (Lost (e.spent - d.spent) false) d e powered m.touches refl refl refl;
            keeps = keeps_of true m.ends.0 m.ends.1 m.selected m.ends.2 m.touches;
            chance = tt;
          };
          touches = λ plain. touches_of true m.ends.0 m.ends.1 m.selected m.ends.2 m.touches;
          most = moves_within (Err PowerLost) m;
        }

    pub none_done : Migrated (Err HasNoTarget) → DoneWithin (meanings contents room chance tears) areas Migrate NoTarget (moment d registry pool) (moment e registry pool)
    none_done m =
        subst (λ (x : Device). DoneWithin (meanings contents room chance tears) areas Migrate NoTarget (moment d registry pool) (moment x registry pool)) (sym m.ends.1)
        (no_target contents room chance tears areas d powered registry pool m.ends.0)

  module _ (powered : d.is_on ≡ true) (before after : ℕ) (from : before ≡ d.spent) (to : after ≡ e.spent) where
    units : e.spent - d.spent ≡ after - before
    units = units_are before after d.spent e.spent from to

    by_units : (make : ℕ → Answer) → ((registry : List Registered) (pool : List HandlerKind) → DoneWithin (meanings contents room chance tears) areas Migrate (make (e.spent - d.spent)) (moment d registry pool) (moment e registry pool))
        → DoneBeside (meanings contents room chance tears) areas Migrate (make (after - before)) d e
    by_units make done registry pool =
        subst (λ (n : ℕ). DoneWithin (meanings contents room chance tears) areas Migrate (make n) (moment d registry pool) (moment e registry pool)) units (done registry pool)

    pub moved_by : (x : K × ℕ) → Migrated (Ok x) → DoneBeside (meanings contents room chance tears) areas Migrate (Done (after - before)) d e
    moved_by x m = by_units (λ n. Done n) (λ registry pool. moved_done registry pool powered x m)

    by_answer : (x answer : Answer) → Some x ≡ Some answer → DoneBeside (meanings contents room chance tears) areas Migrate x d e → DoneBeside (meanings contents room chance tears) areas Migrate answer d e
    by_answer x answer is done = subst (λ (y : Answer). DoneBeside (meanings contents room chance tears) areas Migrate y d e) (some_same x answer is) done

    at_fault : (fault : MigrateFault) (answer : Answer) → answer_to fault (after - before) ≡ Some answer → Migrated (Err fault) → DoneBeside (meanings contents room chance tears) areas Migrate answer d e
    at_fault HasNoTarget answer is m = by_answer NoTarget answer is (λ registry pool. none_done registry pool powered m)
    at_fault (HasNoSpace need live) answer is m = by_answer (NoSpace (after - before) need live) answer is (by_units (λ n. NoSpace n need live) (λ registry pool. full_done registry pool powered need live m))
    at_fault TooManyNames answer is m = by_answer (TooMany (after - before)) answer is (by_units (λ n. TooMany n) (λ registry pool. names_done registry pool powered m))
    at_fault PowerLost answer is m = by_answer (Lost (after - before) false) answer is (by_units (λ n. Lost n false) (λ registry pool. lost_done registry pool powered m))
    at_fault NoMemory answer is m = absurd (none-some answer is)

    pub refused_by : (fault : MigrateFault) (answer : Answer) (o : Option Answer) → o ≡ answer_to fault (after - before) → o ≡ Some answer → Migrated (Err fault) → DoneBeside (meanings contents room chance tears) areas Migrate answer d e
    refused_by fault answer o is some m = at_fault fault answer (sym is ∙ some) m

  -- where the settings were not moved, and power was not lost, the selector stays
  same_for : (r : Result (K × ℕ) MigrateFault) → Migrated r → is_refused r ≡ true → SameSelector areas d e
  same_for r m refused x is = subst (λ (a : Area). sectors_of e a ≡ sectors_of d a) (some_same s x (sym m.selected ∙ is)) (m.stays refused)

  same_at : (fault : MigrateFault) (spent : ℕ) (answer : Answer) → answer_to fault spent ≡ Some answer → Migrated (Err fault) → may_choose Migrate answer ≡ false → SameSelector areas d e
  same_at HasNoTarget spent answer is m none = same_for (Err HasNoTarget) m refl
  same_at (HasNoSpace need live) spent answer is m none = same_for (Err (HasNoSpace need live)) m refl
  same_at TooManyNames spent answer is m none = same_for (Err TooManyNames) m refl
  same_at PowerLost spent answer is m none = absurd (false≢true (sym none ∙ ap (λ (x : Answer). may_choose Migrate x) (sym (some_same (Lost spent false) answer is))))
  same_at NoMemory spent answer is m none = same_for (Err NoMemory) m refl

  pub same_by : (fault : MigrateFault) (units : ℕ) (answer : Answer) (o : Option Answer) → o ≡ answer_to fault units → o ≡ Some answer → Migrated (Err fault) → may_choose Migrate answer ≡ false → SameSelector areas d e
  same_by fault units answer o is some m none = same_at fault units answer (sym is ∙ some) m none

  -- the settings were moved, by one record
  pub puts_one : (ring : Ring) (source : Area) (x : K × ℕ) → s ≡ ring.area → source ≡ active_area areas d → IsOpen d ring → Migrated (Ok x) → FillsAndChooses areas d e ring (mounted_on x.0) x.1 (len (on contents d source))
      → PutsOne (meanings contents room chance tears) areas d e
  puts_one ring source x same is_source opened m moved = record {
    ring = ring;
    selected = m.selected ∙ ap (λ (a : Area). Some a) same;
    opened = opened;
    index = m.ends.0;
    is = m.ends.2.target;
    moved = subst (λ (a : Area). FillsAndChooses areas d e ring (area_at areas m.ends.0) m.ends.0 (len (on contents d a))) is_source
        (subst (λ (n : ℕ). FillsAndChooses areas d e ring (area_at areas m.ends.0) n (len (on contents d source))) m.ends.3.0
        (subst (λ (a : Area). FillsAndChooses areas d e ring a x.1 (len (on contents d source))) (m.ends.3.1 ∙ sym (area_there areas m.ends.0 m.ends.1 m.ends.2.there)) moved));
  }

  none_put : (x answer : Answer) → Some x ≡ Some answer → ChoosesOnce (meanings contents room chance tears) areas Migrate x d e → ChoosesOnce (meanings contents room chance tears) areas Migrate answer d e
  none_put x answer is done = subst (λ (y : Answer). ChoosesOnce (meanings contents room chance tears) areas Migrate y d e) (some_same x answer is) done

  none_at : (fault : MigrateFault) (spent : ℕ) (answer : Answer) → answer_to fault spent ≡ Some answer → ChoosesOnce (meanings contents room chance tears) areas Migrate answer d e
  none_at HasNoTarget spent answer is = none_put NoTarget answer is tt
  none_at (HasNoSpace need live) spent answer is = none_put (NoSpace spent need live) answer is tt
  none_at TooManyNames spent answer is = none_put (TooMany spent) answer is tt
  none_at PowerLost spent answer is = none_put (Lost spent false) answer is tt
  none_at NoMemory spent answer is = absurd (none-some answer is)

  pub none_by : (fault : MigrateFault) (spent : ℕ) (answer : Answer) (o : Option Answer) → o ≡ answer_to fault spent → o ≡ Some answer → ChoosesOnce (meanings contents room chance tears) areas Migrate answer d e
  none_by fault spent answer o is some = none_at fault spent answer (sym is ∙ some)

  -- memory was wanting
  begins : (fault : MigrateFault) → answer_to fault 0 ≡ None → Migrated (Err fault) → BeginsMove (meanings contents room chance tears) areas d e
  begins HasNoTarget none m = absurd (none-some NoTarget (sym none))
  begins (HasNoSpace need live) none m = absurd (none-some (NoSpace 0 need live) (sym none))
  begins TooManyNames none m = absurd (none-some (TooMany 0) (sym none))
  begins PowerLost none m = absurd (none-some (Lost 0 false) (sym none))
  begins NoMemory none m = record {
    selector = s;
    is = m.selected;
    index = m.ends.0;
    target = m.ends.2.target;
    at_most = moves_most (Err NoMemory) m;
    touches = m.touches;
    active = stays_active m.selected m.ends.3;
    stays = m.stays refl;
  }

  no_answer : (fault : MigrateFault) (units : ℕ) → answer_to fault units ≡ None → answer_to fault 0 ≡ None
  no_answer HasNoTarget units none = absurd (none-some NoTarget (sym none))
  no_answer (HasNoSpace need live) units none = absurd (none-some (NoSpace units need live) (sym none))
  no_answer TooManyNames units none = absurd (none-some (TooMany units) (sym none))
  no_answer PowerLost units none = absurd (none-some (Lost units false) (sym none))
  no_answer NoMemory units none = refl

  pub begins_by : (fault : MigrateFault) (units : ℕ) (o : Option Answer) → o ≡ answer_to fault units → o ≡ None → Migrated (Err fault) → BeginsMove (meanings contents room chance tears) areas d e
  begins_by fault units o is none m = begins fault (no_answer fault units (sym is ∙ none)) m

-- ---- the session behind it

module _ {K : Type 0} (serves : Area → Geometry → Type 0) (mounted_on : K → Area) (stands : K → Geometry → List (List ℕ) → Type 0) (runs : K → Bool)
    (up : (state : K) (geometry : Geometry) (sectors : List (List ℕ)) → stands state geometry sectors → runs state ≡ true) (areas : List Area) where
  pub served_ready : (d : Device) (selector : Selector) (active : ℕ) (settings : Settings K) → IsServed serves mounted_on stands areas d selector.ring settings.backend active
      → StandsOnMap mounted_on stands runs areas d (Some selector) active settings
  served_ready d selector active settings is = record {
    is_active = is.is_active;
    there = is.there;
    up = up settings.backend (geometry_of d (mounted_on settings.backend)) (sectors_of d (mounted_on settings.backend)) is.up;
    standing = is.up;
    selects = record { selected = is.selected; opened = λ x same. subst (λ (y : Selector). IsOpen d y.ring) (some_same selector x same) is.open_ring };
  }

  pub at_backend : (d : Device) (selector : Selector) (active : ℕ) (from : K) (settings : Settings K) → from ≡ settings.backend → IsServed serves mounted_on stands areas d selector.ring from active
      → StandsOnMap mounted_on stands runs areas d (Some selector) active settings
  at_backend d selector active from settings same is = served_ready d selector active settings (subst (λ (k : K). IsServed serves mounted_on stands areas d selector.ring k active) same is)

  pub ready_served : (d : Device) (selector : Selector) (active : ℕ) (settings : Settings K) → IsServedMap serves areas d → StandsOnMap mounted_on stands runs areas d (Some selector) active settings
      → IsServed serves mounted_on stands areas d selector.ring settings.backend active
  ready_served d selector active settings map is = record {
    lawful = map.lawful;
    served = map.served;
    selected = is.selects.selected;
    open_ring = is.selects.opened selector refl;
    there = is.there;
    up = is.standing;
    is_active = is.is_active;
  }

  -- the settings were not moved, or power was lost
  pub refused_ready : (d e : Device) (before after : Selector) (active : ℕ) (from : K) (settings : Settings K) (fault : MigrateFault) → d.is_on ≡ true → from ≡ settings.backend
      → Touches (worked_on areas before.ring.area active) d e (migrate_lost {T = K × ℕ} (Err fault)) → (is_refused {T = K × ℕ} (Err fault) ≡ true → IsServed serves mounted_on stands areas e after.ring from active)
      → e.is_on ≡ true → StandsOnMap mounted_on stands runs areas e (Some after) active settings
  refused_ready d e before after active from settings HasNoTarget powered same touches stays on = at_backend e after active from settings same (stays refl)
  refused_ready d e before after active from settings (HasNoSpace need live) powered same touches stays on = at_backend e after active from settings same (stays refl)
  refused_ready d e before after active from settings TooManyNames powered same touches stays on = at_backend e after active from settings same (stays refl)
  refused_ready d e before after active from settings NoMemory powered same touches stays on = at_backend e after active from settings same (stays refl)
  refused_ready d e before after active from settings PowerLost powered same touches stays on = absurd (false≢true (sym (touches.ends powered).off ∙ on))
