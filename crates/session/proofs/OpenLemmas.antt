-- A mount of a map as a line.
use Rattle.std.proofs.Common.{◌≡◌, ℕ, zero, suc, ◌-◌, ◌<◌, Bool, true, false, List, [], ◌∷◌, ◌++◌, map, get_or, Option, Some, None, Result, Ok, Err, refl, sym, ap, subst, ◌∙◌, inl, inr, arith}
use Rattle.std.specs.Prelude.{Contains, IfOk, IfErr}
use Rattle.std.specs.Option.{option_map_or}
use Rattle.std.proofs.lemmas.Bool.{false≢true}
use Rattle.std.proofs.lemmas.List.Elements.{Contains-append_left, Contains-append_right, Contains-append_cases}
use Rattle.flash_sim.specs.Device.{Device}
use Rattle.flash_sim.specs.declared.flash.Loss.{Loss}
use Rattle.flash_map.specs.declared.area.Area.{Area}
use Rattle.flash_map.specs.declared.area.Geometry.{Geometry}
use Rattle.flash_map.specs.declared.faults.Damaged.{Damaged}
use Rattle.flash_map.specs.On.{on, HoldsOn}
use Rattle.flash_map.specs.Spending.{SpendsAtMost}
use Rattle.flash_map.specs.Touches.{Touches}
use Rattle.flash_map.proofs.Touches.{wider}
use Rattle.handlers.specs.declared.handler.HandlerKind.{HandlerKind}
use Rattle.handlers.specs.Registry.{Registered}
use Rattle.backend_api.specs.Commands.{Command}
use Rattle.backend_api.specs.Map.{Map}
use Rattle.backend_api.specs.Room.{Room}
use Rattle.migrator.specs.Active.{active_on, selector_damage_on}
use Rattle.migrator.specs.Areas.{selector_of}
use Rattle.settings_core.specs.declared.settings.Settings.{Settings}
use Rattle.script_lines.specs.declared.line.Line.TheVariants.{Mount}
use Rattle.script_lines.specs.declared.answer.Answer.{Answer}
use Rattle.script_lines.specs.declared.answer.Answer.TheVariants.{Done, Lost}
use Rattle.session_table.specs.Bench.{Accounts, Keeps, area_at, is_selector, places_of, state_of}
use Rattle.session.specs.declared.fault.SessionFault.{SessionFault}
use Rattle.session.specs.declared.mounting.MapFault.{MapFault}
use Rattle.session.specs.declared.mounting.MapFault.TheVariants.{Damaged as MapDamaged, PowerLost, NoMemory}
use Rattle.session.specs.declared.session.Session.{Session}
use Rattle.session.specs.Mounting.{MapEnds, ReadsSame, answered, map_lost}
use Rattle.session.specs.OnMap.{CarriedBeside, DoesNothing, DoneWithin, IsAtRest, IsReady, LineStops, BeginsMount, SameRecords, active_area, active_damage, damage_in, meanings, moment, mount_bound, selectors, turned_on}
use Rattle.session.proofs.AccountLemmas.{kept, lost}
use Rattle.session.proofs.ActiveAreas.{active_powered, selector_powered, image, selector_listed}
use Rattle.session.proofs.ChangeLemmas.{seen, state_is}
use Rattle.session.proofs.MountUnits.{few_by}
use Rattle.session.proofs.DamageLemmas.{shown_powered, damage_powered, selector_sound}

-- ---- the areas that a mount works on, as the table has them

one_only : (area x : Area) (k : ℕ) → k < 1 → get_or (area ∷ []) k x ≡ x → area ≡ x
one_only area x zero below is = is
one_only area x (suc k) below is = absurd (omega arith)

in_selectors : (areas : List Area) (x : Area) (o : Option Area) → selector_of areas ≡ o → Contains (option_map_or (λ s. s ∷ []) o []) x → selector_of areas ≡ Some x
in_selectors areas x None is has = absurd (omega (arith, has.1))
in_selectors areas x (Some s) is has = is ∙ ap (λ (a : Area). Some a) (one_only s x has.0 has.1 has.2)

selector_in : (areas : List Area) (more : List ℕ) (x : Area) → Contains (selectors areas) x → Contains (map (area_at areas) (places_of is_selector areas ++ more)) x
selector_in areas more x has =
    let found = selector_listed areas x (in_selectors areas x (selector_of areas) refl has) in
    subst (λ (a : Area). Contains (map (area_at areas) (places_of is_selector areas ++ more)) a) found.2
    (image (area_at areas) (places_of is_selector areas ++ more) found.0 (Contains-append_left (places_of is_selector areas) more found.0 found.1))

place_in : (areas : List Area) (place : ℕ) (x : Area) → Contains (area_at areas place ∷ []) x → Contains (map (area_at areas) (places_of is_selector areas ++ place ∷ [])) x
place_in areas place x has =
    subst (λ (a : Area). Contains (map (area_at areas) (places_of is_selector areas ++ place ∷ [])) a) (one_only (area_at areas place) x has.0 has.1 has.2)
    (image (area_at areas) (places_of is_selector areas ++ place ∷ []) place (Contains-append_right (places_of is_selector areas) (place ∷ []) place (0, omega arith, refl)))

-- a selector and the area at a place
pub both_in : (areas : List Area) (place : ℕ) (x : Area) → Contains (selectors areas ++ area_at areas place ∷ []) x → Contains (map (area_at areas) (places_of is_selector areas ++ place ∷ [])) x
both_in areas place x has = elim (Contains-append_cases (selectors areas) (area_at areas place ∷ []) x has) [
  | inl first ↦ selector_in areas (place ∷ []) x first
  | inr second ↦ place_in areas place x second
]

units_are : (before after old new : ℕ) → before ≡ old → after ≡ new → new - old ≡ after - before
units_are before after old new from to = omega (arith, from, to)

no_units : (before after spent : ℕ) → before ≡ spent → after ≡ spent → after - before ≡ 0
no_units before after spent from to = omega (arith, from, to)

-- ---- the line

module _ (contents : Area → Geometry → List (List ℕ) → Map) (room : Area → Geometry → Room) (chance : Area → Geometry → List (List ℕ) → Loss → Bool) (tears : Area → Geometry → Command → ℕ → Map → Map → Type 0)
    (areas : List Area) (old e : Device) (registry : List Registered) (pool : List HandlerKind) where
  same_active : ReadsSame contents areas (turned_on old) e → active_on areas e ≡ active_on areas old
  same_active reads = reads.0 ∙ active_powered areas old

  state_after : (power : Bool) → e.is_on ≡ power → ReadsSame contents areas (turned_on old) e
      → state_of (meanings contents room chance tears) areas (moment e registry pool) ≡ record (state_of (meanings contents room chance tears) areas (moment old registry pool)) { is_on = power }
  state_after power is_on reads =
      let same : on contents e (active_area areas old) ≡ on contents old (active_area areas old) =
      subst (λ (place : ℕ). on contents e (area_at areas place) ≡ on contents old (area_at areas place)) (active_powered areas old) reads.1 in
      sym (seen contents room chance tears registry pool areas old e (same_active reads))
      ∙ state_is contents room chance tears registry pool areas old e (on contents old (active_area areas old)) power is_on same

  touches_of : (cut : Bool) → Touches (selectors areas ++ active_area areas (turned_on old) ∷ []) (turned_on old) e cut
      → Touches (map (area_at areas) (places_of is_selector areas ++ active_on areas old ∷ [])) (turned_on old) e cut
  touches_of cut touches =
      let at_old : Touches (selectors areas ++ active_area areas old ∷ []) (turned_on old) e cut =
      subst (λ (place : ℕ). Touches (selectors areas ++ area_at areas place ∷ []) (turned_on old) e cut) (active_powered areas old) touches in
      wider (map (area_at areas) (places_of is_selector areas ++ active_on areas old ∷ [])) (both_in areas (active_on areas old)) at_old

  keeps_of : (cut : Bool) → Touches (selectors areas ++ active_area areas (turned_on old) ∷ []) (turned_on old) e cut → Keeps (map (area_at areas) (places_of is_selector areas ++ active_on areas old ∷ [])) old e
  keeps_of cut touches =
      let wide = touches_of cut touches in
      record { banks = wide.banks; loads = wide.loads; outside = wide.outside }

  powered_first : (answer : Answer) → Accounts Mount answer (turned_on old) e → Accounts Mount answer old e
  powered_first answer is = record { spent = is.spent; losses = is.losses; allows = is.allows; plan = is.plan; unplanned = is.unplanned }

  pub mount_done : Touches (selectors areas ++ active_area areas (turned_on old) ∷ []) (turned_on old) e false → ReadsSame contents areas (turned_on old) e
      → DoneWithin (meanings contents room chance tears) areas Mount (Done (e.spent - old.spent)) (moment old registry pool) (moment e registry pool)
  mount_done touches reads = record {
    done = record {
      step = λ last within. (λ needs. absurd (false≢true needs), state_after true touches.ends.on reads);
      accounts = powered_first (Done (e.spent - old.spent)) (kept (selectors areas ++ active_area areas (turned_on old) ∷ []) Mount (Done (e.spent - old.spent)) (turned_on old) e touches refl refl refl);
      keeps = keeps_of false touches;
      chance = tt;
    };
    touches = λ plain. touches_of false touches;
    most = tt;
  }

  pub mount_lost : Touches (selectors areas ++ active_area areas (turned_on old) ∷ []) (turned_on old) e true → ReadsSame contents areas (turned_on old) e
      → DoneWithin (meanings contents room chance tears) areas Mount (Lost (e.spent - old.spent) false) (moment old registry pool) (moment e registry pool)
  mount_lost touches reads =
      let cut = touches.ends refl in
      record {
        done = record {
          step = λ last within. (λ needs. absurd (false≢true needs), state_after false cut.off reads);
          accounts = powered_first (Lost (e.spent - old.spent) false) (lost (selectors areas ++ active_area areas (turned_on old) ∷ []) Mount (Lost (e.spent - old.spent) false) (turned_on old) e refl touches refl refl refl);
          keeps = keeps_of true touches;
          chance = tt;
        };
        touches = λ plain. touches_of true touches;
        most = tt;
      }

module _ {K : Type 0} (mounted_on : K → Area) (stands : K → Geometry → List (List ℕ) → Type 0) (runs : K → Bool) (damage : Area → Geometry → List (List ℕ) → Option Damaged) (rests : Area → Geometry → List (List ℕ) → Type 0)
    (contents : Area → Geometry → List (List ℕ) → Map) (room : Area → Geometry → Room) (chance : Area → Geometry → List (List ℕ) → Loss → Bool) (tears : Area → Geometry → Command → ℕ → Map → Map → Type 0)
    (areas : List Area) where
  -- what mounting the map made of the bench, once power was on
  pub record MapMounted (d e : Device) (x : Result (Session K) MapFault) : Type 0 where
    pub touches : Touches (selectors areas ++ active_area areas d ∷ []) d e (map_lost x)
    pub ends : MapEnds mounted_on stands runs damage contents areas d e x
    pub sound : damage_in damage areas d ≡ None → damage_in damage areas e ≡ None
    pub records : selector_damage_on areas d ≡ None → SameRecords areas d e
    pub idle : IsAtRest rests areas d → e ≡ d
    pub most : SpendsAtMost d e (mount_bound areas d)

  pub from_on : (d old e : Device) (x : Result (Session K) MapFault) → d ≡ turned_on old → MapMounted d e x → MapMounted (turned_on old) e x
  from_on d old e x is m = subst (λ (a : Device). MapMounted a e x) is m

  rest_on : (old : Device) → IsAtRest rests areas old → IsAtRest rests areas (turned_on old)
  rest_on old rest = record {
    selector = rest.selector;
    active = subst (λ (place : ℕ). HoldsOn rests old (area_at areas place)) (sym (active_powered areas old)) rest.active;
  }

  begins_on : (old e : Device) → BeginsMount areas (turned_on old) e → BeginsMount areas old e
  begins_on old e (inl same) = inl same
  begins_on old e (inr opens) = inr (record {
    selector = opens.selector;
    is = opens.is;
    sound = sym (selector_powered areas old) ∙ opens.sound;
    sound_still = opens.sound_still;
    touches = opens.touches;
    units = opens.units;
    active = opens.active ∙ active_powered areas old;
    records = opens.records;
  })

  module _ (old e : Device) (before after : ℕ) (from : before ≡ old.spent) (to : after ≡ e.spent) where
    units : e.spent - old.spent ≡ after - before
    units = units_are before after old.spent e.spent from to

    sound_on : (x : Result (Session K) MapFault) → MapMounted (turned_on old) e x → damage_in damage areas old ≡ None → damage_in damage areas e ≡ None
    sound_on x m is = m.sound (damage_powered damage areas old ∙ is)

    pub done_by : (x : Result (Session K) MapFault) → MapMounted (turned_on old) e x → IfOk (answered (after - before) x) (λ (opened : Session K × Answer). CarriedBeside (meanings contents room chance tears) damage areas Mount opened.1 old e)
    done_by (Ok session) m = λ registry pool.
        let within : DoneWithin (meanings contents room chance tears) areas Mount (Done (after - before)) (moment old registry pool) (moment e registry pool) =
        subst (λ (n : ℕ). DoneWithin (meanings contents room chance tears) areas Mount (Done n) (moment old registry pool) (moment e registry pool)) units (mount_done contents room chance tears areas old e registry pool m.touches m.ends.5) in
        let first : selector_damage_on areas old ≡ None = sym (selector_powered areas old) ∙ m.ends.3 in
        let second : active_damage damage areas old ≡ None = sym (shown_powered damage areas old) ∙ m.ends.4 in
        record {
          done = within.done;
          touches = within.touches;
          plans = λ replans. absurd (replans refl);
          most = within.most;
          finds = λ is. (first, selector_sound damage areas old e (sound_on (Ok session) m) first second, inl second);
          few = λ is. few_by areas old e before after from to m.most;
          undamaged = sound_on (Ok session) m;
          records = λ none. m.records m.ends.3;
          chosen = tt;
        }
    done_by (Err PowerLost) m = λ registry pool.
        let within : DoneWithin (meanings contents room chance tears) areas Mount (Lost (after - before) false) (moment old registry pool) (moment e registry pool) =
        subst (λ (n : ℕ). DoneWithin (meanings contents room chance tears) areas Mount (Lost n false) (moment old registry pool) (moment e registry pool)) units (mount_lost contents room chance tears areas old e registry pool m.touches m.ends.3) in
        record {
          done = within.done;
          touches = within.touches;
          plans = λ replans. absurd (replans refl);
          most = within.most;
          finds = λ is. (sym (selector_powered areas old) ∙ m.ends.0, m.ends.1, elim m.ends.2 [ inl none ↦ inl (sym (shown_powered damage areas old) ∙ none) | inr touches ↦ inr (refl, touches) ]);
          few = λ is. few_by areas old e before after from to m.most;
          undamaged = sound_on (Err PowerLost) m;
          records = λ none. m.records m.ends.0;
          chosen = tt;
        }
    done_by (Err (MapDamaged place damaged)) m = tt
    done_by (Err NoMemory) m = tt

    pub stops_by : (x : Result (Session K) MapFault) → MapMounted (turned_on old) e x → IfErr (answered (after - before) x) (λ fault. LineStops (meanings contents room chance tears) damage areas Mount old e fault)
    stops_by (Ok session) m = tt
    stops_by (Err PowerLost) m = tt
    stops_by (Err (MapDamaged place damaged)) m = (refl, sym (damage_powered damage areas old) ∙ m.ends.0, begins_on old e m.ends.1)
    stops_by (Err NoMemory) m = (refl, λ needs. absurd (false≢true needs), (sym (selector_powered areas old) ∙ m.ends.0, begins_on old e m.ends.1))

    pub rests_by : (x : Result (Session K) MapFault) → MapMounted (turned_on old) e x → IsAtRest rests areas old → IfOk (answered (after - before) x) (λ (opened : Session K × Answer). DoesNothing opened.1 old e)
    rests_by (Ok session) m rest = (ap (λ (n : ℕ). Done n) (no_units before after old.spent from (to ∙ ap (λ (d : Device). d.spent) (m.idle (rest_on old rest)))), m.idle (rest_on old rest))
    rests_by (Err PowerLost) m rest = absurd (false≢true (sym (m.touches.ends refl).off ∙ ap (λ (d : Device). d.is_on) (m.idle (rest_on old rest))))
    rests_by (Err (MapDamaged place damaged)) m rest = tt
    rests_by (Err NoMemory) m rest = tt

    pub ready_by : (x : Result (Session K) MapFault) → MapMounted (turned_on old) e x → IfOk (answered (after - before) x) (λ (opened : Session K × Answer). IsReady mounted_on stands runs areas e opened.0.selector opened.0.active opened.0.settings)
    ready_by (Ok session) m = subst (λ (o : Option (Settings K)). IsReady mounted_on stands runs areas e session.selector session.active o) (sym m.ends.1) (λ powered. m.ends.2)
    ready_by (Err PowerLost) m = (m.touches.ends refl).off
    ready_by (Err (MapDamaged place damaged)) m = tt
    ready_by (Err NoMemory) m = tt

    pub undamaged_by : (x : Result (Session K) MapFault) → MapMounted (turned_on old) e x → damage_in damage areas old ≡ None → damage_in damage areas e ≡ None
    undamaged_by x m is = sound_on x m is

  -- as the code of a mount has it: power is turned on first
  module _ (old d e : Device) (before after : ℕ) (x : Result (Session K) MapFault) (y : Result (Session K × Answer) SessionFault) (is_on : d ≡ turned_on old) (from : before ≡ d.spent) (to : after ≡ e.spent) (m : MapMounted d e x) (is : y ≡ answered (after - before) x) where
    from_old : before ≡ old.spent
    from_old = from ∙ ap (λ (a : Device). a.spent) is_on

    here : MapMounted (turned_on old) e x
    here = from_on d old e x is_on m

    pub open_done : IfOk y (λ (opened : Session K × Answer). CarriedBeside (meanings contents room chance tears) damage areas Mount opened.1 old e)
    open_done = subst (λ (z : Result (Session K × Answer) SessionFault). IfOk z (λ (opened : Session K × Answer). CarriedBeside (meanings contents room chance tears) damage areas Mount opened.1 old e)) (sym is) (done_by old e before after from_old to x here)

    pub open_undamaged : damage_in damage areas old ≡ None → damage_in damage areas e ≡ None
    open_undamaged was = undamaged_by old e before after from_old to x here was

    pub open_rests : IsAtRest rests areas old → IfOk y (λ (opened : Session K × Answer). DoesNothing opened.1 old e)
    open_rests rest = subst (λ (z : Result (Session K × Answer) SessionFault). IfOk z (λ (opened : Session K × Answer). DoesNothing opened.1 old e)) (sym is) (rests_by old e before after from_old to x here rest)

    pub open_stops : IfErr y (λ fault. LineStops (meanings contents room chance tears) damage areas Mount old e fault)
    open_stops = subst (λ (z : Result (Session K × Answer) SessionFault). IfErr z (λ fault. LineStops (meanings contents room chance tears) damage areas Mount old e fault)) (sym is) (stops_by old e before after from_old to x here)

    pub open_ready : IfOk y (λ (opened : Session K × Answer). IsReady mounted_on stands runs areas e opened.0.selector opened.0.active opened.0.settings)
    open_ready = subst (λ (z : Result (Session K × Answer) SessionFault). IfOk z (λ (opened : Session K × Answer). IsReady mounted_on stands runs areas e opened.0.selector opened.0.active opened.0.settings)) (sym is) (ready_by old e before after from_old to x here)
