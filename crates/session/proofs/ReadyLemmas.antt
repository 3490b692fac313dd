-- The session behind a line.
use Rattle.std.proofs.Common.{◌≡◌, ℕ, Bool, true, false, List, [], ◌∷◌, Option, Some, None, Result, Ok, Err, refl, sym, ap, subst, ◌∙◌, arith}
use Rattle.std.specs.Prelude.{IfOk, IfErr, OnErr}
use Rattle.std.specs.List.{slice_get}
use Rattle.std.proofs.lemmas.Bool.{false≢true}
use Rattle.std.proofs.lemmas.Option.{none-some}
use Rattle.flash_sim.specs.Bank.{IsLawful}
use Rattle.flash_sim.specs.Device.{Device, Plan}
use Rattle.flash_map.specs.declared.area.Area.{Area}
use Rattle.flash_map.specs.declared.area.Geometry.{Geometry}
use Rattle.flash_map.specs.declared.faults.Damaged.{Damaged}
use Rattle.flash_map.specs.Area.{geometry_of, sectors_of, unit_of}
use Rattle.flash_map.specs.On.{on, HoldsOn, StandsOn}
use Rattle.flash_map.specs.Touches.{Ends, SameOutside, Touches}
use Rattle.handlers.specs.declared.handler.HandlerKind.{HandlerKind}
use Rattle.handlers.specs.Registry.{Registered}
use Rattle.migrator.specs.declared.selecting.Selector.{Selector}
use Rattle.fcb_ring.specs.Standing.{erases_on}
use Rattle.fcb_ring.proofs.RestLemmas.{ready-rests}
use Rattle.migrator.specs.Active.{active_on}
use Rattle.migrator.specs.Areas.{selector_of}
use Rattle.settings_core.specs.declared.settings.Settings.{Settings}
use Rattle.script_lines.specs.declared.line.Line.{Line}
use Rattle.script_lines.specs.declared.line.Line.TheVariants.{Set, Get, Del, Register, Load, Direct, Save, Commit, RunSet, RunGet, Names, Mount, Cut, Uncut, Migrate}
use Rattle.script_lines.specs.declared.answer.Answer.{Answer}
use Rattle.script_lines.specs.declared.answer.Answer.TheVariants.{Off}
use Rattle.script_lines.specs.Plan.{replan}
use Rattle.script_lines.specs.Plan.Replan.{keeps as keeps_plan}
use Rattle.session_table.specs.Bench.{Meanings, area_at, is_selector, places_of, rules_of, worked_on}
use Rattle.session_table.specs.Rules.{Rules}
use Rattle.session_table.specs.Step.{needs_power}
use Rattle.session_table.proofs.PlaceLemmas.{IsWithin}
use Rattle.session_table.proofs.RunLemmas.{keeps_within}
use Rattle.session.specs.declared.fault.SessionFault.{SessionFault}
use Rattle.session.specs.declared.fault.SessionFault.TheVariants.{NoMemory}
use Rattle.session.specs.OnMap.{BeginsLine, CarriedBeside, ChoosesOnce, DoneBeside, DoneWithin, HasSelector, IsAtRest, IsReady, IsServedMap, LeavesSelector, LineCarried, LineStops, SameButPlan, SameSelector, StandsOnActive, StandsOnMap, StaysOnArea, StopsUnchanged, active_area, damage_in, is_local, may_choose, moment, takes_memory}
use Rattle.session.proofs.ActiveAreas.{active_still, selector_still, has_still, selector_beside, active_beside, area_there}
use Rattle.session.proofs.DamageLemmas.{damage_none, none_damage, none_beside}

some_area : (x y : Area) → Some x ≡ Some y → x ≡ y
some_area x y e = cc

-- ---- which areas a line changes

none_within : (a : ℕ) → IsWithin [] (a ∷ [])
none_within a x has = absurd (omega (arith, has.1))

local_within : (r : Rules) (sel : List ℕ) (line : Line) (answer : Answer) (a : ℕ) → is_local line ≡ true → IsWithin (worked_on r sel line answer (a ∷ [])) (a ∷ [])
local_within r sel line Off a local = none_within a
local_within r sel (Set name value) answer a local = λ x has. has
local_within r sel (Del name) answer a local = λ x has. has
local_within r sel (Save subtree) answer a local = λ x has. has
local_within r sel (Get name) answer a local = none_within a
local_within r sel (Register subtree kind) answer a local = none_within a
local_within r sel (Load subtree) answer a local = none_within a
local_within r sel (Direct subtree) answer a local = none_within a
local_within r sel Commit answer a local = none_within a
local_within r sel (RunSet name value) answer a local = none_within a
local_within r sel (RunGet name) answer a local = none_within a
local_within r sel Names answer a local = none_within a
local_within r sel Mount answer a local = absurd (false≢true local)
local_within r sel (Cut units) answer a local = absurd (false≢true local)
local_within r sel Uncut answer a local = absurd (false≢true local)
local_within r sel Migrate answer a local = absurd (false≢true local)

pub not_local : (line : Line) → needs_power line ≡ true → is_local line ≡ false → line ≡ Migrate
not_local Migrate needs local = refl
not_local (Set name value) needs local = absurd (false≢true (sym local))
not_local (Del name) needs local = absurd (false≢true (sym local))
not_local (Save subtree) needs local = absurd (false≢true (sym local))
not_local (Get name) needs local = absurd (false≢true (sym local))
not_local (Register subtree kind) needs local = absurd (false≢true (sym local))
not_local (Load subtree) needs local = absurd (false≢true (sym local))
not_local (Direct subtree) needs local = absurd (false≢true (sym local))
not_local Commit needs local = absurd (false≢true (sym local))
not_local (RunSet name value) needs local = absurd (false≢true (sym local))
not_local (RunGet name) needs local = absurd (false≢true (sym local))
not_local Names needs local = absurd (false≢true (sym local))
not_local Mount needs local = absurd (false≢true needs)
not_local (Cut units) needs local = absurd (false≢true needs)
not_local Uncut needs local = absurd (false≢true needs)

pub cut_is_none : (units : ℕ) → Cut units ≡ Mount → ⊥
cut_is_none units e = cc

pub uncut_is_none : Uncut ≡ Mount → ⊥
uncut_is_none e = cc

pub migrate_is_none : Migrate ≡ Mount → ⊥
migrate_is_none e = cc

pub mount_needs_none : (line : Line) → needs_power line ≡ true → line ≡ Mount → ⊥
mount_needs_none line needs is = false≢true (ap needs_power (sym is) ∙ needs)

-- a line that needs power is not about the plan
pub plain_powered : (line : Line) → needs_power line ≡ true → replan line ≡ keeps_plan
plain_powered (Cut units) needs = absurd (false≢true needs)
plain_powered Uncut needs = absurd (false≢true needs)
plain_powered line needs = refl

pub mount_not_local : (line : Line) → is_local line ≡ true → line ≡ Mount → ⊥
mount_not_local line local is = false≢true (ap is_local (sym is) ∙ local)

module _ (m : Meanings) (areas : List Area) (line : Line) (answer : Answer) (d e : Device) (r others : List Registered) (p left : List HandlerKind) where
  pub outside_local : is_local line ≡ true → DoneWithin m areas line answer (moment d r p) (moment e others left) → SameOutside (active_area areas d ∷ []) d e
  outside_local local done =
      (keeps_within (area_at areas) (worked_on (rules_of m areas d.banks 0) (places_of is_selector areas) line answer (active_on areas d ∷ [])) (active_on areas d ∷ []) d e
      (local_within (rules_of m areas d.banks 0) (places_of is_selector areas) line answer (active_on areas d) local) done.done.keeps).outside

-- ---- behind a line on the active area

module _ {K : Type 0} (serves : Area → Geometry → Type 0) (mounted_on : K → Area) (stands : K → Geometry → List (List ℕ) → Type 0) (runs : K → Bool) (damage : Area → Geometry → List (List ℕ) → Option Damaged)
    (areas : List Area) (d e : Device) (map : IsServedMap serves areas d) (lawful : IsLawful d.banks d.bytes) (lawful_new : IsLawful e.banks e.bytes) (banks : e.banks ≡ d.banks) (outside : SameOutside (active_area areas d ∷ []) d e) where
  pub ready_beside : (selector : Option Selector) (active : ℕ) (area : Area) (settings after : Settings K) → StandsOnMap mounted_on stands runs areas d selector active settings
      → slice_get areas active ≡ Some area → mounted_on after.backend ≡ area → runs after.backend ≡ true → StandsOn mounted_on stands e after.backend → StandsOnMap mounted_on stands runs areas e selector active after
  ready_beside selector active area settings after is there at up stand = record {
    is_active = is.is_active ∙ sym (active_beside serves areas d e map lawful lawful_new banks outside);
    there = there ∙ ap (λ (a : Area). Some a) (sym at);
    up = up;
    standing = stand;
    selects = has_still areas d e banks (selector_beside serves areas d e map lawful lawful_new banks outside) selector is.selects;
  }

  pub undamaged_beside : (area : Area) → area ≡ active_area areas d → (on damage d area ≡ None → on damage e area ≡ None) → damage_in damage areas d ≡ None → damage_in damage areas e ≡ None
  undamaged_beside area is sound was =
      none_beside damage areas serves d e map lawful lawful_new banks outside (subst (λ (a : Area). on damage d a ≡ None → on damage e a ≡ None) is sound) was

-- ---- where a plan alone changed

module _ {K : Type 0} (mounted_on : K → Area) (stands : K → Geometry → List (List ℕ) → Type 0) (runs : K → Bool) (damage : Area → Geometry → List (List ℕ) → Option Damaged) (areas : List Area) (d : Device) (plan : Plan) where
  abbrev with_plan : Device
  with_plan = record d { plan = plan }

  active_planned : active_on areas with_plan ≡ active_on areas d
  active_planned = active_still areas d with_plan refl (λ s is. refl)

  ready_at : (selector : Option Selector) (active : ℕ) (settings : Option (Settings K)) → IsReady mounted_on stands runs areas d selector active settings → IsReady mounted_on stands runs areas with_plan selector active settings
  ready_at selector active None dark = dark
  ready_at selector active (Some settings) is = λ powered. let was = is powered in record {
    is_active = was.is_active ∙ sym active_planned;
    there = was.there;
    up = was.up;
    standing = was.standing;
    selects = has_still areas d with_plan refl (λ s at. refl) selector was.selects;
  }

  undamaged_at : damage_in damage areas d ≡ None → damage_in damage areas with_plan ≡ None
  undamaged_at was =
      let parts = none_damage damage areas d was in
      damage_none damage areas with_plan (selector_still areas d with_plan refl (λ s at. refl) ∙ parts.0) (subst (λ (place : ℕ). on damage d (area_at areas place) ≡ None) (sym active_planned) parts.1)

  pub ready_planned : (e : Device) (selector : Option Selector) (active : ℕ) (settings : Option (Settings K)) → e ≡ record d { plan = plan } → IsReady mounted_on stands runs areas d selector active settings → IsReady mounted_on stands runs areas e selector active settings
  ready_planned e selector active settings is ready = subst (λ (x : Device). IsReady mounted_on stands runs areas x selector active settings) (sym is) (ready_at selector active settings ready)

  pub undamaged_planned : (e : Device) → e ≡ record d { plan = plan } → damage_in damage areas d ≡ None → damage_in damage areas e ≡ None
  undamaged_planned e is was = subst (λ (x : Device). damage_in damage areas x ≡ None) (sym is) (undamaged_at was)

-- ---- lines that are no mounts

-- a line on the active area for which memory was wanting changed nothing
local_begins : (m : Meanings) (areas : List Area) (line : Line) (d e : Device) → is_local line ≡ true → e ≡ d → BeginsLine m areas line d e
local_begins m areas (Set name value) d e local same = same
local_begins m areas (Del name) d e local same = same
local_begins m areas (Save subtree) d e local same = same
local_begins m areas (Get name) d e local same = same
local_begins m areas (Register subtree kind) d e local same = same
local_begins m areas (Load subtree) d e local same = same
local_begins m areas (Direct subtree) d e local same = same
local_begins m areas Commit d e local same = same
local_begins m areas (RunSet name value) d e local same = same
local_begins m areas (RunGet name) d e local same = same
local_begins m areas Names d e local same = same
local_begins m areas Mount d e local same = absurd (false≢true local)
local_begins m areas (Cut units) d e local same = absurd (false≢true local)
local_begins m areas Uncut d e local same = absurd (false≢true local)
local_begins m areas Migrate d e local same = absurd (false≢true local)

-- a line that is no mount and leaves the selector
leaves : (line : Line) (areas : List Area) (d e : Device) → (line ≡ Mount → ⊥) → SameSelector areas d e → LeavesSelector line areas d e
leaves Mount areas d e other same = absurd (other refl)
leaves line areas d e other same = same

-- no line but a migration chooses an area, and none with power off
local_none : (m : Meanings) (areas : List Area) (line : Line) (answer : Answer) (d e : Device) → is_local line ≡ true → ChoosesOnce m areas line answer d e
local_none m areas Migrate answer d e local = absurd (false≢true local)
local_none m areas line answer d e local = tt

pub off_none : (m : Meanings) (areas : List Area) (line : Line) (d e : Device) → ChoosesOnce m areas line Off d e
off_none m areas Migrate d e = tt
off_none m areas line d e = tt

module _ (m : Meanings) (damage : Area → Geometry → List (List ℕ) → Option Damaged) (areas : List Area) (line : Line) (d e : Device) where
  pub carried : (answer : Answer) → (line ≡ Mount → ⊥) → ((replan line ≡ keeps_plan → ⊥) → SameButPlan d e) → (damage_in damage areas d ≡ None → damage_in damage areas e ≡ None) → (may_choose line answer ≡ false → SameSelector areas d e) → ChoosesOnce m areas line answer d e → DoneBeside m areas line answer d e
      → CarriedBeside m damage areas line answer d e
  carried answer other plan sound same one done registry pool =
      let within = done registry pool in
      record { done = within.done; touches = within.touches; plans = plan; most = within.most; finds = λ is. absurd (other is); few = λ is. absurd (other is); undamaged = sound; records = λ none. leaves line areas d e other (same none); chosen = one }

  -- by the line that it is
  pub carried_as : (other : Line) (answer : Answer) → line ≡ other → (other ≡ Mount → ⊥) → SameButPlan d e → (damage_in damage areas d ≡ None → damage_in damage areas e ≡ None) → ChoosesOnce m areas other answer d e → DoneBeside m areas other answer d e → CarriedBeside m damage areas line answer d e
  carried_as other answer is not_it plan sound one done =
      carried answer (λ mounts. not_it (sym is ∙ mounts)) (λ replans. plan) sound (λ none s at. ap (λ (x : Device). sectors_of x s) plan) (subst (λ (l : Line). ChoosesOnce m areas l answer d e) (sym is) one) (subst (λ (l : Line). DoneBeside m areas l answer d e) (sym is) done)

  pub carried_if : (serves : Area → Geometry → Type 0) (result : Result Answer SessionFault) (r others : List Registered) (p left : List HandlerKind) → IsServedMap serves areas d → IsLawful d.banks d.bytes → IsLawful e.banks e.bytes
      → is_local line ≡ true → (line ≡ Mount → ⊥) → replan line ≡ keeps_plan → (damage_in damage areas d ≡ None → damage_in damage areas e ≡ None)
      → IfOk result (λ answer. DoneWithin m areas line answer (moment d r p) (moment e others left)) → IfOk result (λ answer. LineCarried m damage areas line answer (moment d r p) (moment e others left))
  carried_if serves (Ok answer) r others p left map lawful lawful_new local other plain sound done = record {
    done = done.done;
    touches = done.touches;
    plans = λ replans. absurd (replans plain);
    most = done.most;
    finds = λ is. absurd (other is);
    few = λ is. absurd (other is);
    undamaged = sound;
    records = λ none.
        leaves line areas d e other (selector_beside serves areas d e map lawful lawful_new done.done.keeps.banks (outside_local m areas line answer d e r others p left local done));
    chosen = local_none m areas line answer d e local;
  }
  carried_if serves (Err fault) r others p left map lawful lawful_new local other plain sound done = tt

-- for want of memory a line that changes no bench stopped
pub never_changed : {T E : Type 0} (line : Line) (d : Device) (result : Result T E) → takes_memory line ≡ true → OnErr result (StopsUnchanged line d d)
never_changed line d (Ok x) takes = tt
never_changed line d (Err e) takes = record { takes = takes; same = refl }

-- for want of memory a line on the active area stopped
pub stops_unchanged : (m : Meanings) (damage : Area → Geometry → List (List ℕ) → Option Damaged) (areas : List Area) (line : Line) (d e : Device) (result : Result Answer SessionFault)
    → is_local line ≡ true → d.is_on ≡ true → IfErr result (λ fault. fault ≡ NoMemory) → OnErr result (takes_memory line ≡ true) → OnErr result (e ≡ d)
    → IfErr result (λ fault. LineStops m damage areas line d e fault)
stops_unchanged m damage areas line d e (Ok answer) local powered memory takes same = tt
stops_unchanged m damage areas line d e (Err fault) local powered memory takes same =
    subst (λ (f : SessionFault). LineStops m damage areas line d e f) (sym memory) (takes, λ needs. powered, local_begins m areas line d e local same)

-- ---- from a function for one kind of lines to all of them

module _ (m : Meanings) (areas : List Area) (line other : Line) (d e : Device) (r : List Registered) (p : List HandlerKind) (is : line ≡ other) where
  pub beside_done : (answer : Answer) → DoneBeside m areas other answer d e → DoneWithin m areas line answer (moment d r p) (moment e r p)
  beside_done answer done = subst (λ (l : Line). DoneWithin m areas l answer (moment d r p) (moment e r p)) (sym is) (done r p)

module _ {E : Type 0} (m : Meanings) (areas : List Area) (line other : Line) (d e : Device) (r : List Registered) (p : List HandlerKind) (is : line ≡ other) where
  pub beside_if : (result : Result Answer E) → IfOk result (λ answer. DoneBeside m areas other answer d e) → IfOk result (λ answer. DoneWithin m areas line answer (moment d r p) (moment e r p))
  beside_if (Ok answer) done = beside_done m areas line other d e r p is answer done
  beside_if (Err lack) done = tt

-- ---- a session that is ready is at rest

module _ {K : Type 0} (mounted_on : K → Area) (stands : K → Geometry → List (List ℕ) → Type 0) (runs : K → Bool) (rests : Area → Geometry → List (List ℕ) → Type 0)
    (law : (state : K) (geometry : Geometry) (sectors : List (List ℕ)) → stands state geometry sectors → rests (mounted_on state) geometry sectors) (areas : List Area) (d : Device) where
  selector_rests : (selector : Option Selector) → HasSelector areas d selector → (area : Area) → selector_of areas ≡ Some area → erases_on d area ≡ 0
  selector_rests None has area is = absurd (none-some area (sym has.selected ∙ is))
  selector_rests (Some s) has area is =
      let opened = has.opened s refl in
      let same : s.ring.area ≡ area = some_area s.ring.area area (sym has.selected ∙ is) in
      subst (λ (a : Area). erases_on d a ≡ 0) same (ready-rests (unit_of d s.ring.area) (sectors_of d s.ring.area) s.ring opened.stands.sectors opened.ready)

  pub ready_rests : (selector : Option Selector) (active : ℕ) (settings : Option (Settings K)) → IsReady mounted_on stands runs areas d selector active settings → d.is_on ≡ true → IsAtRest rests areas d
  ready_rests selector active None dark powered = absurd (false≢true (sym dark ∙ powered))
  ready_rests selector active (Some settings) is powered =
      let now = is powered in
      let at : active_area areas d ≡ mounted_on settings.backend = area_there areas (active_on areas d) (mounted_on settings.backend) (ap (slice_get areas) (sym now.is_active) ∙ now.there) in
      record {
        selector = selector_rests selector now.selects;
        active = subst (λ (a : Area). HoldsOn rests d a) (sym at) (law settings.backend (geometry_of d (mounted_on settings.backend)) (sectors_of d (mounted_on settings.backend)) now.standing);
      }

-- ---- as the code of a session has it

pub ready_some : {K : Type 0} (mounted_on : K → Area) (stands : K → Geometry → List (List ℕ) → Type 0) (runs : K → Bool) (areas : List Area) (d : Device) (selector : Option Selector) (active : ℕ) (o : Option (Settings K)) (settings : Settings K)
    → o ≡ Some settings → d.is_on ≡ true → IsReady mounted_on stands runs areas d selector active o → StandsOnMap mounted_on stands runs areas d selector active settings
ready_some {K} mounted_on stands runs areas d selector active o settings is powered ready = subst (λ (x : Option (Settings K)). IsReady mounted_on stands runs areas d selector active x) is ready powered

module _ (m : Meanings) (damage : Area → Geometry → List (List ℕ) → Option Damaged) (areas : List Area) (line other : Line) (d e : Device) (r : List Registered) (p : List HandlerKind) (is : line ≡ other) where
  pub carried_if_beside : (result : Result Answer SessionFault) → IfOk result (λ answer. CarriedBeside m damage areas other answer d e) → IfOk result (λ answer. LineCarried m damage areas line answer (moment d r p) (moment e r p))
  carried_if_beside (Ok answer) done = subst (λ (l : Line). LineCarried m damage areas l answer (moment d r p) (moment e r p)) (sym is) (done r p)
  carried_if_beside (Err fault) done = tt

-- ---- the settings behind a call that changed them

module _ {K : Type 0} (mounted_on : K → Area) (stands : K → Geometry → List (List ℕ) → Type 0) (runs : K → Bool) (areas : List Area) (d e : Device) (area : Area) (was now : K)
    (here : StandsOnActive mounted_on stands runs areas d area was) (same : mounted_on now ≡ mounted_on was) (standing : runs now ≡ true → StandsOn mounted_on stands e now) where
  pub stays_up : runs now ≡ runs was → StaysOnArea mounted_on stands runs e area now
  stays_up up = record { mounted = same ∙ here.mounted; up = λ powered. up ∙ here.up; standing = λ powered. standing (up ∙ here.up) }

  pub stays_off : (lost : Bool) → lost ≡ true → Touches (mounted_on was ∷ []) d e lost → StaysOnArea mounted_on stands runs e area now
  stays_off lost is touches =
      let cut = subst (λ (b : Bool). Ends (mounted_on was ∷ []) d e touches.units b) is touches.ends here.powered in
      record {
        mounted = same ∙ here.mounted;
        up = λ powered. absurd (false≢true (sym cut.off ∙ powered));
        standing = λ powered. absurd (false≢true (sym cut.off ∙ powered));
      }
