-- How mounting a map goes: the selector first, then settings on the active area.
use Rattle.std.proofs.Common.{◌≡◌, ℕ, Bool, true, false, List, [], ◌∷◌, ◌++◌, Option, Some, None, Result, Ok, Err, refl, sym, ap, subst, ◌∙◌, inl, inr}
use Rattle.std.specs.Prelude.{IfOk, OnOk, option_map, unwrap_or}
use Rattle.std.specs.List.{slice_get}
use Rattle.std.specs.Option.{option_map_or}
use Rattle.std.proofs.lemmas.Option.{none-some}
use Rattle.std.proofs.lemmas.List.Elements.{Contains-append_left, Contains-append_right}
use Rattle.flash_sim.specs.Bank.{IsLawful}
use Rattle.flash_sim.specs.Device.{Device}
use Rattle.flash_map.specs.declared.area.Area.{Area}
use Rattle.flash_map.specs.declared.area.Geometry.{Geometry}
use Rattle.flash_map.specs.declared.faults.Damaged.{Damaged}
use Rattle.flash_map.specs.declared.faults.MountFault.{MountFault}
use Rattle.flash_map.specs.declared.faults.MountFault.TheVariants.{Damaged as HasDamage, PowerLost as MountLost, NoMemory as MountNoMemory}
use Rattle.flash_map.specs.Area.{sectors_of}
use Rattle.flash_map.specs.Faults.{mount_lost}
use Rattle.flash_map.specs.On.{on, HoldsOn, StandsOn}
use Rattle.flash_map.specs.Spending.{Spends}
use Rattle.flash_map.specs.Touches.{Touches}
use Rattle.flash_map.proofs.Apart.{same_apart}
use Rattle.flash_map.proofs.Touches.{then, wider}
use Rattle.fcb_ring.specs.Entries.{entries}
use Rattle.fcb_ring.specs.Standing.{KeepsEntries, entries_on, erases_on, ring_damage}
use Rattle.backend_api.specs.Ends.{MountEnds}
use Rattle.backend_api.specs.Map.{Map}
use Rattle.migrator.specs.declared.selecting.Selector.{Selector}
use Rattle.migrator.specs.Active.{active_on, active_in, selector_damage_on}
use Rattle.migrator.specs.Areas.{selector_of}
use Rattle.migrator.specs.Choosing.{IsOpen, SelectorMounts}
use Rattle.migrator.proofs.Migration.{active-on}
use Rattle.migrator.proofs.Moving.{still}
use Rattle.settings_core.specs.declared.settings.Settings.{Settings}
use Rattle.session_table.specs.Bench.{area_at}
use Rattle.session.specs.declared.mounting.MapFault.{MapFault}
use Rattle.session.specs.declared.mounting.MapFault.TheVariants.{Damaged as MapDamaged, PowerLost, NoMemory}
use Rattle.session.specs.declared.session.Session.{Session}
use Rattle.session.specs.Mounting.{MapEnds, ReadsSame, SelectorEnds, map_lost, mounted_as, selected_as}
use Rattle.session.specs.OnMap.{HasSelector, IsAtRest, IsServedMap, BeginsMount, SameRecords, active_area, damage_in, selector_found, selector_place, selectors, turned_on}
use Rattle.session.proofs.ActiveAreas.{area_there, selected, served_still, has_still, active_there, active_lawful, apart_active, selector_beside, selector_still, active_beside}
use Rattle.session.proofs.DamageLemmas.{damage_none, none_damage, selector_shows, active_shows, none_at, none_beside}

pub selected_lost : (place : ℕ) (r : Result Selector MountFault) → mount_lost r ≡ map_lost (selected_as place r)
selected_lost place (Ok selector) = refl
selected_lost place (Err (HasDamage damaged)) = refl
selected_lost place (Err MountLost) = refl
selected_lost place (Err MountNoMemory) = refl

pub mounted_lost : {K : Type 0} (selector : Option Selector) (place : ℕ) (r : Result (Settings K) MountFault) → mount_lost r ≡ map_lost (mounted_as selector place r)
mounted_lost selector place (Ok settings) = refl
mounted_lost selector place (Err (HasDamage damaged)) = refl
mounted_lost selector place (Err MountLost) = refl
mounted_lost selector place (Err MountNoMemory) = refl

pub fault_lost : (T U : Type 0) (fault : MapFault) → map_lost {T = T} (Err fault) ≡ map_lost {T = U} (Err fault)
fault_lost T U (MapDamaged place damaged) = refl
fault_lost T U PowerLost = refl
fault_lost T U NoMemory = refl

powered : (d : Device) → d.is_on ≡ true → d ≡ turned_on d
powered d on = ap (λ (b : Bool). record d { is_on = b }) on

some_area : (x y : Area) → Some x ≡ Some y → x ≡ y
some_area x y e = cc

-- ---- the selector

-- the map has this selector
module _ (areas : List Area) (place : ℕ) (area : Area) (old new : Device) (r : Result Selector MountFault) (found : selector_found areas ≡ Some place) (there : slice_get areas place ≡ Some area) where
  is_selector : selector_of areas ≡ Some area
  is_selector = selected areas place area found there

  pub selectors_one : selectors areas ≡ area ∷ []
  selectors_one = ap (λ (o : Option Area). option_map_or (λ x. x ∷ []) o []) is_selector

  shows : (d : Device) → selector_damage_on areas d ≡ ring_damage d area
  shows d = ap (λ (o : Option Area). damage_of d o) is_selector
    where
      damage_of : Device → Option Area → Option Damaged
      damage_of d None = None
      damage_of d (Some x) = ring_damage d x

  pub chosen_touches : Touches (area ∷ []) old new (mount_lost r) → (x : Result (Option Selector) MapFault) → x ≡ selected_as place r → Touches (selectors areas) old new (map_lost x)
  chosen_touches touches x is =
      subst (λ (b : Bool). Touches (selectors areas) old new b) (selected_lost place r ∙ ap map_lost (sym is))
      (subst (λ (all : List Area). Touches all old new (mount_lost r)) (sym selectors_one) touches)

  pub chosen_ends : SelectorMounts old new area r → (x : Result (Option Selector) MapFault) → x ≡ selected_as place r → SelectorEnds areas old new x
  chosen_ends ends x is = subst (λ (y : Result (Option Selector) MapFault). SelectorEnds areas old new y) (sym is) (at r ends)
    where
      at : (y : Result Selector MountFault) → SelectorMounts old new area y → SelectorEnds areas old new (selected_as place y)
      at (Ok selector) ends = (
        shows old ∙ ends.0,
        record {
          selected = is_selector ∙ ap (λ (a : Area). Some a) (sym ends.2);
          opened = λ x same. subst (λ (o : Selector). IsOpen new o.ring) (some_is selector x same) ends.1;
        },
      )
        where
          some_is : (s x : Selector) → Some s ≡ Some x → s ≡ x
          some_is s x e = cc
      at (Err (HasDamage damaged)) ends = (
        ap (λ (o : Option Damaged). option_map (λ (y : Damaged). (selector_place areas, y)) o) (shows old ∙ ends.0)
            ∙ ap (λ (o : Option ℕ). Some (unwrap_or o 0, damaged)) found,
        ends.1,
      )
      at (Err MountLost) ends = shows old ∙ ends
      at (Err MountNoMemory) ends = absurd ends

  pub chosen_sound : (ring_damage old area ≡ None → ring_damage new area ≡ None) → selector_damage_on areas old ≡ None → selector_damage_on areas new ≡ None
  chosen_sound sound is = shows new ∙ sound (sym (shows old) ∙ is)

  pub chosen_active : (ring_damage old area ≡ None → (all : List Area) → active_in all new area ≡ active_in all old area) → selector_damage_on areas old ≡ None → active_on areas new ≡ active_on areas old
  chosen_active active is = active-on areas new area is_selector ∙ active (sym (shows old) ∙ is) areas ∙ sym (active-on areas old area is_selector)

  pub chosen_records : (ring_damage old area ≡ None → KeepsEntries old new area) → selector_damage_on areas old ≡ None → SameRecords areas old new
  chosen_records keeps is = λ s same. subst (λ (a : Area). entries_on new a ≡ entries_on old a) (some_area area s (sym is_selector ∙ same)) (keeps (sym (shows old) ∙ is)).are

  pub chosen_idle : (erases_on old area ≡ 0 → new ≡ old) → ((s : Area) → selector_of areas ≡ Some s → erases_on old s ≡ 0) → new ≡ old
  chosen_idle idle rests = idle (rests area is_selector)

  abbrev SpendsOnIt : Type 0
  SpendsOnIt = (s : Area) → selector_of areas ≡ Some s → Spends old new (erases_on old s)

  pub chosen_units : OnOk r (Spends old new (erases_on old area)) → (x : Result (Option Selector) MapFault) → x ≡ selected_as place r → OnOk x SpendsOnIt
  chosen_units units x is = subst (λ (y : Result (Option Selector) MapFault). OnOk y SpendsOnIt) (sym is) (at r units)
    where
      at : (y : Result Selector MountFault) → OnOk y (Spends old new (erases_on old area)) → OnOk (selected_as place y) SpendsOnIt
      at (Ok selector) units = λ s same. subst (λ (a : Area). Spends old new (erases_on old a)) (some_area area s (sym is_selector ∙ same)) units
      at (Err (HasDamage damaged)) units = tt
      at (Err MountLost) units = tt
      at (Err MountNoMemory) units = tt

-- the map has none
pub none_ends : (areas : List Area) (d : Device) → selector_of areas ≡ None → SelectorEnds areas d d (Ok None)
none_ends areas d none = (ap (λ (o : Option Area). damage_of o) none, record { selected = none; opened = λ x is. absurd (none-some x is) })
  where
    damage_of : Option Area → Option Damaged
    damage_of None = None
    damage_of (Some x) = ring_damage d x

-- ---- what mounting the selector leaves of the active area

module _ (serves : Area → Geometry → Type 0) (areas : List Area) (d mid : Device) (cut : Bool) (map : IsServedMap serves areas d) (lawful : IsLawful d.banks d.bytes) (lawful_mid : IsLawful mid.banks mid.bytes)
    (touches : Touches (selectors areas) d mid cut) (idle : ((s : Area) → selector_of areas ≡ Some s → erases_on d s ≡ 0) → mid ≡ d) where
  beside_it : (o : Option Area) → selector_of areas ≡ o → sectors_of mid (active_area areas d) ≡ sectors_of d (active_area areas d)
  beside_it None none = ap (λ (x : Device). sectors_of x (active_area areas d)) (idle (λ s is. absurd (none-some s (sym none ∙ is))))
  beside_it (Some s) is =
      same_apart {area = s} {other = active_area areas d} {old = d} {new = mid} {lost = cut} lawful lawful_mid (active_lawful serves areas d map d).in_bank (apart_active serves areas d map s is d).0
      (subst (λ (all : List Area). Touches all d mid cut) (ap (λ (o : Option Area). option_map_or (λ x. x ∷ []) o []) is) touches)

  pub active_sectors : sectors_of mid (active_area areas d) ≡ sectors_of d (active_area areas d)
  active_sectors = beside_it (selector_of areas) refl

  -- what is said of the active area is the same
  pub across : {T : Type 0} (f : Area → Geometry → List (List ℕ) → T) → active_on areas mid ≡ active_on areas d → on f mid (active_area areas mid) ≡ on f d (active_area areas d)
  across f stays = ap (λ (place : ℕ). on f mid (area_at areas place)) stays ∙ still f d mid (active_area areas d) touches.banks active_sectors

  -- ---- the selector was not mounted

  module _ {K : Type 0} (mounted_on : K → Area) (stands : K → Geometry → List (List ℕ) → Type 0) (runs : K → Bool) (damage : Area → Geometry → List (List ℕ) → Option Damaged) (contents : Area → Geometry → List (List ℕ) → Map) where
    pub stopped_touches : (fault : MapFault) → cut ≡ map_lost {T = Option Selector} (Err fault) → Touches (selectors areas ++ active_area areas d ∷ []) d mid (map_lost {T = Session K} (Err fault))
    stopped_touches fault is =
        subst (λ (b : Bool). Touches (selectors areas ++ active_area areas d ∷ []) d mid b) (is ∙ fault_lost (Option Selector) (Session K) fault)
        (wider (selectors areas ++ active_area areas d ∷ []) (λ x has. Contains-append_left (selectors areas) (active_area areas d ∷ []) x has) touches)

    pub stopped_ends : (fault : MapFault) → cut ≡ map_lost {T = Option Selector} (Err fault) → d.is_on ≡ true → (selector_damage_on areas d ≡ None → selector_damage_on areas mid ≡ None) → (selector_damage_on areas d ≡ None → active_on areas mid ≡ active_on areas d) → SelectorEnds areas d mid (Err fault) → MapEnds {K = K} mounted_on stands runs damage contents areas d mid (Err fault)
    stopped_ends (MapDamaged place damaged) is on sound stays ends = (selector_shows damage areas d (place, damaged) ends.0, inl (ends.1 ∙ powered d on))
    stopped_ends PowerLost is on sound stays ends = (ends, sound ends, inr (subst (λ (b : Bool). Touches (selectors areas) d mid b) is touches), (stays ends, still contents d mid (active_area areas d) touches.banks active_sectors))
    stopped_ends NoMemory is on sound stays ends = absurd ends

    pub stopped_sound : (selector_damage_on areas d ≡ None → selector_damage_on areas mid ≡ None) → (selector_damage_on areas d ≡ None → active_on areas mid ≡ active_on areas d) → damage_in damage areas d ≡ None → damage_in damage areas mid ≡ None
    stopped_sound sound stays is =
        let parts = none_damage damage areas d is in
        damage_none damage areas mid (sound parts.0) (across damage (stays parts.0) ∙ parts.1)

-- ---- settings, on the active area

pub at_active : (areas : List Area) (d : Device) (place : ℕ) (area : Area) → place ≡ active_on areas d → slice_get areas place ≡ Some area → area ≡ active_area areas d
at_active areas d place area is there = sym (area_there areas place area there) ∙ ap (area_at areas) is

module _ {K : Type 0} (serves : Area → Geometry → Type 0) (mounted_on : K → Area) (stands : K → Geometry → List (List ℕ) → Type 0) (runs : K → Bool) (damage : Area → Geometry → List (List ℕ) → Option Damaged) (contents : Area → Geometry → List (List ℕ) → Map)
    (rests : Area → Geometry → List (List ℕ) → Type 0) (areas : List Area) where
  pub record SettingsMounted (mid e : Device) (area : Area) (r : Result (Settings K) MountFault) : Type 0 where
    pub touches : Touches (area ∷ []) mid e (mount_lost r)
    pub ends : MountEnds (on damage mid area) mid e r
    pub sound : on damage mid area ≡ None → on damage e area ≡ None
    pub keeps : on damage mid area ≡ None → on contents e area ≡ on contents mid area
    pub idle : HoldsOn rests mid area → e ≡ mid
    pub area_is : IfOk r (λ settings. mounted_on settings.backend ≡ area)
    pub stand : IfOk r (λ settings. StandsOn mounted_on stands e settings.backend)
    pub up : IfOk r (λ settings. runs settings.backend ≡ true)

  -- on an area that is the active one
  pub settled : (mid e : Device) (area : Area) (place : ℕ) (r : Result (Settings K) MountFault) → place ≡ active_on areas mid → slice_get areas place ≡ Some area → SettingsMounted mid e area r → SettingsMounted mid e (active_area areas mid) r
  settled mid e area place r is there m = subst (λ (a : Area). SettingsMounted mid e a r) (at_active areas mid place area is there) m

  -- what was done before
  pub record Selected (d mid : Device) (selector : Option Selector) : Type 0 where
    pub map : IsServedMap serves areas d
    pub powered_on : d.is_on ≡ true
    pub lawful : IsLawful d.banks d.bytes
    pub lawful_mid : IsLawful mid.banks mid.bytes
    pub touches : Touches (selectors areas) d mid false
    pub idle : ((s : Area) → selector_of areas ≡ Some s → erases_on d s ≡ 0) → mid ≡ d
    pub units : (s : Area) → selector_of areas ≡ Some s → Spends d mid (erases_on d s)
    pub none : selector_damage_on areas d ≡ None
    pub sound : selector_damage_on areas mid ≡ None
    pub active : active_on areas mid ≡ active_on areas d
    pub records : SameRecords areas d mid
    pub has : HasSelector areas mid selector

  module _ (d mid e : Device) (selector : Option Selector) (place : ℕ) (r : Result (Settings K) MountFault) (lawful : IsLawful e.banks e.bytes) (s : Selected d mid selector) (is_place : place ≡ active_on areas mid) (m : SettingsMounted mid e (active_area areas mid) r) where
    map_mid : IsServedMap serves areas mid
    map_mid = served_still serves areas d mid s.touches.banks s.map

    over : {T : Type 0} (f : Area → Geometry → List (List ℕ) → T) → on f mid (active_area areas mid) ≡ on f d (active_area areas d)
    over f = across serves areas d mid false s.map s.lawful s.lawful_mid s.touches s.idle f s.active

    stays : active_on areas e ≡ active_on areas mid
    stays = active_beside serves areas mid e map_mid s.lawful_mid lawful m.touches.banks m.touches.outside

    has_now : HasSelector areas e selector
    has_now = has_still areas mid e m.touches.banks (selector_beside serves areas mid e map_mid s.lawful_mid lawful m.touches.banks m.touches.outside) selector s.has

    sound_now : selector_damage_on areas e ≡ None
    sound_now = selector_still areas mid e m.touches.banks (selector_beside serves areas mid e map_mid s.lawful_mid lawful m.touches.banks m.touches.outside) ∙ s.sound

    reads : on damage mid (active_area areas mid) ≡ None → ReadsSame contents areas d e
    reads none = (
      stays ∙ s.active,
      subst (λ (p : ℕ). on contents e (area_at areas p) ≡ on contents d (active_area areas d)) s.active (m.keeps none ∙ over contents),
    )

    begins_by : (o : Option Area) → selector_of areas ≡ o → BeginsMount areas d mid
    begins_by None none = inl (s.idle (λ x is. absurd (none-some x (sym none ∙ is))) ∙ powered d s.powered_on)
    begins_by (Some area) is = inr (record {
      selector = area;
      is = is;
      sound = s.none;
      sound_still = s.sound;
      touches = subst (λ (x : Device). Touches (selectors areas) x mid false) (powered d s.powered_on) s.touches;
      units = s.units area is;
      active = s.active;
      records = s.records area is;
    })

    begins : e ≡ mid → BeginsMount areas d e
    begins same = subst (λ (x : Device). BeginsMount areas d x) (sym same) (begins_by (selector_of areas) refl)

    ends_at : (x : Result (Settings K) MountFault) → SettingsMounted mid e (active_area areas mid) x → MapEnds mounted_on stands runs damage contents areas d e (mounted_as selector place x)
    ends_at (Ok settings) w = (
      settings,
      refl,
      record {
        is_active = is_place ∙ sym stays;
        there = ap (slice_get areas) is_place ∙ active_there serves areas mid map_mid mid ∙ ap (λ (a : Area). Some a) (sym w.area_is);
        up = w.up;
        standing = w.stand;
        selects = has_now;
      },
      s.none,
      none_at damage areas d (sym (over damage) ∙ w.ends),
      reads w.ends,
    )
    ends_at (Err (HasDamage damaged)) w = (
      active_shows damage areas d damaged s.none (sym (over damage) ∙ w.ends.0) ∙ ap (λ (p : ℕ). Some (p, damaged)) (sym s.active ∙ sym is_place),
      begins w.ends.1,
    )
    ends_at (Err MountLost) w = (s.none, sound_now, inl (none_at damage areas d (sym (over damage) ∙ w.ends)), reads w.ends)
    ends_at (Err MountNoMemory) w = (s.none, begins w.ends)

    pub map_ends : (x : Result (Session K) MapFault) → x ≡ mounted_as selector place r → MapEnds mounted_on stands runs damage contents areas d e x
    map_ends x is = subst (λ (y : Result (Session K) MapFault). MapEnds mounted_on stands runs damage contents areas d e y) (sym is) (ends_at r m)

    pub map_touches : (x : Result (Session K) MapFault) → x ≡ mounted_as selector place r → Touches (selectors areas ++ active_area areas d ∷ []) d e (map_lost x)
    map_touches x is =
        let both : List Area = selectors areas ++ active_area areas d ∷ [] in
        let first : Touches both d mid false = wider both (λ y has. Contains-append_left (selectors areas) (active_area areas d ∷ []) y has) s.touches in
        let at_d : Touches (active_area areas d ∷ []) mid e (mount_lost r) = subst (λ (p : ℕ). Touches (area_at areas p ∷ []) mid e (mount_lost r)) s.active m.touches in
        let second : Touches both mid e (mount_lost r) = wider both (λ y has. Contains-append_right (selectors areas) (active_area areas d ∷ []) y has) at_d in
        subst (λ (b : Bool). Touches both d e b) (mounted_lost selector place r ∙ ap map_lost (sym is)) (then first second)

    pub map_records : SameRecords areas d e
    map_records x is =
        still (λ area geometry sectors. entries geometry.unit sectors) mid e x m.touches.banks (selector_beside serves areas mid e map_mid s.lawful_mid lawful m.touches.banks m.touches.outside x is)
        ∙ s.records x is

    pub map_sound : damage_in damage areas d ≡ None → damage_in damage areas e ≡ None
    map_sound is =
        let parts = none_damage damage areas d is in
        none_beside damage areas serves mid e map_mid s.lawful_mid lawful m.touches.banks m.touches.outside m.sound (damage_none damage areas mid s.sound (over damage ∙ parts.1))

    pub map_rests : IsAtRest rests areas d → e ≡ d
    map_rests rest =
        let same : mid ≡ d = s.idle rest.selector in
        m.idle (subst (λ (x : Device). HoldsOn rests x (active_area areas x)) (sym same) rest.active) ∙ same
