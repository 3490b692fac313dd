-- A whole migration.
use Rattle.std.proofs.Common.{◌≡◌, ◌≢◌, ◌≤◌, ℕ, zero, suc, Bool, true, false, not, cond, List, [], ◌∷◌, length, Option, Some, None, Result, Ok, Err, refl, sym, ap, subst, ◌∙◌, inl, inr, arith}
use Rattle.std.specs.Prelude.{unwrap_or, IfOk, OnOk}
use Rattle.std.specs.List.{slice_get}
use Rattle.std.specs.Option.{option_map_or, option_and_then}
use Rattle.std.proofs.lemmas.Bool.{cases_Bool, false≢true}
use Rattle.std.proofs.lemmas.Option.{none-some}
use Rattle.flash_sim.specs.Device.{Device}
use Rattle.flash_sim.specs.declared.flash.Bank.{Bank}
use Rattle.flash_map.specs.declared.area.Area.{Area}
use Rattle.flash_map.specs.declared.area.Geometry.{Geometry}
use Rattle.flash_map.specs.declared.faults.Damaged.{Damaged}
use Rattle.flash_map.specs.Area.{AreApart, geometry_of}
use Rattle.flash_map.specs.Spending.{SpendsAtMost}
use Rattle.fcb_ring.specs.declared.ring.Ring.{Ring}
use Rattle.fcb_ring.specs.Entries.{bodies}
use Rattle.fcb_ring.specs.Standing.{entries_on, erases_on, ring_damage}
use Rattle.fcb_ring.proofs.PlaceLemmas.{found_some, found_none}
use Rattle.backend_api.specs.Map.{Map}
use Rattle.flash_map.specs.On.{on, HoldsOn, StandsOn}
use Rattle.backend_api.specs.Room.{Room}
use Rattle.migrator.specs.declared.migrating.MigrateFault.{MigrateFault}
use Rattle.migrator.specs.declared.migrating.MigrateFault.TheVariants.{NoTarget, NoSpace, TooManyNames, PowerLost, NoMemory}
use Rattle.migrator.specs.Active.{named, chosen, active_in, active_on, active_with, selector_damage_on}
use Rattle.migrator.specs.Areas.{IsLawfulMap, is_store, is_store_at, store_from, first_store, selector_of, target}
use Rattle.migrator.specs.Choosing.{IsOpen}
use Rattle.migrator.specs.Migrating.{ActiveRests, IsLeftResting, migrate_lost, is_refused, IsServed, move_units, migrate_units, worked_on, room_on, ReadsAs, FillsAndChooses, IsMoved, StaysActive, MoveEnds, MigrateEnds}
use Rattle.migrator.proofs.AreaLemmas.{store-within}
use Rattle.migrator.proofs.Choices.{named-says}
use Rattle.migrator.proofs.Copies.{geometry-same}
use Rattle.migrator.proofs.Latest.{latest-found}

some-same : {X : Type 0} (x y : X) → Some x ≡ Some y → x ≡ y
some-same x y e = cc

-- ---- the selector is another area than a store area

pub record IsSelectorAt (areas : List Area) (area : Area) : Type 0 where
  pub index : ℕ
  pub there : slice_get areas index ≡ Some area
  pub none : is_store area ≡ false

false-from : (t : Bool) → not t ≡ true → t ≡ false
false-from true e = absurd (false≢true e)
false-from false e = refl

pub selector-at : (areas : List Area) (area : Area) → selector_of areas ≡ Some area → IsSelectorAt areas area
selector-at [] area is = absurd (none-some area is)
selector-at (x ∷ areas) area is = elim (cases_Bool (not (is_store x))) [
  | inl here ↦
      let same : x ≡ area = some-same x area (sym (ap (λ (b : Bool). cond b (Some x) (selector_of areas)) here) ∙ is) in
      record { index = zero; there = ap (λ (y : Area). Some y) same; none = subst (λ (y : Area). is_store y ≡ false) same (false-from (is_store x) here) }
  | inr other ↦
      let rest = selector-at areas area (sym (ap (λ (b : Bool). cond b (Some x) (selector_of areas)) other) ∙ is) in
      record { index = suc rest.index; there = rest.there; none = rest.none }
]

-- an area at an index that stores settings
pub store-of : (areas : List Area) (index : ℕ) (area : Area) → slice_get areas index ≡ Some area → is_store_at areas index ≡ true → is_store area ≡ true
store-of areas index area there store = sym (ap (λ (o : Option Area). option_map_or is_store o false) there) ∙ store

pub apart-selector : (areas : List Area) (selector area : Area) (s : IsSelectorAt areas selector) (index : ℕ) → slice_get areas index ≡ Some area → is_store_at areas index ≡ true → s.index ≢ index
apart-selector areas selector area s index there store same =
    let both : selector ≡ area = some-same selector area (sym s.there ∙ ap (slice_get areas) same ∙ there) in
    false≢true (sym s.none ∙ ap is_store both ∙ store-of areas index area there store)

pub selector-apart : (banks : List Bank) (areas : List Area) (selector area : Area) (index : ℕ) → IsLawfulMap banks areas → selector_of areas ≡ Some selector → slice_get areas index ≡ Some area → is_store_at areas index ≡ true → AreApart selector area × AreApart area selector
selector-apart banks areas selector area index lawful is there store =
    let s = selector-at areas selector is in
    let apart = apart-selector areas selector area s index there store in
    (lawful.apart s.index index selector area s.there there apart, lawful.apart index s.index area selector there s.there (λ same. apart (sym same)))

-- the active area stores settings, where one does
pub active-store : (areas : List Area) (d : Device) (selector : Area) (some : ℕ) → is_store_at areas some ≡ true → is_store_at areas (active_in areas d selector) ≡ true
active-store areas d selector some store = at (chosen areas (bodies (entries_on d selector))) refl
  where
    first : (o : Option ℕ) → store_from areas 0 (length areas) ≡ o → is_store_at areas (unwrap_or o 0) ≡ true
    first (Some x) e = (found_some (is_store_at areas) 0 (length areas) x e).passes
    first None e =
        let within = store-within areas some store in
        absurd (false≢true (sym (found_none (is_store_at areas) 0 (length areas) e some (omega arith) (omega arith)) ∙ store))

    at : (o : Option ℕ) → chosen areas (bodies (entries_on d selector)) ≡ o → is_store_at areas (unwrap_or (chosen areas (bodies (entries_on d selector))) (first_store areas)) ≡ true
    at (Some index) e =
        let f = latest-found (named areas) (bodies (entries_on d selector)) index e in
        subst (λ (o : Option ℕ). is_store_at areas (unwrap_or o (first_store areas)) ≡ true) (sym e) (named-says areas f.element index f.is).store
    at None e = subst (λ (o : Option ℕ). is_store_at areas (unwrap_or o (first_store areas)) ≡ true) (sym e) (first (store_from areas 0 (length areas)) refl)

-- ---- a map that has a selector

pub active-on : (areas : List Area) (d : Device) (selector : Area) → selector_of areas ≡ Some selector → active_on areas d ≡ active_in areas d selector
active-on areas d selector is = ap (active_with areas d) is

damage-with : (areas : List Area) (d : Device) (selector : Area) → selector_of areas ≡ Some selector → selector_damage_on areas d ≡ ring_damage d selector
damage-with areas d selector is = ap (option_and_then (ring_damage d)) is

-- ---- the areas on which a migration works

pub worked-is : (areas : List Area) (selector area : Area) (active index : ℕ) → target areas active ≡ Some index → slice_get areas index ≡ Some area → worked_on areas selector active ≡ area ∷ selector ∷ []
worked-is areas selector area active index is there =
    ap (λ (o : Option ℕ). option_map_or (λ x. x ∷ selector ∷ []) (option_and_then (slice_get areas) o) (selector ∷ [])) is
    ∙ ap (λ (o : Option Area). option_map_or (λ x. x ∷ selector ∷ []) o (selector ∷ [])) there

-- and what it may spend
pub migrate-most : (a e : Device) (areas : List Area) (selector area : Area) (active index names : ℕ) → target areas active ≡ Some index → slice_get areas index ≡ Some area → SpendsAtMost a e (move_units a selector area names)
    → SpendsAtMost a e (migrate_units a areas selector active names)
migrate-most a e areas selector area active index names is there spent =
    let to : option_and_then (slice_get areas) (target areas active) ≡ Some area = ap (λ (o : Option ℕ). option_and_then (slice_get areas) o) is ∙ there in
    subst (λ (o : Option Area). SpendsAtMost a e (option_map_or (λ x. move_units a selector x names) o 0)) (sym to) spent

-- ---- how it ends

module _ {S : Type 0} (mounted : S → Area) (damage : Area → Geometry → List (List ℕ) → Option Damaged) (contents : Area → Geometry → List (List ℕ) → Map) (room : Area → Geometry → Room) where
  pub migrate-ends : (areas : List Area) (selector area : Area) (active index : ℕ) (settings : Map) (old new : Device) (result : Result (S × ℕ) MigrateFault) → target areas active ≡ Some index → slice_get areas index ≡ Some area
      → MoveEnds mounted damage contents (room_on room old area) areas selector area index settings old new result → MigrateEnds mounted damage contents room areas selector active settings old new result
  migrate-ends areas selector area active index settings old new (Ok moved) is there ends = (index, area, record { target = is; there = there }, ends)
  migrate-ends areas selector area active index settings old new (Err NoTarget) is there ends = absurd ends
  migrate-ends areas selector area active index settings old new (Err TooManyNames) is there ends = (index, area, record { target = is; there = there }, ends)
  migrate-ends areas selector area active index settings old new (Err (NoSpace need live)) is there ends = (index, area, record { target = is; there = there }, ends)
  migrate-ends areas selector area active index settings old new (Err PowerLost) is there ends = (index, area, record { target = is; there = there }, ends)
  migrate-ends areas selector area active index settings old new (Err NoMemory) is there ends = (index, area, record { target = is; there = there }, ends)

  -- the area that was filled and chosen is the store's
  pub moved-chosen : (areas : List Area) (ring : Ring) (area : Area) (index names : ℕ) (settings : Map) (old new : Device) (result : Result (S × ℕ) MigrateFault) → MoveEnds mounted damage contents (room_on room old area) areas ring.area area index settings old new result
      → OnOk result (FillsAndChooses areas old new ring area index names) → IfOk result (λ (moved : S × ℕ). FillsAndChooses areas old new ring (mounted moved.0) moved.1 names)
  moved-chosen areas ring area index names settings old new (Ok moved) ends chosen =
      subst (λ (x : Area). FillsAndChooses areas old new ring x moved.1 names) (sym ends.1) (subst (λ (i : ℕ). FillsAndChooses areas old new ring area i names) (sym ends.0) chosen)
  moved-chosen areas ring area index names settings old new (Err fault) ends chosen = tt

  -- the settings are read through the active area
  pub reads-still : (areas : List Area) (d : Device) (selector source : Area) (active : ℕ) → selector_of areas ≡ Some selector → slice_get areas active ≡ Some source → active ≡ active_on areas d → ring_damage d selector ≡ None → on damage d source ≡ None → ReadsAs damage contents areas d (on contents d source)
  reads-still areas d selector source active selected there is sound undamaged = record {
    sound = damage-with areas d selector selected ∙ sound;
    area = source;
    there = ap (slice_get areas) (sym is) ∙ there;
    undamaged = undamaged;
    reads = refl;
  }

  pub reads-through : (areas : List Area) (selector source area : Area) (active index : ℕ) (settings : Map) (old new : Device) (result : Result (S × ℕ) MigrateFault)
      → selector_of areas ≡ Some selector → slice_get areas active ≡ Some source → active ≡ active_on areas old → slice_get areas index ≡ Some area
      → ring_damage new selector ≡ None → on damage new source ≡ None → on contents new source ≡ settings
      → MoveEnds mounted damage contents (room_on room old area) areas selector area index settings old new result → ReadsAs damage contents areas new settings
  reads-through areas selector source area active index settings old new result selected there active-is there-target sound undamaged reads ends = at result ends
    where
      no_damage : selector_damage_on areas new ≡ None
      no_damage = damage-with areas new selector selected ∙ sound

      now : active_on areas new ≡ active_in areas new selector
      now = active-on areas new selector selected

      stays : StaysActive areas selector old new → ReadsAs damage contents areas new settings
      stays same = record {
        sound = no_damage;
        area = source;
        there = ap (slice_get areas) (now ∙ same ∙ sym (active-on areas old selector selected) ∙ sym active-is) ∙ there;
        undamaged = undamaged;
        reads = reads;
      }

      moves : IsMoved damage contents (room_on room old area) areas selector area index settings new → ReadsAs damage contents areas new settings
      moves moved = record { sound = no_damage; area = area; there = ap (slice_get areas) (now ∙ moved.active) ∙ there-target; undamaged = moved.undamaged; reads = moved.reads }

      at : (r : Result (S × ℕ) MigrateFault) → MoveEnds mounted damage contents (room_on room old area) areas selector area index settings old new r → ReadsAs damage contents areas new settings
      at (Ok moved) ends = moves ends.2
      at (Err NoTarget) ends = absurd ends
      at (Err TooManyNames) ends = stays ends.1
      at (Err (NoSpace need live)) ends = stays ends.1
      at (Err PowerLost) ends = elim ends [ inl same ↦ stays same | inr moved ↦ moves moved ]
      at (Err NoMemory) ends = stays ends

-- ---- what it leaves to the next mount

module _ (rests : Area → Geometry → List (List ℕ) → Type 0) (areas : List Area) (selector source : Area) (active : ℕ) (selected : selector_of areas ≡ Some selector) (there : slice_get areas active ≡ Some source) where
  pub rests-still : (d : Device) → active ≡ active_on areas d → HoldsOn rests d source → erases_on d selector ≤ 1 → IsLeftResting rests areas selector d
  rests-still d is held few = record { area = source; there = ap (slice_get areas) (sym is) ∙ there; at_rest = held; erases = few }

  pub rests-through : (area : Area) (index : ℕ) (old new : Device) → active ≡ active_on areas old → slice_get areas index ≡ Some area → HoldsOn rests new source → erases_on new selector ≤ 1 → ActiveRests rests areas selector area index old new → IsLeftResting rests areas selector new
  rests-through area index old new is there-target held few ends = elim ends [
    | inl same ↦ rests-still new (is ∙ active-on areas old selector selected ∙ sym same ∙ sym (active-on areas new selector selected)) held few
    | inr moved ↦ record { area = area; there = ap (slice_get areas) (active-on areas new selector selected ∙ moved.0) ∙ there-target; at_rest = moved.1; erases = few }
  ]

-- ---- the selector and a store, behind a migration

module _ {S : Type 0} (serves : Area → Geometry → Type 0) (mounted : S → Area) (stands : S → Geometry → List (List ℕ) → Type 0) (damage : Area → Geometry → List (List ℕ) → Option Damaged) (contents : Area → Geometry → List (List ℕ) → Map) (room : Area → Geometry → Room)
    (areas : List Area) (area : Area) (active index : ℕ) (settings : Map) (old new : Device) (before after : Ring) (from : S) (result : Result (S × ℕ) MigrateFault)
    (was : IsServed serves mounted stands areas old before from active) (banks : new.banks ≡ old.banks) (same : after.area ≡ before.area) where
  lawful-now : IsLawfulMap new.banks areas
  lawful-now = subst (λ (all : List Bank). IsLawfulMap all areas) (sym banks) was.lawful

  served-now : (i : ℕ) (x : Area) → slice_get areas i ≡ Some x → is_store x ≡ true → serves x (geometry_of new x)
  served-now i x there store = subst (λ (g : Geometry). serves x g) (sym (geometry-same old new x banks)) (was.served i x there store)

  selected-now : selector_of areas ≡ Some after.area
  selected-now = was.selected ∙ ap (λ (x : Area). Some x) (sym same)

  active-now : active_on areas new ≡ active_in areas new before.area
  active-now = active-on areas new before.area was.selected

  pub moved-served : slice_get areas index ≡ Some area → (migrate_lost result ≡ false → IsOpen new after) → IfOk result (λ (moved : S × ℕ). StandsOn mounted stands new moved.0)
      → MoveEnds mounted damage contents (room_on room old area) areas before.area area index settings old new result → IfOk result (λ (moved : S × ℕ). IsServed serves mounted stands areas new after moved.0 moved.1)
  moved-served there opened standing ends = at result opened standing ends
    where
      at : (r : Result (S × ℕ) MigrateFault) → (migrate_lost r ≡ false → IsOpen new after) → IfOk r (λ (moved : S × ℕ). StandsOn mounted stands new moved.0)
          → MoveEnds mounted damage contents (room_on room old area) areas before.area area index settings old new r → IfOk r (λ (moved : S × ℕ). IsServed serves mounted stands areas new after moved.0 moved.1)
      at (Ok moved) opened standing ends = record {
        lawful = lawful-now;
        served = served-now;
        selected = selected-now;
        open_ring = opened refl;
        there = ap (slice_get areas) ends.0 ∙ there ∙ ap (λ (x : Area). Some x) (sym ends.1);
        up = standing;
        is_active = ends.0 ∙ sym ends.2.active ∙ sym active-now;
      }
      at (Err fault) opened standing ends = tt

  pub refused-served : (migrate_lost result ≡ false → IsOpen new after) → StandsOn mounted stands new from
      → MoveEnds mounted damage contents (room_on room old area) areas before.area area index settings old new result → is_refused result ≡ true → IsServed serves mounted stands areas new after from active
  refused-served opened standing ends refused = at result opened ends refused
    where
      kept : IsOpen new after → StaysActive areas before.area old new → IsServed serves mounted stands areas new after from active
      kept opened stays = record {
        lawful = lawful-now;
        served = served-now;
        selected = selected-now;
        open_ring = opened;
        there = was.there;
        up = standing;
        is_active = was.is_active ∙ active-on areas old before.area was.selected ∙ sym stays ∙ sym active-now;
      }

      at : (r : Result (S × ℕ) MigrateFault) → (migrate_lost r ≡ false → IsOpen new after) → MoveEnds mounted damage contents (room_on room old area) areas before.area area index settings old new r → is_refused r ≡ true → IsServed serves mounted stands areas new after from active
      at (Ok moved) opened ends refused = absurd (false≢true refused)
      at (Err NoTarget) opened ends refused = absurd ends
      at (Err TooManyNames) opened ends refused = kept (opened refl) ends.1
      at (Err (NoSpace need live)) opened ends refused = kept (opened refl) ends.1
      at (Err PowerLost) opened ends refused = absurd (false≢true refused)
      at (Err NoMemory) opened ends refused = kept (opened refl) ends
