-- The areas of a map: which is active, and what stays of the selector.
use Rattle.std.proofs.Common.{◌≡◌, ℕ, zero, suc, ◌+◌, ◌<◌, Bool, true, false, not, cond, List, [], ◌∷◌, length, map, get_or, Option, Some, None, refl, sym, ap, subst, ◌∙◌, inl, inr, arith, ◌==◌}
use Rattle.std.specs.Prelude.{option_map, find, filter, Contains}
use Rattle.std.specs.List.{slice_get, range_with_len}
use Rattle.std.specs.Option.{option_map_or, option_and_then}
use Rattle.std.proofs.lemmas.Bool.{cases_Bool, false≢true}
use Rattle.std.proofs.lemmas.Option.{get_or_from_slice_get, slice_get-get_or, slice_get_within}
use Rattle.std.proofs.lemmas.List.FromFn.{length-range_with_len, get_or-range_with_len}
use Rattle.flash_sim.specs.Bank.{IsLawful}
use Rattle.flash_sim.specs.Device.{Device, counted}
use Rattle.flash_sim.specs.Device.Plan.{Never}
use Rattle.flash_sim.specs.declared.flash.Bank.{Bank}
use Rattle.flash_map.specs.declared.area.Area.{Area}
use Rattle.flash_map.specs.declared.area.Geometry.{Geometry}
use Rattle.flash_map.specs.declared.area.Role.{Role}
use Rattle.flash_map.specs.declared.area.Role.TheVariants.{Nvs, Zms, Fcb, Sel}
use Rattle.flash_map.specs.declared.area.TheConstants.{VALUE_LIMIT, LONG_VALUE_LIMIT}
use Rattle.flash_map.specs.Area.{AreApart, IsLawfulArea, geometry_of, sectors_of, value_limit}
use Rattle.flash_map.specs.Lawful.{IsLawfulFor}
use Rattle.flash_map.specs.Touches.{Touches, SameOutside}
use Rattle.flash_map.proofs.Apart.{same_apart}
use Rattle.fcb_ring.specs.Entries.{states}
use Rattle.fcb_ring.specs.Rings.{first_damage}
use Rattle.fcb_ring.specs.Standing.{IsRingArea, ring_damage}
use Rattle.fcb_ring.proofs.PlaceLemmas.{found_some}
use Rattle.migrator.specs.Active.{active_in, active_on, active_with, selector_damage_on}
use Rattle.migrator.specs.Areas.{IsLawfulMap, is_store, is_store_at, stores, first_store, selector_of}
use Rattle.migrator.specs.declared.selecting.Selector.{Selector}
use Rattle.migrator.proofs.AreaLemmas.{store-within}
use Rattle.migrator.proofs.Copies.{geometry-same}
use Rattle.migrator.proofs.Migration.{active-on, selector-at, selector-apart, active-store, store-of}
use Rattle.migrator.proofs.Moving.{active-still, open-still, still}
use Rattle.session_table.specs.Bench.{area_at, is_selector, places_of}
use Rattle.session.specs.OnMap.{IsServedMap, HasSelector, active_area, limit_of, selector_found, turned_on}

some_same : {X : Type 0} (x y : X) → Some x ≡ Some y → x ≡ y
some_same x y e = cc

-- ---- places

pub area_there : (areas : List Area) (place : ℕ) (area : Area) → slice_get areas place ≡ Some area → area_at areas place ≡ area
area_there areas place area is = get_or_from_slice_get areas place area _ is

pub store_there : (areas : List Area) (place : ℕ) → is_store_at areas place ≡ true → slice_get areas place ≡ Some (area_at areas place)
store_there areas place store = slice_get-get_or areas place _ (store-within areas place store)

-- the selector's area, by its place
finds : (xs areas : List Area) (k : ℕ) → ((i : ℕ) → slice_get areas (k + i) ≡ slice_get xs i)
    → find (λ area. not (is_store area)) xs ≡ option_and_then (slice_get areas) (find (λ place. not (is_store_at areas place)) (range_with_len k (length xs)))
finds [] areas k same = refl
finds (x ∷ xs) areas k same =
    let k_is : k ≡ k + 0 = omega arith in
    let here : slice_get areas k ≡ Some x = ap (slice_get areas) k_is ∙ same 0 in
    let test : not (is_store_at areas k) ≡ not (is_store x) = ap (λ (o : Option Area). not (option_map_or is_store o false)) here in
    let later : (i : ℕ) → slice_get areas (k + 1 + i) ≡ slice_get xs i = λ i. let e : k + 1 + i ≡ k + suc i = omega arith in ap (slice_get areas) e ∙ same (suc i) in
    elim (cases_Bool (not (is_store x))) [
      | inl yes_it ↦
          ap (λ (b : Bool). cond b (Some x) (find (λ area. not (is_store area)) xs)) yes_it
          ∙ sym (ap (λ (b : Bool). option_and_then (slice_get areas) (cond b (Some k) (find (λ place. not (is_store_at areas place)) (range_with_len (k + 1) (length xs))))) (test ∙ yes_it) ∙ here)
      | inr not_it ↦
          ap (λ (b : Bool). cond b (Some x) (find (λ area. not (is_store area)) xs)) not_it
          ∙ finds xs areas (k + 1) later
          ∙ sym (ap (λ (b : Bool). option_and_then (slice_get areas) (cond b (Some k) (find (λ place. not (is_store_at areas place)) (range_with_len (k + 1) (length xs))))) (test ∙ not_it))
    ]

selector_is : (areas : List Area) → selector_of areas ≡ option_and_then (slice_get areas) (selector_found areas)
selector_is areas = finds areas areas 0 (λ i. let e : 0 + i ≡ i = omega arith in ap (slice_get areas) e)

pub selected : (areas : List Area) (place : ℕ) (area : Area) → selector_found areas ≡ Some place → slice_get areas place ≡ Some area → selector_of areas ≡ Some area
selected areas place area found there = selector_is areas ∙ ap (option_and_then (slice_get areas)) found ∙ there

pub unselected : (areas : List Area) → selector_found areas ≡ None → selector_of areas ≡ None
unselected areas none = selector_is areas ∙ ap (option_and_then (slice_get areas)) none

pub found_within : (areas : List Area) (place : ℕ) → selector_found areas ≡ Some place → place < length areas
found_within areas place found =
    let first = found_some (λ place. not (is_store_at areas place)) 0 (length areas) place found in
    let below = first.below in
    omega (arith, below)

-- ---- the selector stays

module _ (areas : List Area) (a b : Device) (banks : b.banks ≡ a.banks) (same : (s : Area) → selector_of areas ≡ Some s → sectors_of b s ≡ sectors_of a s) where
  with_it : (o : Option Area) → selector_of areas ≡ o → active_with areas b o ≡ active_with areas a o
  with_it None is = refl
  with_it (Some s) is = active-still areas a b s banks (same s is)

  pub active_still : active_on areas b ≡ active_on areas a
  active_still = with_it (selector_of areas) refl

  damage_with : (o : Option Area) → selector_of areas ≡ o → option_and_then (ring_damage b) o ≡ option_and_then (ring_damage a) o
  damage_with None is = refl
  damage_with (Some s) is = still (λ area geometry sectors. first_damage (states geometry.unit sectors)) a b s banks (same s is)

  pub selector_still : selector_damage_on areas b ≡ selector_damage_on areas a
  selector_still = damage_with (selector_of areas) refl

  pub has_still : (selector : Option Selector) → HasSelector areas a selector → HasSelector areas b selector
  has_still selector has = record {
    selected = has.selected;
    opened = λ x is. open-still a b x.ring banks (same x.ring.area (has.selected ∙ ap (λ (o : Option Selector). option_map (λ (s : Selector). s.ring.area) o) is)) (has.opened x is);
  }

-- the active area, by a selector that is open
pub has_active : (areas : List Area) (d : Device) (o : Option Selector) (s : Selector) (found : ℕ) → HasSelector areas d o → o ≡ Some s → found ≡ active_in areas d s.ring.area → found ≡ active_on areas d
has_active areas d o s found has is found_is = found_is ∙ sym (active-on areas d s.ring.area (has.selected ∙ ap (λ (x : Option Selector). option_map (λ (y : Selector). y.ring.area) x) is))

pub none_active : (areas : List Area) (d : Device) (o : Option Selector) (found : ℕ) → HasSelector areas d o → o ≡ None → found ≡ first_store areas → found ≡ active_on areas d
none_active areas d o found has is found_is = found_is ∙ sym (ap (active_with areas d) (has.selected ∙ ap (λ (x : Option Selector). option_map (λ (y : Selector). y.ring.area) x) is))

-- power alone changed
pub active_powered : (areas : List Area) (d : Device) → active_on areas (turned_on d) ≡ active_on areas d
active_powered areas d = active_still areas d (turned_on d) refl (λ s is. refl)

pub selector_powered : (areas : List Area) (d : Device) → selector_damage_on areas (turned_on d) ≡ selector_damage_on areas d
selector_powered areas d = selector_still areas d (turned_on d) refl (λ s is. refl)

-- ---- what is known of the active area

none_role : (role : Role) → stores role ≡ false → role ≡ Sel
none_role Nvs none = absurd (false≢true (sym none))
none_role Zms none = absurd (false≢true (sym none))
none_role Fcb none = absurd (false≢true (sym none))
none_role Sel none = refl

pub served_still : (serves : Area → Geometry → Type 0) (areas : List Area) (a b : Device) → b.banks ≡ a.banks → IsServedMap serves areas a → IsServedMap serves areas b
served_still serves areas a b banks map = record {
  lawful = subst (λ (all : List Bank). IsLawfulMap all areas) (sym banks) map.lawful;
  served = λ place area there store. subst (λ (g : Geometry). serves area g) (sym (geometry-same a b area banks)) (map.served place area there store);
  some = map.some;
  one = map.one;
}

pub selector_lawful : (banks : List Bank) (areas : List Area) (s : Area) → IsLawfulMap banks areas → selector_of areas ≡ Some s → IsLawfulFor banks s × (s.role ≡ Sel)
selector_lawful banks areas s lawful is = let at = selector-at areas s is in (lawful.each at.index s at.there, none_role s.role at.none)

pub selector_ring : (banks : List Bank) (areas : List Area) (s : Area) → IsLawfulMap banks areas → selector_of areas ≡ Some s → IsRingArea banks s
selector_ring banks areas s lawful is = let both = selector_lawful banks areas s lawful is in record { lawful = both.0; role = inr both.1 }

module _ (serves : Area → Geometry → Type 0) (areas : List Area) (a : Device) (map : IsServedMap serves areas a) where
  store_with : (d : Device) (o : Option Area) → is_store_at areas (active_with areas d o) ≡ true
  store_with d None = map.some
  store_with d (Some s) = active-store areas d s (first_store areas) map.some

  pub active_stores : (d : Device) → is_store_at areas (active_on areas d) ≡ true
  active_stores d = store_with d (selector_of areas)

  pub active_there : (d : Device) → slice_get areas (active_on areas d) ≡ Some (active_area areas d)
  active_there d = store_there areas (active_on areas d) (active_stores d)

  pub active_within : (d : Device) → active_on areas d < length areas
  active_within d = store-within areas (active_on areas d) (active_stores d)

  pub active_lawful : (d : Device) → IsLawfulFor a.banks (active_area areas d)
  active_lawful d = map.lawful.each (active_on areas d) (active_area areas d) (active_there d)

  pub active_serves : (d : Device) → serves (active_area areas d) (geometry_of a (active_area areas d))
  active_serves d = map.served (active_on areas d) (active_area areas d) (active_there d) (store-of areas (active_on areas d) (active_area areas d) (active_there d) (active_stores d))

  pub active_limit : (d : Device) → value_limit (active_area areas d) ≡ limit_of areas
  active_limit d =
      ap (λ (n : ℕ). cond (n == 2) LONG_VALUE_LIMIT VALUE_LIMIT)
      (map.lawful.versions (active_on areas d) (first_store areas) (active_area areas d) (area_at areas (first_store areas)) (active_there d) (store_there areas (first_store areas) map.some))

  pub apart_active : (s : Area) → selector_of areas ≡ Some s → (d : Device) → AreApart s (active_area areas d) × AreApart (active_area areas d) s
  apart_active s is d = selector-apart a.banks areas s (active_area areas d) (active_on areas d) map.lawful is (active_there d) (active_stores d)

-- ---- where one area alone changed

-- the sectors of another stay
pub same_beside : (area other : Area) (old new : Device) → IsLawful old.banks old.bytes → IsLawful new.banks new.bytes → IsLawfulArea old.banks other → AreApart area other → new.banks ≡ old.banks → SameOutside (area ∷ []) old new
    → sectors_of new other ≡ sectors_of old other
same_beside area other old new lawful lawful_new is_area apart banks outside = same_apart {area = area} {other = other} {old = before} {new = after} {lost = false} lawful lawful_new is_area apart touches
  where
    before : Device
    before = record old { is_on = true; plan = Never }

    after : Device
    after = record new { loads = old.loads; is_on = true; losses = old.losses; last_loss = old.last_loss; plan = Never; spent = counted old.spent 1 }

    touches : Touches (area ∷ []) before after false
    touches = record {
      banks = banks;
      loads = refl;
      outside = outside;
      units = 1;
      spent = refl;
      idle = λ none. absurd (omega (arith, none));
      off = λ off. absurd (false≢true (sym off));
      ends = record { on = refl; losses = refl; last_loss = refl; lasts = tt; plan = refl };
    }

module _ (serves : Area → Geometry → Type 0) (areas : List Area) (old new : Device) (map : IsServedMap serves areas old) (lawful : IsLawful old.banks old.bytes) (lawful_new : IsLawful new.banks new.bytes)
    (banks : new.banks ≡ old.banks) (outside : SameOutside (active_area areas old ∷ []) old new) where
  -- the active area alone changed
  pub selector_beside : (s : Area) → selector_of areas ≡ Some s → sectors_of new s ≡ sectors_of old s
  selector_beside s is =
      same_beside (active_area areas old) s old new lawful lawful_new ((selector_lawful old.banks areas s map.lawful is).0.in_bank) ((apart_active serves areas old map s is old).1) banks outside

  pub active_beside : active_on areas new ≡ active_on areas old
  active_beside = active_still areas old new banks selector_beside

-- ---- the selector's place, as the table has it

filter_has : (p : ℕ → Bool) (xs : List ℕ) (k x : ℕ) → k < length xs → get_or xs k x ≡ x → p x ≡ true → Contains (filter p xs) x
filter_has p [] k x below at passes = absurd (omega arith)
filter_has p (y ∷ ys) zero x below at passes = subst (λ (b : Bool). Contains (cond b (y ∷ filter p ys) (filter p ys)) x) (sym (ap p at ∙ passes)) (0, omega arith, at)
filter_has p (y ∷ ys) (suc k) x below at passes =
    let rest = filter_has p ys k x (omega arith) at passes in
    elim (cases_Bool (p y)) [
      | inl has ↦ subst (λ (b : Bool). Contains (cond b (y ∷ filter p ys) (filter p ys)) x) (sym has) (suc rest.0, omega (arith, rest.1), rest.2)
      | inr has_none ↦ subst (λ (b : Bool). Contains (cond b (y ∷ filter p ys) (filter p ys)) x) (sym has_none) rest
    ]

image_of : (f : ℕ → Area) (places : List ℕ) (k x : ℕ) → k < length places → get_or places k x ≡ x → Contains (map f places) (f x)
image_of f [] k x below at = absurd (omega arith)
image_of f (y ∷ ys) zero x below at = (0, omega arith, ap f at)
image_of f (y ∷ ys) (suc k) x below at = let rest = image_of f ys k x (omega arith) at in (suc rest.0, omega (arith, rest.1), rest.2)

pub image : (f : ℕ → Area) (places : List ℕ) (x : ℕ) → Contains places x → Contains (map f places) (f x)
image f places x has = image_of f places has.0 x has.1 has.2

pub selector_listed : (areas : List Area) (s : Area) → selector_of areas ≡ Some s → (place : ℕ) × Contains (places_of is_selector areas) place × (area_at areas place ≡ s)
selector_listed areas s is =
    let at = selector-at areas s is in
    let there : area_at areas at.index ≡ s = area_there areas at.index s at.there in
    let within : at.index < length areas = slice_get_within areas at.index s at.there in
    let long = length-range_with_len 0 (length areas) in
    let read : get_or (range_with_len 0 (length areas)) at.index at.index ≡ at.index = get_or-range_with_len 0 (length areas) at.index at.index within ∙ omega arith in
    let role : is_selector (area_at areas at.index).role ≡ true = ap (λ (area : Area). is_selector area.role) there ∙ ap is_selector (none_role s.role at.none) in
    (at.index, filter_has (λ place. is_selector (area_at areas place).role) (range_with_len 0 (length areas)) at.index at.index (omega (arith, long, within)) read role, there)
