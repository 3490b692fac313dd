-- The active area of a map that is served.
use Rattle.std.proofs.Common.{◌≡◌, ℕ, true, false, Some, None, Option, List, [], ◌∷◌, cond, Bool, refl, sym, ap, subst, ◌∙◌}
use Rattle.std.specs.List.{slice_get}
use Rattle.std.specs.Prelude.{◌==◌}
use Rattle.std.specs.Option.{option_map_or}
use Rattle.std.proofs.lemmas.Bool.{false≢true}
use Rattle.std.proofs.lemmas.Option.{get_or_from_slice_get}
use Rattle.flash_sim.specs.Bank.{IsLawful}
use Rattle.flash_sim.specs.Device.{Device}
use Rattle.flash_map.specs.declared.area.Area.{Area}
use Rattle.flash_map.specs.declared.area.Geometry.{Geometry}
use Rattle.flash_map.specs.Area.{geometry_of, value_limit}
use Rattle.flash_map.specs.declared.area.TheConstants.{VALUE_LIMIT, LONG_VALUE_LIMIT}
use Rattle.flash_map.specs.Lawful.{IsLawfulFor}
use Rattle.flash_map.specs.Touches.{Touches}
use Rattle.flash_map.proofs.Apart.{same_apart}
use Rattle.migrator.specs.Active.{active_on, active_with}
use Rattle.migrator.specs.Areas.{is_store, is_store_at, first_store, selector_of}
use Rattle.migrator.proofs.Migration.{selector-at, selector-apart, active-store, store-of}
use Rattle.migrator.proofs.Moving.{active-still}
use Rattle.session_table.specs.Bench.{area_at}
use Rattle.session.specs.OnMap.{IsServedMap, active_area, limit_of}

-- an area at a place of the map, which stores settings
pub record IsStoreAt (areas : List Area) (place : ℕ) : Type 0 where
  pub there : slice_get areas place ≡ Some (area_at areas place)
  pub stores : is_store (area_at areas place) ≡ true

pub store-there : (areas : List Area) (place : ℕ) → is_store_at areas place ≡ true → IsStoreAt areas place
store-there areas place is = at (slice_get areas place) refl
  where
    at : (o : Option Area) → slice_get areas place ≡ o → IsStoreAt areas place
    at (Some area) e =
        let same : area_at areas place ≡ area = get_or_from_slice_get areas place area _ e in
        record { there = e ∙ ap (λ (a : Area). Some a) (sym same); stores = subst (λ (a : Area). is_store a ≡ true) (sym same) (store-of areas place area e is) }
    at None e = absurd (false≢true (sym (ap (λ (o : Option Area). option_map_or is_store o false) e) ∙ is))

module _ (serves : Area → Geometry → Type 0) (areas : List Area) (d : Device) (map : IsServedMap serves areas d) where
  active-stores : (selector : Option Area) → is_store_at areas (active_with areas d selector) ≡ true
  active-stores None = map.some
  active-stores (Some selector) = active-store areas d selector (first_store areas) map.some

  pub active-there : IsStoreAt areas (active_on areas d)
  active-there = store-there areas (active_on areas d) (active-stores (selector_of areas))

  pub active-lawful : IsLawfulFor d.banks (active_area areas d)
  active-lawful = map.lawful.each (active_on areas d) (active_area areas d) active-there.there

  pub active-served : serves (active_area areas d) (geometry_of d (active_area areas d))
  active-served = map.served (active_on areas d) (active_area areas d) active-there.there active-there.stores

  pub active-limit : value_limit (active_area areas d) ≡ limit_of areas
  active-limit =
      let first = store-there areas (first_store areas) map.some in
      ap (λ (version : ℕ). cond (version == 2) LONG_VALUE_LIMIT VALUE_LIMIT)
      (map.lawful.versions (active_on areas d) (first_store areas) (active_area areas d) (area_at areas (first_store areas)) active-there.there first.there)

  -- it stays active where it alone changed
  pub active-stays : (new : Device) (cut : Bool) → IsLawful d.banks d.bytes → IsLawful new.banks new.bytes → Touches (active_area areas d ∷ []) d new cut → active_on areas new ≡ active_on areas d
  active-stays new cut lawful lawful_new touches = at (selector_of areas) refl
    where
      at : (o : Option Area) → selector_of areas ≡ o → active_with areas new o ≡ active_with areas d o
      at None e = refl
      at (Some selector) e =
          let s = selector-at areas selector e in
          let apart = selector-apart d.banks areas selector (active_area areas d) (active_on areas d) map.lawful e active-there.there (active-stores (selector_of areas)) in
          active-still areas d new selector touches.banks (same_apart lawful lawful_new (map.lawful.each s.index selector s.there).in_bank apart.1 touches)
