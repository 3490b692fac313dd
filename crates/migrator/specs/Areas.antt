-- The areas of a map: those that store settings, and the selector's, which names the active one.
use Rattle.std.specs.Prelude.{◌≡◌, ◌≢◌, ℕ, ◌+◌, ◌-◌, ◌≤◌, Bool, true, false, not, List, length, Option, Some, find, unwrap_or}
use Rattle.std.specs.List.{slice_get, range_with_len}
use Rattle.std.specs.Option.{option_map_or, option_or}
use Rattle.flash_sim.specs.declared.flash.Bank.{Bank}
use Rattle.flash_map.specs.declared.area.Area.{Area}
use Rattle.flash_map.specs.declared.area.Role.{Role}
use Rattle.flash_map.specs.declared.area.Role.TheVariants.{Nvs, Zms, Fcb, Sel}
use Rattle.flash_map.specs.Area.{AreApart}
use Rattle.flash_map.specs.Lawful.{IsLawfulFor}

-- areas of this role store settings
abbrev pub stores : Role → Bool
stores Nvs = true
stores Zms = true
stores Fcb = true
stores Sel = false

abbrev pub is_store : Area → Bool
is_store area = stores area.role

abbrev pub is_store_at : List Area → ℕ → Bool
is_store_at areas i = option_map_or is_store (slice_get areas i) false

-- the selector's area: the first that stores no settings
abbrev pub selector_of : List Area → Option Area
selector_of areas = find (λ area. not (is_store area)) areas

-- the first store area of the `count` areas from index `from`
abbrev pub store_from : List Area → ℕ → ℕ → Option ℕ
store_from areas from count = find (is_store_at areas) (range_with_len from count)

-- the first store area; 0 if there is none
abbrev pub first_store : List Area → ℕ
first_store areas = unwrap_or (store_from areas 0 (length areas)) 0

-- the next store area after this one in the order of the map, round its end
abbrev pub target : List Area → ℕ → Option ℕ
target areas active =
    option_or (store_from areas (active + 1) (length areas - (active + 1))) (store_from areas 0 active)

-- Each area may hold a store of its role, no two share a sector, and all have one version.
pub record IsLawfulMap (banks : List Bank) (areas : List Area) : Type 0 where
  pub few : length areas ≤ 8
  pub each : (i : ℕ) (area : Area) → slice_get areas i ≡ Some area → IsLawfulFor banks area
  pub apart : (i j : ℕ) (area other : Area) → slice_get areas i ≡ Some area → slice_get areas j ≡ Some other
      → i ≢ j → AreApart area other
  pub versions : (i j : ℕ) (area other : Area) → slice_get areas i ≡ Some area
      → slice_get areas j ≡ Some other
      → area.version ≡ other.version
