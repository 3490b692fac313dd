-- Which of two store areas is trusted, and the map that an image then reads as.
use Rattle.std.specs.Prelude.{◌≡◌, ◌≢◌, ◌⊎◌, ℕ, ◌&&◌, Bool, true, false, not, List, length, find, Option, Some, None, unwrap_or, if◌then◌else◌}
use Rattle.std.specs.List.{slice_get, range_with_len}
use Rattle.std.specs.Option.{option_and_then, option_map, option_map_or, option_or}
use Rattle.flash_sim.specs.Device.{Device}
use Rattle.flash_map.specs.declared.area.Area.{Area}
use Rattle.flash_map.specs.declared.area.Geometry.{Geometry}
use Rattle.flash_map.specs.declared.faults.Damaged.{Damaged}
use Rattle.flash_map.specs.Area.{geometry_of}
use Rattle.flash_map.specs.On.{on}
use Rattle.backend_api.specs.Map.{Map}
pub use Rattle.backend_api.specs.Written.{is_blank_on}
use Rattle.migrator.specs.Active.{active_on, selector_damage_on}
use Rattle.migrator.specs.Areas.{IsLawfulMap, is_store, is_store_at, selector_of, target}
use Rattle.mirror.specs.Room.{IsMirrored}

abbrev pub is_blank_at : List Area → Device → ℕ → Bool
is_blank_at areas d place = option_map_or (is_blank_on d) (slice_get areas place) false

-- the other area, if this one is all FF and the other is not; else this one
abbrev pub trusted_with : List Area → Device → ℕ → Option ℕ → ℕ
trusted_with areas d active None = active
trusted_with areas d active (Some other) =
    if is_blank_at areas d active && not (is_blank_at areas d other) then other else active

-- The trusted area of a map: the active one, or the other one if the active one is all FF and
-- the other is not.
abbrev pub trusted_on : List Area → Device → ℕ
trusted_on areas d = trusted_with areas d (active_on areas d) (target areas (active_on areas d))

-- the place of the selector: the first area that stores no settings
abbrev pub selector_found : List Area → Option ℕ
selector_found areas = find (λ place. not (is_store_at areas place)) (range_with_len 0 (length areas))

abbrev pub selector_place : List Area → ℕ
selector_place areas = unwrap_or (selector_found areas) 0

-- ---- the map

-- The map has a selector and exactly two store areas. Both have a role that can be mirrored, and
-- the backend serves them.
pub record IsMirrorMap (serves : Area → Geometry → Type 0) (areas : List Area) (d : Device) : Type 0 where
  pub lawful : IsLawfulMap d.banks areas
  pub served : (place : ℕ) (area : Area) → slice_get areas place ≡ Some area → is_store area ≡ true
      → serves area (geometry_of d area)
  pub roles : (place : ℕ) (area : Area) → slice_get areas place ≡ Some area → is_store area ≡ true
      → IsMirrored area
  pub selector : Area
  pub selected : selector_of areas ≡ Some selector
  pub one : ℕ
  pub two : ℕ
  pub apart : one ≢ two
  pub one_stores : is_store_at areas one ≡ true
  pub two_stores : is_store_at areas two ≡ true
  pub only : (place : ℕ) → is_store_at areas place ≡ true → (place ≡ one) ⊎ (place ≡ two)

module _ (damage : Area → Geometry → List (List ℕ) → Option Damaged) where
  -- the damage that the trusted area shows
  abbrev pub trusted_damage : List Area → Device → Option Damaged
  trusted_damage areas d = option_and_then (on damage d) (slice_get areas (trusted_on areas d))

  -- the damage that the map shows, with its place: the selector's, or else the trusted area's
  abbrev pub damage_shown : List Area → Device → Option (ℕ × Damaged)
  damage_shown areas d =
      option_or (option_map (λ shown. (selector_place areas, shown)) (selector_damage_on areas d))
      (option_map (λ shown. (trusted_on areas d, shown)) (trusted_damage areas d))

  -- The image reads as the map of its trusted area. Neither that area nor the selector is damaged.
  pub record MirrorReads (contents : Area → Geometry → List (List ℕ) → Map) (areas : List Area) (d : Device)
      (settings : Map) : Type 0 where
    pub sound : selector_damage_on areas d ≡ None
    pub area : Area
    pub there : slice_get areas (trusted_on areas d) ≡ Some area
    pub undamaged : on damage d area ≡ None
    pub reads : on contents d area ≡ settings

  -- Both areas read as this map, as they do at rest.
  pub record BothRead (contents : Area → Geometry → List (List ℕ) → Map) (areas : List Area) (d : Device)
      (settings : Map) : Type 0 where
    pub sound : selector_damage_on areas d ≡ None
    pub undamaged : (place : ℕ) (area : Area) → slice_get areas place ≡ Some area → is_store area ≡ true
        → on damage d area ≡ None
    pub reads : (place : ℕ) (area : Area) → slice_get areas place ≡ Some area → is_store area ≡ true
        → on contents d area ≡ settings
