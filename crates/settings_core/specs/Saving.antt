-- What a save stores.
use Rattle.std.specs.Prelude.{◌≡◌, ℕ, ◌+◌, ◌-◌, ◌^◌, min, Bool, true, false, List, [], ◌∷◌, map, flat_map, All, Option, None, Result, if◌then◌else◌}
use Rattle.std.specs.FinMap.{entries}
use Rattle.flash_sim.specs.Device.{Device}
use Rattle.flash_sim.specs.declared.flash.Loss.{Loss}
use Rattle.flash_map.specs.declared.area.Area.{Area}
use Rattle.flash_map.specs.declared.area.Geometry.{Geometry}
use Rattle.flash_map.specs.declared.faults.Damaged.{Damaged}
use Rattle.flash_map.specs.Area.{geometry_of}
use Rattle.flash_map.specs.Spending.{SpendsAtMost}
use Rattle.flash_map.specs.Touches.{Touches}
use Rattle.setting_name.specs.Name.{IsName}
use Rattle.setting_name.specs.Match.{joined_text}
use Rattle.backend_api.specs.Commands.{Command}
use Rattle.backend_api.specs.Map.{Map, IsValue}
use Rattle.flash_map.specs.On.{on, StandsOn}
use Rattle.backend_api.specs.Room.{Room}
use Rattle.handlers.specs.Held.{Held}
use Rattle.handlers.specs.Registry.{Registered}
use Rattle.settings_core.specs.declared.writing.SaveFault.{SaveFault}
use Rattle.settings_core.specs.Carrying.{CarryEndsOn, due_units, save_lost}
use Rattle.settings_core.specs.Committing.{is_under}

-- a handler's pairs, each by its full name, in byte order of the rests
abbrev pub pairs_of : List ℕ → Held → List (List ℕ × List ℕ)
pairs_of subtree held = map (λ pair. (joined_text subtree pair.0, pair.1)) (entries held)

-- the pairs of each handler whose own subtree matches, in the order of registration
abbrev pub exported_of : Option (List ℕ) → Registered → List (List ℕ × List ℕ)
exported_of subtree h = if is_under subtree h.subtree then pairs_of h.subtree h.state.held else []

abbrev pub exported : Option (List ℕ) → List Registered → List (List ℕ × List ℕ)
exported subtree handlers = flat_map (exported_of subtree) handlers

-- lawful names and values
abbrev pub AreSettings : ℕ → List (List ℕ × List ℕ) → Type 0
AreSettings limit pairs = All (λ pair. IsName pair.0 × IsValue limit pair.1) pairs

-- what each handler holds may be stored under its subtree
abbrev pub AreLawful : ℕ → List Registered → Type 0
AreLawful limit handlers = All (λ h. AreSettings limit (pairs_of h.subtree h.state.held)) handlers

-- a count of pairs with `more` added; it stays at 2^32 - 1
abbrev pub more_pairs : ℕ → ℕ → ℕ
more_pairs n more = n + min more (2 ^ 32 - 1 - n)

-- ---- a part of a save

-- Commands were carried out on an area by a backend that was up. The count of pairs was `was`
-- before, and is `now` after.
pub record CarriesOn {S T : Type 0} (mounted_on : S → Area) (stands : S → Geometry → List (List ℕ) → Type 0)
    (runs : S → Bool) (damage : Area → Geometry → List (List ℕ) → Option Damaged)
    (room : Area → Geometry → Room) (contents : Area → Geometry → List (List ℕ) → Map)
    (chance : Area → Geometry → List (List ℕ) → Loss → Bool)
    (tears : Area → Geometry → Command → ℕ → Map → Map → Type 0)
    (area : Area) (state : S) (old new : Device) (commands : List Command) (was now : ℕ)
    (result : Result T SaveFault) : Type 0 where
  pub area_is : mounted_on state ≡ area
  pub touches : Touches (area ∷ []) old new (save_lost result)
  pub count : ℕ
  pub counts : now ≡ more_pairs was count
  pub ends : CarryEndsOn room contents chance tears true area old new commands count result
  pub at_most : SpendsAtMost old new (due_units (geometry_of old area) (on contents old area) commands)
  pub off : old.is_on ≡ false → now ≡ was
  pub sound : on damage new area ≡ None
  pub goes_on : save_lost result ≡ false → StandsOn mounted_on stands new state
  pub down : save_lost result ≡ true → runs state ≡ false
