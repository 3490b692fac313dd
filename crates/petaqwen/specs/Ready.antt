-- What holds of a board, and of settings on it, between two calls.
use Rattle.std.specs.Prelude.{◌≡◌, ℕ, List, slice_get, Some, true}
use Rattle.flash_sim.specs.Device.{Device}
use Rattle.flash_sim.specs.declared.flash.Bank.{Bank}
use Rattle.flash_map.specs.Area.{value_limit}
use Rattle.flash_map.specs.Lawful.{IsLawfulFor}
use Rattle.flash_map.specs.On.{StandsOn}
use Rattle.flash_map.specs.declared.area.Area.{Area}
use Rattle.any_backend.specs.Standing.{area_of, Stands, is_up}
use Rattle.any_backend.specs.declared.backend.AnyBackend.{AnyBackend}
use Rattle.handlers.specs.Registry.{Registered}
use Rattle.settings_core.specs.Saving.{AreLawful}

-- a store of its role may work on each of the partitions
abbrev pub AreServed : List Bank → List Area → Type 0
AreServed banks areas = (i : ℕ) (area : Area) → slice_get areas i ≡ Some area → IsLawfulFor banks area

-- The settings stand on their partition, unless power was lost, and what the handlers hold may be stored.
pub record IsReady (d : Device) (areas : List Area) (backend : AnyBackend) (handlers : List Registered) :
    Type 0 where
  pub sound : AreServed d.banks areas
  pub lawful : IsLawfulFor d.banks (area_of backend)
  pub stands : is_up backend ≡ true → StandsOn area_of Stands d backend
  pub holds : AreLawful (value_limit (area_of backend)) handlers
