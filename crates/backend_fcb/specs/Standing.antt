-- When a backend stands on the bytes of its area.
use Rattle.std.specs.Prelude.{◌≡◌, ℕ, List, Option, None}
use Rattle.flash_sim.specs.Device.{Device}
use Rattle.flash_map.specs.Area.{value_limit, unit_of, sectors_of}
use Rattle.flash_map.specs.declared.area.Area.{Area}
use Rattle.flash_map.specs.declared.area.Role.TheVariants.{Fcb as FcbRole}
use Rattle.flash_map.specs.declared.faults.Damaged.{Damaged}
use Rattle.fcb_ring.specs.declared.ring.Ring.{Ring}
use Rattle.fcb_ring.specs.declared.ring.Stage.TheVariants.{Ready}
use Rattle.fcb_ring.specs.Entries.{bodies}
use Rattle.fcb_ring.specs.Standing.{Stands as RingStands, StandsOn as RingStandsOn, entries_on}
use Rattle.backend_api.specs.Map.{Map}
use Rattle.backend_fcb.specs.declared.backend.FcbBackend.{FcbBackend}
use Rattle.record_settings.specs.Room.{reserve}
use Rattle.backend_fcb.specs.Reading.{damage_of, settings_in}

-- The ring is ready for the next record, keeps the reserve, and the area shows no damage.
pub record Stands (backend : FcbBackend) (unit : ℕ) (sectors : List (List ℕ)) : Type 0 where
  pub role : backend.ring.area.role ≡ FcbRole
  pub ring : RingStands unit sectors backend.ring
  pub ready : backend.ring.stage ≡ Ready
  pub reserve : backend.ring.reserve ≡ reserve unit
  pub undamaged : damage_of (value_limit backend.ring.area) unit sectors ≡ None

abbrev pub damage_on : Device → Area → Option Damaged
damage_on d area = damage_of (value_limit area) (unit_of d area) (sectors_of d area)

abbrev pub settings_on : Device → Area → Map
settings_on d area = settings_in (value_limit area) (unit_of d area) (sectors_of d area)

abbrev pub bodies_on : Device → Area → List (List ℕ)
bodies_on d area = bodies (entries_on d area)

-- the ring of a backend that stands on this device
pub record IsReady (d : Device) (ring : Ring) : Type 0 where
  pub stands : RingStandsOn d ring
  pub ready : ring.stage ≡ Ready
  pub reserve : ring.reserve ≡ reserve (unit_of d ring.area)
  pub undamaged : damage_on d ring.area ≡ None
