-- What holds between two lines.
use Rattle.std.specs.Prelude.{◌≡◌, ℕ, true, false, List, Option, Some, None}
use Rattle.flash_sim.specs.Device.{Device}
use Rattle.flash_map.specs.declared.area.Area.{Area}
use Rattle.flash_map.specs.declared.area.Geometry.{Geometry}
use Rattle.flash_map.specs.declared.area.Role.{Role}
use Rattle.flash_map.specs.declared.faults.Damaged.{Damaged}
use Rattle.flash_map.specs.Area.{sectors_of}
use Rattle.item_store.specs.declared.store.Store.{Store}
use Rattle.item_store.specs.SectorFormat.{SectorFormat}
use Rattle.item_store.specs.Listed.{format_on}
use Rattle.item_store.specs.Standing.{IsStoreArea}
use Rattle.item_store.specs.Stands.{StandsOn}
use Rattle.item_session.specs.declared.session.ItemSession.{ItemSession}
use Rattle.item_session.specs.Device.{TakesValues, turned_on}

-- the damage that the area's bytes show
abbrev pub damage_on : (Geometry → SectorFormat) → Device → Area → Option Damaged
damage_on format_of d area = (format_on format_of d area).damage (sectors_of d area)

-- a store may stand on the area, its bytes show no damage, and each value within its
-- limit fits a sector
pub record IsSound (role : Role) (format_of : Geometry → SectorFormat) (d : Device) (area : Area)
    : Type 0 where
  pub is_area : IsStoreArea role d.banks area
  pub undamaged : damage_on format_of d area ≡ None
  pub values : TakesValues format_of d area

-- while power is on, a store stands on the area
abbrev pub IsMounted : {T : Type 0} → Role → (Geometry → SectorFormat) → (Geometry → List ℕ → T) → Device
    → Area
    → Option (Store T) → Type 0
IsMounted role format_of kept d area None = d.is_on ≡ false
IsMounted role format_of kept d area (Some store) =
    (store.area ≡ area) × (d.is_on ≡ true → StandsOn role format_of kept d store)

-- the session is ready for the next line
pub record IsReady {T : Type 0} (role : Role) (format_of : Geometry → SectorFormat)
    (kept : Geometry → List ℕ → T)
    (d : Device) (session : ItemSession T)
    : Type 0 where
  pub sound : IsSound role format_of d session.area
  pub mounted : IsMounted role format_of kept d session.area session.store

-- the area's bytes show the damage, and nothing changed, except that power is on
abbrev pub ShowsDamage : (Geometry → SectorFormat) → Area → Device → Device → Damaged → Type 0
ShowsDamage format_of area old new damaged = (damage_on format_of old area ≡ Some damaged)
    × (new ≡ turned_on old)
