-- When a store stands on its area, and how mounting ends.
use Rattle.std.specs.Prelude.{◌≡◌, ℕ, true, false, List, Some, None, Result, Ok, Err}
use Rattle.flash_sim.specs.Device.{Device}
use Rattle.flash_map.specs.declared.area.Area.{Area}
use Rattle.flash_map.specs.declared.area.Geometry.{Geometry}
use Rattle.flash_map.specs.declared.area.Role.{Role}
use Rattle.flash_map.specs.declared.faults.MountFault.{MountFault}
use Rattle.flash_map.specs.declared.faults.MountFault.TheVariants.{Damaged as HasDamage, PowerLost as MountLost, NoMemory}
use Rattle.flash_map.specs.Area.{geometry_of, sectors_of, sector_at}
use Rattle.item_laws.specs.Area.{next, is_closed_at, open_sector}
use Rattle.item_laws.specs.Forms.{AtRest, Collecting}
use Rattle.item_store.specs.declared.store.Store.{Store}
use Rattle.item_store.specs.declared.entry.Redo.TheVariants.{CollectAgain}
use Rattle.item_store.specs.Cached.{IsCacheOn}
use Rattle.item_store.specs.SectorFormat.{SectorFormat}
use Rattle.item_store.specs.Room.{has_room}
use Rattle.item_store.specs.Collecting.{CollectsAt, EmptiesVictim, redo_of, redo_list, redo_units, KeepsOrRedoes, MarksFirst}
use Rattle.item_store.specs.Standing.{IsStoreArea, list_at, KeepsItems, SpendsIn, SpendsUpTo}

-- The store is up: the area is not damaged and at rest, and the store knows its open sector and
-- where the latest entries stand.
pub record StandsOn {T : Type 0} (role : Role) (format_of : Geometry → SectorFormat)
    (kept : Geometry → List ℕ → T)
    (d : Device) (store : Store T) : Type 0 where
  pub area : IsStoreArea role d.banks store.area
  pub up : store.up ≡ true
  pub current : store.current
      ≡ open_sector (format_of (geometry_of d store.area)).reading (sectors_of d store.area)
  pub opened : store.opened
      ≡ kept (geometry_of d store.area) (sector_at (sectors_of d store.area) store.current)
  pub rested : is_closed_at (format_of (geometry_of d store.area)).reading (sectors_of d store.area)
      (next (sectors_of d store.area) store.current) ≡ false
  pub undamaged : (format_of (geometry_of d store.area)).damage (sectors_of d store.area) ≡ None
  pub cached : IsCacheOn format_of d store.area store.cache

-- The same on this area with this sector open, without the cache.
pub record StandsAt {T : Type 0} (role : Role) (format_of : Geometry → SectorFormat)
    (kept : Geometry → List ℕ → T)
    (d : Device) (on : Area) (place : ℕ) (known : T) : Type 0 where
  pub area : IsStoreArea role d.banks on
  pub current : place ≡ open_sector (format_of (geometry_of d on)).reading (sectors_of d on)
  pub opened : known ≡ kept (geometry_of d on) (sector_at (sectors_of d on) place)
  pub rested : is_closed_at (format_of (geometry_of d on)).reading (sectors_of d on)
      (next (sectors_of d on) place)
      ≡ false
  pub undamaged : (format_of (geometry_of d on)).damage (sectors_of d on) ≡ None

-- If the area is damaged, or memory runs out, nothing changed. Otherwise the items stay, whether
-- power is lost or not. A mount spends what there is to redo: at rest nothing. The list is the one
-- that the redo leaves; after a power loss, that one or the one before. A collection that was begun
-- again leaves room for a delete. If the area was not at rest, the sector behind the open one is
-- emptied. A collection that was begun again ends as one that was not cut: of the open sector's room
-- only what its copies cost is gone.
abbrev pub MountEnds : {T : Type 0} → Role → (Geometry → SectorFormat) → (Geometry → List ℕ → T) → Device
    → Device
    → Area → Result (Store T) MountFault → Type 0
MountEnds role format_of kept old new area (Ok store) =
    let k = format_of (geometry_of old area) in
    let place = open_sector k.reading (sectors_of old area) in
    (k.damage (sectors_of old area) ≡ None)
    × StandsOn role format_of kept new store
    × (store.area ≡ area)
    × KeepsItems k (sectors_of old area) (sectors_of new area)
    × SpendsIn old new (redo_units k (sectors_of old area) place (redo_of k (sectors_of old area) place))
    × (AtRest k.reading (sectors_of old area) place → new ≡ old)
    × (list_at k new area ≡ redo_list k (sectors_of old area) place (redo_of k (sectors_of old area) place))
    × (redo_of k (sectors_of old area) place ≡ CollectAgain → has_room k (sectors_of new area) 0 ≡ true)
    × (¬ AtRest k.reading (sectors_of old area) place
    → EmptiesVictim k (sectors_of old area) (sectors_of new area) place)
    × (Collecting k.reading (sectors_of old area) place
    → CollectsAt k (sectors_of old area) (sectors_of new area) place)
MountEnds role format_of kept old new area (Err (HasDamage damaged)) =
    ((format_of (geometry_of old area)).damage (sectors_of old area) ≡ Some damaged) × (new ≡ old)
MountEnds role format_of kept old new area (Err MountLost) =
    let k = format_of (geometry_of old area) in
    let place = open_sector k.reading (sectors_of old area) in
    (k.damage (sectors_of old area) ≡ None)
    × KeepsItems k (sectors_of old area) (sectors_of new area)
    × SpendsUpTo old new (redo_units k (sectors_of old area) place (redo_of k (sectors_of old area) place))
    × ¬ AtRest k.reading (sectors_of old area) place
    × KeepsOrRedoes k (sectors_of old area) (sectors_of new area) place
MountEnds role format_of kept old new area (Err NoMemory) = new ≡ old

-- Where a mount, cut or not, took a byte of the sector behind the open one, gc-done stands in the
-- open one.
abbrev pub MountMarksFirst : SectorFormat → Device → Device → Area → Type 0
MountMarksFirst k old new area =
    MarksFirst k (sectors_of old area) (sectors_of new area) (open_sector k.reading (sectors_of old area))
