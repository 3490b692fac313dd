-- How the calls of a backend end.
use Rattle.std.specs.Prelude.{◌≡◌, ℕ, ◌<◌, Bool, true, false, List, Option, Some, None, Result, Ok, Err}
use Rattle.std.specs.FinMap.{insert, remove}
use Rattle.flash_sim.specs.Device.{Device}
use Rattle.flash_sim.specs.declared.flash.PowerLost.{PowerLost as Lost}
use Rattle.flash_map.specs.Area.{geometry_of}
use Rattle.flash_map.specs.On.{on}
use Rattle.flash_map.specs.declared.area.Area.{Area}
use Rattle.flash_map.specs.declared.area.Geometry.{Geometry}
use Rattle.flash_map.specs.declared.faults.Damaged.{Damaged}
use Rattle.flash_map.specs.declared.faults.MountFault.{MountFault}
use Rattle.flash_map.specs.declared.faults.MountFault.TheVariants.{Damaged as HasDamage, PowerLost as MountLost, NoMemory}
use Rattle.flash_map.specs.Spending.{Spends}
use Rattle.backend_api.specs.declared.backend.SetFault.{SetFault}
use Rattle.backend_api.specs.declared.backend.SetFault.TheVariants.{NoSpace, TooManyNames, PowerLost}
use Rattle.backend_api.specs.Map.{Map, IsStored, IsAbsent}
use Rattle.backend_api.specs.Room.{Room, HasNoRoom}

-- at least one unit or erase
abbrev pub SpendsSome : Device → Device → Type 0
SpendsSome old new = (units : ℕ) × (0 < units) × Spends old new units

-- ---- mounting

-- If the area shows damage, or memory runs out, nothing changed.
abbrev pub MountEnds : {T : Type 0} → Option Damaged → Device → Device → Result T MountFault → Type 0
MountEnds damage old new (Ok state) = damage ≡ None
MountEnds damage old new (Err (HasDamage damaged)) = (damage ≡ Some damaged) × (new ≡ old)
MountEnds damage old new (Err MountLost) = damage ≡ None
MountEnds damage old new (Err NoMemory) = new ≡ old

-- ---- setting

-- the call returned `PowerLost`
abbrev pub set_lost : {T : Type 0} → Result T SetFault → Bool
set_lost (Ok x) = false
set_lost (Err (NoSpace need live)) = false
set_lost (Err TooManyNames) = false
set_lost (Err PowerLost) = true

-- the name has the value, and all others stay; an equal value programs nothing
pub record Sets (room : Room) (old new : Device) (before after : Map) (name value : List ℕ) : Type 0 where
  pub free : room.too_many before name ≡ false
  pub settings : after ≡ insert before name value
  pub same : IsStored before name value → new ≡ old
  pub spends : ¬ IsStored before name value → SpendsSome old new

-- there is no room, and the settings stay
pub record FindsNoSpace (room : Room) (sectors : ℕ) (before after : Map) (name value : List ℕ) (need live : ℕ)
    : Type 0 where
  pub free : room.too_many before name ≡ false
  pub other : ¬ IsStored before name value
  pub full : HasNoRoom room sectors before name value
  pub needs : need ≡ room.need before name value
  pub lives : live ≡ room.cost before
  pub settings : after ≡ before

-- how a set on an area of so many sectors ends
abbrev pub SetEnds : {T : Type 0} → Room → ℕ → Device → Device → Map → Map → List ℕ → List ℕ
    → Result T SetFault → Type 0
SetEnds room sectors old new before after name value (Ok x) = Sets room old new before after name value
SetEnds room sectors old new before after name value (Err TooManyNames) =
    (room.too_many before name ≡ true) × (new ≡ old)
SetEnds room sectors old new before after name value (Err (NoSpace need live)) =
    FindsNoSpace room sectors before after name value need live
SetEnds room sectors old new before after name value (Err PowerLost) =
    (room.too_many before name ≡ false) × ¬ IsStored before name value

-- by the room and the settings of an area
abbrev pub SetEndsOn : {T : Type 0} → (Area → Geometry → Room) → (Area → Geometry → List (List ℕ) → Map)
    → Device → Device → Area → List ℕ → List ℕ → Result T SetFault → Type 0
SetEndsOn room contents old new area name value result =
    SetEnds (room area (geometry_of old area)) area.sectors old new (on contents old area)
    (on contents new area) name value result

-- ---- deleting

-- the name has no value, and all others stay; an absent name programs nothing
pub record Deletes (old new : Device) (before after : Map) (name : List ℕ) : Type 0 where
  pub settings : after ≡ remove before name
  pub absent : IsAbsent before name → new ≡ old
  pub spends : ¬ IsAbsent before name → SpendsSome old new

-- how a delete ends
abbrev pub DeleteEnds : {T : Type 0} → Device → Device → Map → Map → List ℕ → Result T Lost → Type 0
DeleteEnds old new before after name (Ok x) = Deletes old new before after name
DeleteEnds old new before after name (Err lost) = ¬ IsAbsent before name

-- by the settings of an area
abbrev pub DeleteEndsOn : {T : Type 0} → (Area → Geometry → List (List ℕ) → Map) → Device → Device → Area
    → List ℕ → Result T Lost → Type 0
DeleteEndsOn contents old new area name result =
    DeleteEnds old new (on contents old area) (on contents new area) name result
