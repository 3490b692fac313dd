-- How the calls of a store of items end, on the maps of items before and after.
use Rattle.std.specs.Prelude.{◌≡◌, ◌⊎◌, ℕ, ◌+◌, ◌-◌, ◌*◌, ◌/◌, ◌<◌, ◌≤◌, Bool, true, List, length, Option, Some, None, Result, Ok, Err, OnOk, if◌then◌else◌}
use Rattle.std.specs.FinMap.{get, insert, remove}
use Rattle.flash_sim.specs.Device.{Device}
use Rattle.flash_sim.specs.declared.flash.PowerLost.{PowerLost as Lost}
use Rattle.flash_map.specs.declared.area.Area.{Area}
use Rattle.flash_map.specs.declared.area.Geometry.{Geometry}
use Rattle.flash_map.specs.declared.faults.MountFault.{MountFault}
use Rattle.flash_map.specs.declared.faults.WriteFault.{WriteFault}
use Rattle.flash_map.specs.declared.faults.WriteFault.TheVariants.{NoSpace, TooLong, PowerLost}
use Rattle.flash_map.specs.Area.{geometry_of}
use Rattle.flash_map.specs.On.{on}
use Rattle.flash_map.specs.Spending.{SpendsAtMost}
use Rattle.backend_api.specs.Room.{removal_units}
use Rattle.item_laws.specs.Costs.{items_cost}
use Rattle.item_laws.specs.Items.{Items}
use Rattle.item_laws.specs.NextIds.{IsBehind}

-- the most units and erases of one write or delete
abbrev pub item_units : Geometry → ℕ
item_units geometry = 3 * geometry.sectors * (geometry.sector / geometry.unit + 3)

-- how many items an area has at most: each has an entry of its own, of 8 bytes or more
abbrev pub most_items : Geometry → ℕ
most_items geometry = geometry.sectors * (geometry.sector / 8)

-- ---- mounting

-- What a mount of the store spends: at most so much by the geometry alone, and at most a redo. It
-- spends no more than the end of a garbage collection, or leaves room for a delete.
pub record SpendsMounting {T : Type 0} (limit redo clear : ℕ) (roomy : Bool) (old new : Device)
    (result : Result T MountFault) : Type 0 where
  pub at_most : SpendsAtMost old new limit
  pub redoes : SpendsAtMost old new redo
  pub ends : OnOk result (SpendsAtMost old new clear ⊎ (roomy ≡ true))

-- the least id above `after` that has an item
abbrev pub IsNextId : Items → Option ℕ → Option ℕ → Type 0
IsNextId items after None = (id : ℕ) → IsBehind after id → get items id ≡ None
IsNextId items after (Some next) =
    IsBehind after next × (get items next ≡ None → ⊥)
    × ((id : ℕ) → IsBehind after id → id < next → get items id ≡ None)

-- ---- writing

-- the item has these bytes already
abbrev pub Holds : Items → ℕ → List ℕ → Type 0
Holds items id bytes = get items id ≡ Some bytes

-- the item has these bytes, and all others stay; equal bytes program nothing
pub record Writes (price : ℕ → ℕ) (cap : ℕ) (old new : Device) (before after : Items) (id : ℕ)
    (bytes : List ℕ) : Type 0 where
  pub short : price (length bytes) ≤ cap
  pub items : after ≡ insert before id bytes
  pub equal : Holds before id bytes → new ≡ old

-- There is no room: the items cost too much. They stay.
pub record FindsNoSpace (price : ℕ → ℕ) (cap sectors : ℕ) (before after : Items) (id : ℕ) (bytes : List ℕ)
    (need live : ℕ) : Type 0 where
  pub short : price (length bytes) ≤ cap
  pub needs : need ≡ price (length bytes)
  pub lives : live ≡ items_cost price before
  pub full : (sectors - 1) * (cap - price (length bytes)) < items_cost price before
  pub other : ¬ Holds before id bytes
  pub items : after ≡ before

-- power was lost: the items are the old ones, or have the new bytes
pub record StopsWriting (price : ℕ → ℕ) (cap : ℕ) (before after : Items) (id : ℕ) (bytes : List ℕ) :
    Type 0 where
  pub short : price (length bytes) ≤ cap
  pub other : ¬ Holds before id bytes
  pub items : (after ≡ before) ⊎ (after ≡ insert before id bytes)

-- how a write on an area of so many sectors ends; `TooLong` exactly if the bytes and their entry
-- cost more than a sector has
abbrev pub WriteEnds : {T : Type 0} → (ℕ → ℕ) → ℕ → ℕ → Device → Device → Items → Items → ℕ → List ℕ
    → Result T WriteFault → Type 0
WriteEnds price cap sectors old new before after id bytes (Ok _) =
    Writes price cap old new before after id bytes
WriteEnds price cap sectors old new before after id bytes (Err (NoSpace need live)) =
    FindsNoSpace price cap sectors before after id bytes need live
WriteEnds price cap sectors old new before after id bytes (Err TooLong) =
    (cap < price (length bytes)) × (new ≡ old)
WriteEnds price cap sectors old new before after id bytes (Err PowerLost) =
    StopsWriting price cap before after id bytes

-- ---- deleting

-- the id has no item, and all others stay; where it has none, nothing is programmed
pub record Deletes (old new : Device) (before after : Items) (id : ℕ) : Type 0 where
  pub items : after ≡ remove before id
  pub absent : get before id ≡ None → new ≡ old

-- power was lost: the items are the old ones, or those without the id
pub record StopsDeleting (before after : Items) (id : ℕ) : Type 0 where
  pub present : ¬ (get before id ≡ None)
  pub items : (after ≡ before) ⊎ (after ≡ remove before id)

abbrev pub DeleteEnds : {T : Type 0} → Device → Device → Items → Items → ℕ → Result T Lost → Type 0
DeleteEnds old new before after id (Ok _) = Deletes old new before after id
DeleteEnds old new before after id (Err _) = StopsDeleting before after id

-- What deletes spend at most: any one, and one that needs no garbage collection; and whether the next
-- one needs none.
pub record DeleteUnits : Type 0 where
  pub any : ℕ
  pub entry : ℕ
  pub roomy : Bool

abbrev pub next_delete : DeleteUnits → ℕ
next_delete units = if units.roomy then units.entry else units.any

-- those of an area, by the numbers of a store
abbrev pub delete_units : (Geometry → ℕ) → (Geometry → ℕ) → (Area → Geometry → List (List ℕ) → Bool) → Device
    → Area → DeleteUnits
delete_units removal entry roomy d area =
    record { any = removal (geometry_of d area); entry = entry (geometry_of d area); roomy = on roomy d area }

-- What one delete spends: at most so much by the geometry alone, and at most what the store says.
pub record SpendsDeleting (units : DeleteUnits) (geometry : Geometry) (old new : Device) : Type 0 where
  pub at_most : SpendsAtMost old new (item_units geometry)
  pub removal : SpendsAtMost old new (removal_units geometry)
  pub one : SpendsAtMost old new units.any
  pub next : SpendsAtMost old new (next_delete units)
