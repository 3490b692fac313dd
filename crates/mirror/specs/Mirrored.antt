-- Two stores that hold one map, and how calls on them end.
use Rattle.std.specs.Prelude.{◌≡◌, ◌≢◌, ◌⊎◌, ℕ, ◌<◌, Bool, true, false, List, Option, Some, None, Result, Ok, Err, nat_lt, if◌then◌else◌}
use Rattle.std.specs.FinMap.{insert, remove}
use Rattle.flash_sim.specs.Device.{Device}
use Rattle.flash_sim.specs.declared.flash.PowerLost.{PowerLost as Lost}
use Rattle.flash_map.specs.declared.area.Area.{Area}
use Rattle.flash_map.specs.declared.area.Geometry.{Geometry}
use Rattle.flash_map.specs.declared.faults.Damaged.{Damaged}
use Rattle.flash_map.specs.Area.{AreApart}
use Rattle.flash_map.specs.Lawful.{IsLawfulFor}
use Rattle.flash_map.specs.On.{on, StandsOn}
use Rattle.backend_api.specs.Ends.{SpendsSome}
use Rattle.backend_api.specs.Map.{Map, IsStored, IsAbsent}
use Rattle.backend_api.specs.Room.{Room}
use Rattle.backend_api.specs.declared.backend.SetFault.{SetFault}
use Rattle.backend_api.specs.declared.backend.SetFault.TheVariants.{NoSpace, TooManyNames, PowerLost}
use Rattle.migrator.specs.Migrating.{room_on}
use Rattle.mirror.specs.declared.sides.Side.{Side}
use Rattle.mirror.specs.Room.{Prices, IsMirrored, FitsOn, IsTightOn, too_many_on}

-- ---- one side

-- A store is up on a lawful area of a role that can be mirrored.
pub record SideStands {S : Type 0} (mounted_on : S → Area) (stands : S → Geometry → List (List ℕ) → Type 0)
    (d : Device) (side : Side S) : Type 0 where
  pub lawful : IsLawfulFor d.banks side.area
  pub role : IsMirrored side.area
  pub here : mounted_on side.store ≡ side.area
  pub up : StandsOn mounted_on stands d side.store

-- the side is on the same area, at the same place of the map
pub record SameSide {S : Type 0} (old new : Side S) : Type 0 where
  pub area : new.area ≡ old.area
  pub place : new.place ≡ old.place

-- the area that comes first in the map, and the other one
module _ {S : Type 0} (trusted other : Side S) where
  abbrev pub lower : Area
  lower = if nat_lt trusted.place other.place then trusted.area else other.area

  abbrev pub higher : Area
  higher = if nat_lt trusted.place other.place then other.area else trusted.area

-- A command was carried out on one side, which has these settings then. If there is nothing to do,
-- nothing is programmed.
pub record IsDone (contents : Area → Geometry → List (List ℕ) → Map) (old new : Device) (area : Area)
    (nothing : Type 0) (after : Map) : Type 0 where
  pub settings : on contents new area ≡ after
  pub idle : nothing → new ≡ old
  pub spends : ¬ nothing → SpendsSome old new

-- Power was lost in the command: the side has its old settings, or these.
pub record IsCut (contents : Area → Geometry → List (List ℕ) → Map) (old new : Device) (area : Area)
    (nothing : Type 0) (after : Map) : Type 0 where
  pub some : ¬ nothing
  pub settings : (on contents new area ≡ on contents old area) ⊎ (on contents new area ≡ after)

-- how a command on one side ends
abbrev pub SideCommand : {T : Type 0} → (Area → Geometry → List (List ℕ) → Map) → Device → Device → Area
    → Type 0 → Map → Result T Lost → Type 0
SideCommand contents old new area nothing after (Ok x) = IsDone contents old new area nothing after
SideCommand contents old new area nothing after (Err lost) = IsCut contents old new area nothing after

-- ---- both

-- each name of the one map has the same value in the other
abbrev pub IsWithin : Map → Map → Type 0
IsWithin settings others = (name value : List ℕ) → IsStored settings name value → IsStored others name value

-- The stores of two areas are up, share no sector, and hold the same settings, which
-- fit both areas.
pub record IsMirror {S : Type 0} (mounted_on : S → Area) (stands : S → Geometry → List (List ℕ) → Type 0)
    (contents : Area → Geometry → List (List ℕ) → Map)
    (room : Area → Geometry → Room) (prices : Area → Geometry → Prices) (d : Device) (trusted other : Side S)
    : Type 0 where
  pub trusted_stands : SideStands mounted_on stands d trusted
  pub other_stands : SideStands mounted_on stands d other
  pub apart : AreApart trusted.area other.area
  pub apart_too : AreApart other.area trusted.area
  pub version : trusted.area.version ≡ other.area.version
  pub places : trusted.place ≢ other.place
  pub same : on contents d other.area ≡ on contents d trusted.area
  pub trusted_fits : FitsOn room prices d trusted.area (on contents d trusted.area)
  pub other_fits : FitsOn room prices d other.area (on contents d trusted.area)

-- ---- what a command leaves in both areas

-- Power was lost in a command. Neither area is damaged. Each has the old settings or the new ones;
-- the other one has the new ones only if the trusted one has.
pub record IsCutBoth (damage : Area → Geometry → List (List ℕ) → Option Damaged)
    (contents : Area → Geometry → List (List ℕ) → Map) (new : Device) (trusted other : Area)
    (before after : Map) : Type 0 where
  pub trusted_sound : on damage new trusted ≡ None
  pub other_sound : on damage new other ≡ None
  pub settings :
      ((on contents new trusted ≡ before) × (on contents new other ≡ before))
      ⊎ ((on contents new trusted ≡ after) × (on contents new other ≡ before))
      ⊎ ((on contents new trusted ≡ after) × (on contents new other ≡ after))

-- settings fit both areas
pub record FitBoth (room : Area → Geometry → Room) (prices : Area → Geometry → Prices) (d : Device)
    (trusted other : Area) (settings : Map) : Type 0 where
  pub trusted_fits : FitsOn room prices d trusted settings
  pub other_fits : FitsOn room prices d other settings

-- the settings before a command fit both areas, and so do the new ones
abbrev pub FitEither : (Area → Geometry → Room) → (Area → Geometry → Prices) → Device → Area → Area → Map
    → Map → Type 0
FitEither room prices d trusted other before after =
    FitBoth room prices d trusted other before × FitBoth room prices d trusted other after

-- both have these settings
pub record BothHave (contents : Area → Geometry → List (List ℕ) → Map) (new : Device) (trusted other : Area)
    (after : Map) : Type 0 where
  pub trusted_has : on contents new trusted ≡ after
  pub other_has : on contents new other ≡ after

-- ---- setting

-- the name is one too many in neither of the areas
pub record IsFew (room : Area → Geometry → Room) (d : Device) (trusted other : Area) (settings : Map)
    (name : List ℕ) : Type 0 where
  pub trusted_few : too_many_on room d trusted settings name ≡ false
  pub other_few : too_many_on room d other settings name ≡ false

-- the name is one too many in neither area, and both have room for the value, or the name
-- has it already
pub record HasRoom (room : Area → Geometry → Room) (d : Device) (trusted other : Area) (settings : Map)
    (name value : List ℕ) : Type 0 where
  pub few : IsFew room d trusted other settings name
  pub trusted_room : ¬ IsStored settings name value → ¬ IsTightOn room d trusted settings name value
  pub other_room : ¬ IsStored settings name value → ¬ IsTightOn room d other settings name value

-- The name has the value in both areas, and all others stay; an equal value programs nothing.
pub record SetsBoth (contents : Area → Geometry → List (List ℕ) → Map) (old new : Device)
    (trusted other : Area) (name value : List ℕ) : Type 0 where
  pub settings : BothHave contents new trusted other (insert (on contents old trusted) name value)
  pub same : IsStored (on contents old trusted) name value → new ≡ old
  pub spends : ¬ IsStored (on contents old trusted) name value → SpendsSome old new

-- one area has no room; these are the need of the put and what all settings cost
pub record IsFull (room : Area → Geometry → Room) (d : Device) (area : Area) (settings : Map)
    (name value : List ℕ) (need live : ℕ) : Type 0 where
  pub tight : IsTightOn room d area settings name value
  pub needs : need ≡ (room_on room d area).need settings name value
  pub lives : live ≡ (room_on room d area).cost settings

-- how the check for room in one area ends
abbrev pub LooksForRoom : {T : Type 0} → (Area → Geometry → Room) → Device → Area → Map → List ℕ → List ℕ
    → Result T SetFault → Type 0
LooksForRoom room d area settings name value (Ok x) = ¬ IsTightOn room d area settings name value
LooksForRoom room d area settings name value (Err (NoSpace need live)) =
    IsFull room d area settings name value need live
LooksForRoom room d area settings name value (Err TooManyNames) = ⊥
LooksForRoom room d area settings name value (Err PowerLost) = ⊥

-- The lower of the two areas has no room, or only the higher one has none; and the name has another
-- value or none.
pub record FindsNoRoom (room : Area → Geometry → Room) (d : Device) (low high : Area) (settings : Map)
    (name value : List ℕ) (need live : ℕ) : Type 0 where
  pub other : ¬ IsStored settings name value
  pub full :
      IsFull room d low settings name value need live
      ⊎ ((¬ IsTightOn room d low settings name value) × IsFull room d high settings name value need live)

-- how the check for room in both areas ends
abbrev pub LooksForBoth : {S T : Type 0} → (Area → Geometry → Room) → Device → Side S → Side S → Map → List ℕ
    → List ℕ → Result T SetFault → Type 0
LooksForBoth room d trusted other settings name value (Ok x) =
    HasRoom room d trusted.area other.area settings name value
LooksForBoth room d trusted other settings name value (Err TooManyNames) =
    (too_many_on room d trusted.area settings name ≡ true)
    ⊎ (too_many_on room d other.area settings name ≡ true)
LooksForBoth room d trusted other settings name value (Err (NoSpace need live)) =
    IsFew room d trusted.area other.area settings name
    × FindsNoRoom room d (lower trusted other) (higher trusted other) settings name value need live
LooksForBoth room d trusted other settings name value (Err PowerLost) = ⊥

-- how a set ends; a refusal comes before anything is programmed
abbrev pub MirrorSets : {S T : Type 0} → (Area → Geometry → List (List ℕ) → Option Damaged)
    → (Area → Geometry → List (List ℕ) → Map) → (Area → Geometry → Room) → (Area → Geometry → Prices)
    → Device → Device → Side S → Side S → List ℕ → List ℕ → Result T SetFault → Type 0
MirrorSets damage contents room prices old new trusted other name value (Ok x) =
    HasRoom room old trusted.area other.area (on contents old trusted.area) name value
    × SetsBoth contents old new trusted.area other.area name value
MirrorSets damage contents room prices old new trusted other name value (Err TooManyNames) =
    ((too_many_on room old trusted.area (on contents old trusted.area) name ≡ true)
    ⊎ (too_many_on room old other.area (on contents old trusted.area) name ≡ true)) × (new ≡ old)
MirrorSets damage contents room prices old new trusted other name value (Err (NoSpace need live)) =
    IsFew room old trusted.area other.area (on contents old trusted.area) name
    × FindsNoRoom room old (lower trusted other) (higher trusted other) (on contents old trusted.area) name
    value need live × (new ≡ old)
MirrorSets damage contents room prices old new trusted other name value (Err PowerLost) =
    HasRoom room old trusted.area other.area (on contents old trusted.area) name value
    × (¬ IsStored (on contents old trusted.area) name value)
    × IsCutBoth damage contents new trusted.area other.area (on contents old trusted.area)
    (insert (on contents old trusted.area) name value)
    × FitEither room prices new trusted.area other.area (on contents old trusted.area)
    (insert (on contents old trusted.area) name value)

-- ---- deleting

-- The name has no value in either area, and all others stay; an absent name programs nothing.
pub record DeletesBoth (contents : Area → Geometry → List (List ℕ) → Map) (old new : Device)
    (trusted other : Area) (name : List ℕ) : Type 0 where
  pub settings : BothHave contents new trusted other (remove (on contents old trusted) name)
  pub absent : IsAbsent (on contents old trusted) name → new ≡ old
  pub spends : ¬ IsAbsent (on contents old trusted) name → SpendsSome old new

-- how a delete ends
abbrev pub MirrorDeletes : {S T : Type 0} → (Area → Geometry → List (List ℕ) → Option Damaged)
    → (Area → Geometry → List (List ℕ) → Map) → (Area → Geometry → Room) → (Area → Geometry → Prices)
    → Device → Device → Side S → Side S → List ℕ → Result T Lost → Type 0
MirrorDeletes damage contents room prices old new trusted other name (Ok x) =
    DeletesBoth contents old new trusted.area other.area name
MirrorDeletes damage contents room prices old new trusted other name (Err lost) =
    (¬ IsAbsent (on contents old trusted.area) name)
    × IsCutBoth damage contents new trusted.area other.area (on contents old trusted.area)
    (remove (on contents old trusted.area) name)
    × FitEither room prices new trusted.area other.area (on contents old trusted.area)
    (remove (on contents old trusted.area) name)
