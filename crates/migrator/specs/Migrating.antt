-- How a migration changes the areas, and how it ends.
use Rattle.std.specs.Prelude.{◌≡◌, ◌⊎◌, ℕ, ◌+◌, ◌*◌, ◌≤◌, Bool, true, false, List, [], ◌∷◌, count_by, Option, Some, None, Result, Ok, Err, IfOk, OnOk}
use Rattle.std.specs.FinMap as finite
use Rattle.std.specs.List.{slice_get}
use Rattle.std.specs.Option.{option_map_or, option_and_then}
use Rattle.flash_sim.specs.Device.{Device}
use Rattle.flash_map.specs.declared.area.Area.{Area}
use Rattle.flash_map.specs.declared.area.Geometry.{Geometry}
use Rattle.flash_map.specs.declared.faults.Damaged.{Damaged}
use Rattle.flash_map.specs.Area.{geometry_of, sectors_of, AreApart}
use Rattle.flash_map.specs.Lawful.{IsLawfulFor}
use Rattle.flash_map.specs.Spending.{SpendsAtMost, SpendsBetween}
use Rattle.flash_map.specs.Units.{is_written}
use Rattle.fcb_ring.specs.Standing.{is_up, erases_on, ring_damage}
use Rattle.fcb_ring.specs.declared.ring.Ring.{Ring}
use Rattle.backend_api.specs.Map.{Map}
use Rattle.flash_map.specs.On.{on, HoldsOn, StandsOn}
use Rattle.backend_api.specs.Room.{Room, command_units}
use Rattle.backend_api.specs.declared.backend.SetFault.{SetFault}
use Rattle.backend_api.specs.declared.backend.SetFault.TheVariants.{NoSpace as NoPlace, TooManyNames as OneTooMany, PowerLost as CopyLost}
use Rattle.flash_sim.specs.declared.flash.PowerLost.{PowerLost as Lost}
use Rattle.migrator.specs.declared.migrating.MigrateFault.{MigrateFault}
use Rattle.migrator.specs.declared.migrating.MigrateFault.TheVariants.{NoTarget, NoSpace, TooManyNames, PowerLost, NoMemory}
use Rattle.migrator.specs.Active.{active_in, active_on, selector_damage_on}
use Rattle.migrator.specs.Areas.{IsLawfulMap, is_store, selector_of, target}
use Rattle.migrator.specs.Choosing.{IsOpen, Chooses, choice_units}
use Rattle.migrator.specs.Copying.{NoneTooMany, HasOneTooMany, HasOneWithoutRoom}

-- the answer says that power was lost
abbrev pub migrate_lost : {T : Type 0} → Result T MigrateFault → Bool
migrate_lost (Ok x) = false
migrate_lost (Err NoTarget) = false
migrate_lost (Err (NoSpace need live)) = false
migrate_lost (Err TooManyNames) = false
migrate_lost (Err PowerLost) = true
migrate_lost (Err NoMemory) = false

-- the answer says why the settings were not moved, and power was not lost
abbrev pub is_refused : {T : Type 0} → Result T MigrateFault → Bool
is_refused (Ok x) = false
is_refused (Err NoTarget) = true
is_refused (Err (NoSpace need live)) = true
is_refused (Err TooManyNames) = true
is_refused (Err PowerLost) = false
is_refused (Err NoMemory) = true

-- the result of the copy of all settings, as a migration answers it
abbrev pub filled_as : {T : Type 0} → T → Result (Unit {0}) SetFault → Result T MigrateFault
filled_as to (Ok x) = Ok to
filled_as to (Err (NoPlace need live)) = Err (NoSpace need live)
filled_as to (Err OneTooMany) = Err TooManyNames
filled_as to (Err CopyLost) = Err PowerLost

-- the result of the choice of the area, as a migration answers it
abbrev pub moved_as : {T : Type 0} → T → Result (Unit {0}) Lost → Result T MigrateFault
moved_as moved (Ok x) = Ok moved
moved_as moved (Err lost) = Err PowerLost

-- the area to which the settings go
abbrev pub target_area : List Area → ℕ → Option Area
target_area areas active = option_and_then (slice_get areas) (target areas active)

-- the areas on which a migration works: the target and the selector's
abbrev pub worked_on : List Area → Area → ℕ → List Area
worked_on areas selector active =
    option_map_or (λ area. area ∷ selector ∷ []) (target_area areas active) (selector ∷ [])

-- the room of an area on a device
abbrev pub room_on : (Area → Geometry → Room) → Device → Area → Room
room_on room d area = room area (geometry_of d area)

-- The selector and a store are mounted on areas of a lawful map. The store's area is active. Stores
-- of this type serve every store area.
pub record IsServed {S : Type 0} (serves : Area → Geometry → Type 0) (mounted_on : S → Area)
    (stands : S → Geometry → List (List ℕ) → Type 0)
    (areas : List Area) (d : Device) (ring : Ring) (state : S) (active : ℕ) : Type 0 where
  pub lawful : IsLawfulMap d.banks areas
  pub served : (index : ℕ) (area : Area) → slice_get areas index ≡ Some area → is_store area ≡ true
      → serves area (geometry_of d area)
  pub selected : selector_of areas ≡ Some ring.area
  pub open_ring : IsOpen d ring
  pub there : slice_get areas active ≡ Some (mounted_on state)
  pub up : StandsOn mounted_on stands d state
  pub is_active : active ≡ active_on areas d

-- the source's sectors are as before, and its store still stands on them
pub record KeepsSource {S : Type 0} (mounted_on : S → Area) (stands : S → Geometry → List (List ℕ) → Type 0)
    (old new : Device) (source : S) : Type 0 where
  pub sectors : sectors_of new (mounted_on source) ≡ sectors_of old (mounted_on source)
  pub up : StandsOn mounted_on stands new source

-- how the opening of an area with no settings ends
abbrev pub OpenEnds : {T : Type 0} → Map → Result T MigrateFault → Type 0
OpenEnds copy (Ok x) = copy ≡ finite.empty
OpenEnds copy (Err NoTarget) = ⊥
OpenEnds copy (Err TooManyNames) = ⊥
OpenEnds copy (Err (NoSpace need live)) = ⊥
OpenEnds copy (Err PowerLost) = Unit {0}
OpenEnds copy (Err NoMemory) = Unit {0}

-- how filling an area with all settings ends
abbrev pub FillEnds : {T : Type 0} → Room → ℕ → Map → Map → Result T MigrateFault → Type 0
FillEnds room sectors settings copy (Ok x) = (copy ≡ settings) × NoneTooMany room settings None
FillEnds room sectors settings copy (Err NoTarget) = ⊥
FillEnds room sectors settings copy (Err TooManyNames) = HasOneTooMany room settings
FillEnds room sectors settings copy (Err (NoSpace need live)) =
    HasOneWithoutRoom room sectors settings need live
FillEnds room sectors settings copy (Err PowerLost) = Unit {0}
FillEnds room sectors settings copy (Err NoMemory) = Unit {0}

-- The active area of the map reads as these settings; neither it nor the selector is damaged.
pub record ReadsAs (damage : Area → Geometry → List (List ℕ) → Option Damaged)
    (contents : Area → Geometry → List (List ℕ) → Map)
    (areas : List Area) (d : Device) (settings : Map) : Type 0 where
  pub sound : selector_damage_on areas d ≡ None
  pub area : Area
  pub there : slice_get areas (active_on areas d) ≡ Some area
  pub undamaged : on damage d area ≡ None
  pub reads : on contents d area ≡ settings

-- the area at this index is active, and has all settings
pub record IsMoved (damage : Area → Geometry → List (List ℕ) → Option Damaged)
    (contents : Area → Geometry → List (List ℕ) → Map)
    (room : Room) (areas : List Area) (selector area : Area) (index : ℕ) (settings : Map) (new : Device) :
    Type 0 where
  pub active : active_in areas new selector ≡ index
  pub undamaged : on damage new area ≡ None
  pub reads : on contents new area ≡ settings
  pub free : NoneTooMany room settings None

-- The most units and erases of filling an area, whole or cut: it is erased, and `names` settings are put
-- into it.
abbrev pub fill_units : Geometry → ℕ → ℕ
fill_units geometry names = geometry.sectors + names * command_units geometry

-- An area was filled with `names` settings. That spent one erase for each sector that was written, and at
-- most one command's units for each setting.
abbrev pub Fills : Device → Device → Area → ℕ → Type 0
Fills old new area names =
    let written = count_by is_written (sectors_of old area) in
    SpendsBetween old new written (written + names * command_units (geometry_of old area))

-- It spent at most what filling an area with `names` settings may take, and filled it if it ended well.
abbrev pub FillSpends : {T E : Type 0} → Device → Device → Area → ℕ → Result T E → Type 0
FillSpends old new area names result =
    SpendsAtMost old new (fill_units (geometry_of old area) names) × OnOk result (Fills old new area names)

-- The most units and erases of moving `names` settings to an area, whole or cut: it is filled,
-- and then chosen.
abbrev pub move_units : Device → Area → Area → ℕ → ℕ
move_units d selector area names = fill_units (geometry_of d area) names + choice_units d selector

-- the most units and erases of a migration: those of moving the settings to the target; 0
-- if there is none
abbrev pub migrate_units : Device → List Area → Area → ℕ → ℕ → ℕ
migrate_units d areas selector active names =
    option_map_or (λ area. move_units d selector area names) (target_area areas active) 0

-- The area was filled with `names` settings first, and the selector's area stayed. Then the selector chose
-- the area at this index, by one record more.
pub record FillsAndChooses (areas : List Area) (old new : Device) (ring : Ring) (area : Area)
    (index names : ℕ) : Type 0 where
  pub mid : Device
  pub banks : mid.banks ≡ old.banks
  pub filled : Fills old mid area names
  pub selector : sectors_of mid ring.area ≡ sectors_of old ring.area
  pub chosen : Chooses areas mid new ring index

-- After a refusal the selector's sectors are as before. A move that ended well filled the target, and then
-- put one record.
abbrev pub ChoosesOnce : {K : Type 0} → (K → Area) → List Area → Device → Device → Ring → ℕ
    → Result (K × ℕ) MigrateFault → Type 0
ChoosesOnce mounted_on areas old new ring names result =
    (is_refused result ≡ true → sectors_of new ring.area ≡ sectors_of old ring.area)
    × IfOk result (λ moved. FillsAndChooses areas old new ring (mounted_on moved.0) moved.1 names)

-- A mount of the active area has nothing to do, and one of the selector erases at most one sector.
pub record IsLeftResting (rests : Area → Geometry → List (List ℕ) → Type 0) (areas : List Area)
    (selector : Area) (d : Device) : Type 0 where
  pub area : Area
  pub there : slice_get areas (active_on areas d) ≡ Some area
  pub at_rest : HoldsOn rests d area
  pub erases : erases_on d selector ≤ 1

-- the active area is as before
abbrev pub StaysActive : List Area → Area → Device → Device → Type 0
StaysActive areas selector old new = active_in areas new selector ≡ active_in areas old selector

-- The active area is as before; or it is the one at this index, and rests.
abbrev pub ActiveRests : (Area → Geometry → List (List ℕ) → Type 0) → List Area → Area → Area → ℕ → Device
    → Device → Type 0
ActiveRests rests areas selector area index old new =
    StaysActive areas selector old new ⊎ ((active_in areas new selector ≡ index) × HoldsOn rests new area)

-- The settings of a mounted store can move to this area. It, the store's area and the selector's
-- share no sector. The selector takes records.
pub record CanMove {S : Type 0} (serves : Area → Geometry → Type 0) (mounted_on : S → Area)
    (stands : S → Geometry → List (List ℕ) → Type 0) (d : Device) (ring : Ring) (state : S) (to : Area) :
    Type 0 where
  pub lawful_from : IsLawfulFor d.banks (mounted_on state)
  pub stands_from : StandsOn mounted_on stands d state
  pub lawful : IsLawfulFor d.banks to
  pub served : serves to (geometry_of d to)
  pub version : to.version ≡ (mounted_on state).version
  pub mounted : IsOpen d ring
  pub apart_source : AreApart to (mounted_on state)
  pub apart_selector : AreApart to ring.area
  pub selector_source : AreApart ring.area (mounted_on state)
  pub selector_target : AreApart ring.area to

-- The selector's area shows no damage, and the selector still takes records; if power was lost,
-- it may be down.
pub record KeepsSelector (new : Device) (before after : Ring) (is_lost : Bool) : Type 0 where
  pub area : after.area ≡ before.area
  pub sound : ring_damage new before.area ≡ None
  pub open_ring : is_lost ≡ false → IsOpen new after
  pub lost : is_lost ≡ true → (is_up after.stage ≡ false) ⊎ IsOpen new after

-- How the move of the settings to the area at this index ends.
abbrev pub MoveEnds : {S : Type 0} → (S → Area) → (Area → Geometry → List (List ℕ) → Option Damaged)
    → (Area → Geometry → List (List ℕ) → Map)
    → Room → List Area → Area → Area → ℕ → Map → Device → Device → Result (S × ℕ) MigrateFault → Type 0
MoveEnds mounted damage contents room areas selector area index settings old new (Ok moved) =
    (moved.1 ≡ index) × (mounted moved.0 ≡ area)
    × IsMoved damage contents room areas selector area index settings new
MoveEnds mounted damage contents room areas selector area index settings old new (Err NoTarget) = ⊥
MoveEnds mounted damage contents room areas selector area index settings old new (Err TooManyNames) =
    HasOneTooMany room settings × StaysActive areas selector old new
MoveEnds mounted damage contents room areas selector area index settings old new (Err (NoSpace need live)) =
    HasOneWithoutRoom room area.sectors settings need live × StaysActive areas selector old new
MoveEnds mounted damage contents room areas selector area index settings old new (Err PowerLost) =
    StaysActive areas selector old new ⊎ IsMoved damage contents room areas selector area index settings new
MoveEnds mounted damage contents room areas selector area index settings old new (Err NoMemory) =
    StaysActive areas selector old new

-- the area at this index is the target
pub record IsTarget (areas : List Area) (active index : ℕ) (area : Area) : Type 0 where
  pub target : target areas active ≡ Some index
  pub there : slice_get areas index ≡ Some area

-- there is a target, and the move to it ends so
abbrev pub Migrates : {S : Type 0} → (S → Area) → (Area → Geometry → List (List ℕ) → Option Damaged)
    → (Area → Geometry → List (List ℕ) → Map)
    → (Area → Geometry → Room) → List Area → Area → ℕ → Map → Device → Device → Result (S × ℕ) MigrateFault
    → Type 0
Migrates mounted damage contents room areas selector active settings old new result =
    (index : ℕ) × (area : Area) × IsTarget areas active index area
    × MoveEnds mounted damage contents (room_on room old area) areas selector area index settings old new
    result

-- how a migration ends: `NoTarget` exactly if there is no target, and then nothing changed
abbrev pub MigrateEnds : {S : Type 0} → (S → Area) → (Area → Geometry → List (List ℕ) → Option Damaged)
    → (Area → Geometry → List (List ℕ) → Map)
    → (Area → Geometry → Room) → List Area → Area → ℕ → Map → Device → Device → Result (S × ℕ) MigrateFault
    → Type 0
MigrateEnds mounted damage contents room areas selector active settings old new (Err NoTarget) =
    (target areas active ≡ None) × (new ≡ old)
MigrateEnds mounted damage contents room areas selector active settings old new result =
    Migrates mounted damage contents room areas selector active settings old new result
