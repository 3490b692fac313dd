-- The room of settings over a store, and how the calls that set or delete a setting end.
use Rattle.std.specs.Prelude.{◌≡◌, ◌⊎◌, ℕ, ◌+◌, ◌<◌, ◌≤◌, Bool, true, false, List, length, None, Result, is_err}
use Rattle.std.specs.FinMap.{insert, remove}
use Rattle.flash_sim.specs.Device.{Device}
use Rattle.flash_sim.specs.declared.flash.PowerLost.{PowerLost as Lost}
use Rattle.flash_map.specs.declared.area.Area.{Area}
use Rattle.flash_map.specs.declared.area.Geometry.{Geometry}
use Rattle.flash_map.specs.Area.{geometry_of}
use Rattle.flash_map.specs.On.{on}
use Rattle.backend_api.specs.declared.backend.SetFault.{SetFault}
use Rattle.backend_api.specs.Ends.{set_lost, SetEnds, DeleteEnds}
use Rattle.backend_api.specs.Map.{Map}
use Rattle.backend_api.specs.Room.{Room}
use Rattle.item_laws.specs.Items.{Items}
use Rattle.named_items.specs.Ends.{AltersTwo, IsFree}
use Rattle.named_items.specs.Numbering.{Numbering}
use Rattle.named_items.specs.PairRoom.{pair_room}
use Rattle.named_items.specs.Orphans.{HasOrphans}
use Rattle.named_items.specs.Pairs.{settings_in, HasNoOrphans, IsAt, IsInside, IsIdOfName}

-- by the cost of a count, the test for a name too many, and the store's price and cap
abbrev pub room_in : ((ℕ → ℕ) → ℕ) → (Map → List ℕ → Bool) → (Geometry → ℕ → ℕ) → (Geometry → ℕ) → Geometry
    → Room
room_in counted too_many price cap geometry =
    pair_room (price geometry) (cap geometry) (counted (price geometry)) too_many

-- the settings are the old ones, or have the new value
abbrev pub IsPut : Map → Map → List ℕ → List ℕ → Type 0
IsPut before after name value = (after ≡ before) ⊎ (after ≡ insert before name value)

-- a value of 1 to the most bytes that an area allows
pub record IsStorable (longest : ℕ) (value : List ℕ) : Type 0 where
  pub some : 0 < length value
  pub short : length value ≤ longest

-- A new name may be put at this id: it has no value and is not one too many, the id is one of its
-- own that the count allows, and neither the name's item nor the value's is there.
pub record IsNewAt (n : Numbering) (too_many : Map → List ℕ → Bool) (items : Items) (name : List ℕ) (id : ℕ)
    : Type 0 where
  pub absent : IsIdOfName n items name None
  pub few : too_many (settings_in n items) name ≡ false
  pub inside : IsInside n items id
  pub candidate : n.is_candidate id name ≡ true
  pub free : IsFree items id (id + n.step)

-- How a set ends. If power was lost, the settings are the old ones or have the value, and at most one
-- item is an orphan; else none is.
pub record SetLeaves {T : Type 0} (n : Numbering) (room : Room) (sectors : ℕ) (old new : Device)
    (before after : Items) (name value : List ℕ) (result : Result T SetFault) : Type 0 where
  pub ends : SetEnds room sectors old new (settings_in n before) (settings_in n after) name value result
  pub cut : set_lost result ≡ true → IsPut (settings_in n before) (settings_in n after) name value
  pub few : set_lost result ≡ true → HasOrphans n after 1
  pub clean : set_lost result ≡ false → HasNoOrphans n after

-- by the room and the items of an area
abbrev pub SetLeavesOn : {T : Type 0} → (Area → Numbering) → (Geometry → Room)
    → (Area → Geometry → List (List ℕ) → Items) → Device → Device → Area → List ℕ → List ℕ
    → Result T SetFault → Type 0
SetLeavesOn numbering room contents old new area name value result =
    SetLeaves (numbering area) (room (geometry_of old area)) area.sectors old new (on contents old area)
    (on contents new area) name value result

-- How a delete ends. If power was lost, the settings are the old ones or those without the name, and
-- at most one item is an orphan; else none is.
pub record DeleteLeaves {T : Type 0} (n : Numbering) (old new : Device) (before after : Items) (name : List ℕ)
    (result : Result T Lost) : Type 0 where
  pub ends : DeleteEnds old new (settings_in n before) (settings_in n after) name result
  pub cut : is_err result ≡ true
      → (settings_in n after ≡ settings_in n before)
      ⊎ (settings_in n after ≡ remove (settings_in n before) name)
  pub few : is_err result ≡ true → HasOrphans n after 1
  pub clean : is_err result ≡ false → HasNoOrphans n after

-- only the two items of the name's setting changed
abbrev pub AltersOnlySetting : Numbering → Items → Items → List ℕ → Type 0
AltersOnlySetting n before after name =
    (id : ℕ) → IsAt n before name id → AltersTwo before after id (id + n.step)

abbrev pub DeleteLeavesOn : {T : Type 0} → (Area → Numbering) → (Area → Geometry → List (List ℕ) → Items)
    → Device → Device → Area → List ℕ → Result T Lost → Type 0
DeleteLeavesOn numbering contents old new area name result =
    DeleteLeaves (numbering area) old new (on contents old area) (on contents new area) name result
