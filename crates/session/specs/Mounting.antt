-- How the mount of a map ends, with power on.
use Rattle.std.specs.Prelude.{◌≡◌, ◌⊎◌, ℕ, Bool, true, false, List, Option, Some, None, Result, Ok, Err}
use Rattle.flash_sim.specs.Device.{Device}
use Rattle.flash_map.specs.declared.area.Area.{Area}
use Rattle.flash_map.specs.declared.area.Geometry.{Geometry}
use Rattle.flash_map.specs.declared.faults.Damaged.{Damaged}
use Rattle.flash_map.specs.declared.faults.MountFault.{MountFault}
use Rattle.flash_map.specs.declared.faults.MountFault.TheVariants.{Damaged as HasDamage, PowerLost as MountLost, NoMemory as MountNoMemory}
use Rattle.flash_map.specs.On.{on}
use Rattle.flash_map.specs.Touches.{Touches}
use Rattle.backend_api.specs.Map.{Map}
use Rattle.migrator.specs.declared.selecting.Selector.{Selector}
use Rattle.migrator.specs.Active.{active_on, selector_damage_on}
use Rattle.settings_core.specs.declared.settings.Settings.{Settings}
use Rattle.script_lines.specs.declared.answer.Answer.{Answer}
use Rattle.script_lines.specs.declared.answer.Answer.TheVariants.{Done, Lost}
use Rattle.session.specs.declared.fault.SessionFault.{SessionFault}
use Rattle.session.specs.declared.fault.SessionFault.TheVariants.{Damaged as IsDamaged, NoMemory as HasNoMemory}
use Rattle.session.specs.declared.mounting.MapFault.{MapFault}
use Rattle.session.specs.declared.mounting.MapFault.TheVariants.{Damaged as MapDamaged, PowerLost, NoMemory}
use Rattle.session.specs.declared.session.Session.{Session}
use Rattle.session.specs.OnMap.{HasSelector, StandsOnMap, BeginsMount, active_area, active_damage, damage_in, selector_damage, selectors}

-- the answer says that power was lost
abbrev pub map_lost : {T : Type 0} → Result T MapFault → Bool
map_lost (Ok x) = false
map_lost (Err (MapDamaged place damaged)) = false
map_lost (Err PowerLost) = true
map_lost (Err NoMemory) = false

-- ---- the selector

-- the result of the selector's mount, as a mount of the map answers it
abbrev pub selected_as : ℕ → Result Selector MountFault → Result (Option Selector) MapFault
selected_as place (Ok selector) = Ok (Some selector)
selected_as place (Err (HasDamage damaged)) = Err (MapDamaged place damaged)
selected_as place (Err MountLost) = Err PowerLost
selected_as place (Err MountNoMemory) = Err NoMemory

-- how the mount of the selector ends, if the map has one: it shows this damage, and nothing
-- changed; or it shows none
abbrev pub SelectorEnds : List Area → Device → Device → Result (Option Selector) MapFault → Type 0
SelectorEnds areas old new (Ok selector) =
    (selector_damage_on areas old ≡ None) × HasSelector areas new selector
SelectorEnds areas old new (Err (MapDamaged place damaged)) =
    (selector_damage areas old ≡ Some (place, damaged)) × (new ≡ old)
SelectorEnds areas old new (Err PowerLost) = selector_damage_on areas old ≡ None
SelectorEnds areas old new (Err NoMemory) = ⊥

-- ---- the map

-- the result of the mount of settings on the area at this place, as a mount of the map answers it
abbrev pub mounted_as : {K : Type 0} → Option Selector → ℕ → Result (Settings K) MountFault
    → Result (Session K) MapFault
mounted_as selector place (Ok settings) =
    Ok (record { selector = selector; settings = Some settings; active = place })
mounted_as selector place (Err (HasDamage damaged)) = Err (MapDamaged place damaged)
mounted_as selector place (Err MountLost) = Err PowerLost
mounted_as selector place (Err MountNoMemory) = Err NoMemory

-- the same area is active, and reads as the same settings
abbrev pub ReadsSame : (Area → Geometry → List (List ℕ) → Map) → List Area → Device → Device → Type 0
ReadsSame contents areas old new =
    (active_on areas new ≡ active_on areas old)
    × (on contents new (active_area areas old) ≡ on contents old (active_area areas old))

-- How the mount of a map ends: the session is ready, and the map shows no damage; or it shows this
-- damage; or power was lost, which happened in the selector's area if the active area shows damage,
-- and the selector shows none afterwards; or memory ran out.
abbrev pub MapEnds : {K : Type 0} → (K → Area) → (K → Geometry → List (List ℕ) → Type 0) → (K → Bool)
    → (Area → Geometry → List (List ℕ) → Option Damaged)
    → (Area → Geometry → List (List ℕ) → Map) → List Area → Device → Device → Result (Session K) MapFault
    → Type 0
MapEnds {K} mounted_on stands runs damage contents areas old new (Ok session) =
    (settings : Settings K) × (session.settings ≡ Some settings)
    × StandsOnMap mounted_on stands runs areas new session.selector session.active settings
    × (selector_damage_on areas old ≡ None) × (active_damage damage areas old ≡ None)
    × ReadsSame contents areas old new
MapEnds mounted_on stands runs damage contents areas old new (Err (MapDamaged place damaged)) =
    (damage_in damage areas old ≡ Some (place, damaged)) × BeginsMount areas old new
MapEnds mounted_on stands runs damage contents areas old new (Err PowerLost) =
    (selector_damage_on areas old ≡ None) × (selector_damage_on areas new ≡ None)
    × ((active_damage damage areas old ≡ None) ⊎ Touches (selectors areas) old new true)
    × ReadsSame contents areas old new
MapEnds mounted_on stands runs damage contents areas old new (Err NoMemory) =
    (selector_damage_on areas old ≡ None) × BeginsMount areas old new

-- ---- the line

-- no settings, as after a power loss in a mount
abbrev pub down : {K : Type 0} → Session K
down = record { selector = None; settings = None; active = 0 }

-- the result of the mount of the map, which took so many units, as the line answers it
abbrev pub answered : {K : Type 0} → ℕ → Result (Session K) MapFault
    → Result (Session K × Answer) SessionFault
answered units (Ok session) = Ok (session, Done units)
answered units (Err (MapDamaged place damaged)) = Err (IsDamaged place damaged)
answered units (Err PowerLost) = Ok (down, Lost units false)
answered units (Err NoMemory) = Err HasNoMemory
