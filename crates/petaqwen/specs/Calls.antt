-- How the calls of a program end.
use Rattle.std.specs.Prelude.{◌≡◌, ℕ, Bool, true, false, List, [], ◌∷◌, ◌++◌, position, slice_get, Option, None, Some, option_and_then, Result, Ok, Err}
use Rattle.std.specs.FinMap.{entries}
use Rattle.std.specs.List.{list_any}
use Rattle.std.specs.Str.{bytes_eq}
use Rattle.flash_sim.specs.Device.{Device}
use Rattle.flash_map.specs.Area.{geometry_of}
use Rattle.flash_map.specs.Faults.{mount_lost}
use Rattle.flash_map.specs.Map.{has_label}
use Rattle.flash_map.specs.On.{on, HoldsOn}
use Rattle.flash_map.specs.Spending.{SpendsAtMost}
use Rattle.flash_map.specs.Touches.{Touches}
use Rattle.flash_map.specs.declared.area.Area.{Area}
use Rattle.flash_map.specs.declared.area.Role.{Role}
use Rattle.flash_map.specs.declared.area.Role.TheVariants.{Nvs, Zms, Fcb, Sel}
use Rattle.flash_map.specs.declared.faults.MountFault.{MountFault}
use Rattle.handlers.specs.Held.{HandlerState}
use Rattle.handlers.specs.Registry.{Registered, subtrees}
use Rattle.handlers.specs.declared.registry.RegisterFault.{RegisterFault}
use Rattle.handlers.specs.declared.registry.RegisterFault.TheVariants.{Exists, NoMemory}
use Rattle.backend_api.specs.Boot.{MountUnits}
use Rattle.backend_api.specs.Commands.{Command, puts_of}
use Rattle.backend_api.specs.Ends.{MountEnds}
use Rattle.backend_api.specs.Room.{foreign_units}
use Rattle.any_backend.specs.ByRole.{any_contents, any_damage, any_room, any_rests, any_owes, any_boot, any_chance, any_tears}
use Rattle.any_backend.specs.Standing.{area_of, is_up}
use Rattle.any_backend.specs.declared.backend.AnyBackend.{AnyBackend}
use Rattle.settings_core.specs.Carrying.{CarryEndsOn, due_units, save_lost}
use Rattle.settings_core.specs.Loading.{LoadEnds}
use Rattle.settings_core.specs.Owing.{OwesBoot}
use Rattle.settings_core.specs.Saving.{more_pairs}
use Rattle.settings_core.specs.declared.loading.Loaded.{Loaded}
use Rattle.settings_core.specs.declared.loading.LoadFault.{LoadFault}
use Rattle.settings_core.specs.declared.saving.Saved.{Saved}
use Rattle.settings_core.specs.declared.writing.SaveFault.{SaveFault}
use Rattle.petaqwen.specs.declared.subsystem.OpenFault.{OpenFault}
use Rattle.petaqwen.specs.declared.subsystem.OpenFault.TheVariants.{NoPartition, Mount}

-- ---- opening

-- a partition of this role is for settings, unless it is a selector
abbrev pub for_settings : Role → Area → Option Area
for_settings Nvs area = Some area
for_settings Zms area = Some area
for_settings Fcb area = Some area
for_settings Sel area = None

-- the partition with this label
abbrev pub labelled : List Area → List ℕ → Option Area
labelled areas label = option_and_then (λ i. slice_get areas i) (position (has_label label) areas)

-- the same, where it is one for settings
abbrev pub partition : List Area → List ℕ → Option Area
partition areas label = option_and_then (λ area. for_settings area.role area) (labelled areas label)

-- How mounting settings on a partition ends. Whatever the result, the settings stay, and no byte outside the
-- partition changes. It spends at most `foreign_units`, and at most what the partition owes. The partition
-- owes no more afterwards.
pub record Mounts {T : Type 0} (old new : Device) (area : Area) (result : Result T MountFault) : Type 0 where
  pub touches : Touches (area ∷ []) old new (mount_lost result)
  pub ends : MountEnds (on any_damage old area) old new result
  pub sound : on any_damage old area ≡ None → on any_damage new area ≡ None
  pub keeps : on any_damage old area ≡ None → on any_contents new area ≡ on any_contents old area
  pub rests : HoldsOn any_rests old area → new ≡ old
  pub units : MountUnits any_owes (foreign_units (geometry_of old area)) old new area

-- the settings of the partition with this label are mounted and up, and the partitions stay
pub record Opens (old new : Device) (areas after : List Area) (label : List ℕ) (backend : AnyBackend) :
    Type 0 where
  pub found : partition areas label ≡ Some (area_of backend)
  pub same : after ≡ areas
  pub up : is_up backend ≡ true
  pub mounts : Mounts {T = Unit {0}} old new (area_of backend) (Ok tt)

-- no settings were opened, and why; the partitions stay
abbrev pub FailsToOpen : Device → Device → List Area → List Area → List ℕ → OpenFault → Type 0
FailsToOpen old new areas after label NoPartition =
    (partition areas label ≡ None) × (new ≡ old) × (after ≡ areas)
FailsToOpen old new areas after label (Mount fault) =
    (area : Area) × (partition areas label ≡ Some area)
    × Mounts {T = Unit {0}} old new area (Err fault) × (after ≡ areas)

-- ---- registering

-- The handler in this state was registered behind the others. Else nothing changed: the subtree is registered
-- already, or memory ran out.
abbrev pub Registers : List Registered → List Registered → List ℕ → HandlerState
    → Result (Unit {0}) RegisterFault → Type 0
Registers before after subtree state (Ok x) =
    (list_any (bytes_eq subtree) (subtrees before) ≡ false)
    × (after ≡ before ++ record { subtree = subtree; state = state } ∷ [])
Registers before after subtree state (Err Exists) =
    (list_any (bytes_eq subtree) (subtrees before) ≡ true) × (after ≡ before)
Registers before after subtree state (Err NoMemory) =
    (list_any (bytes_eq subtree) (subtrees before) ≡ false) × (after ≡ before)

-- the answer, without the handler that comes back
abbrev pub without : {B : Type 0} → Result (Unit {0}) (RegisterFault × B) → Result (Unit {0}) RegisterFault
without (Ok x) = Ok x
without (Err (fault, back)) = Err fault

-- ---- storing

-- the most units and erases of a save of these pairs: those of one put for each that differs
abbrev pub save_units : Device → AnyBackend → List (List ℕ × List ℕ) → ℕ
save_units d backend pairs =
    due_units (geometry_of d (area_of backend)) (on any_contents d (area_of backend)) (puts_of pairs)

-- How carrying out commands on the settings ends, after so many of them. A flash that loses power takes the
-- settings down; nothing else does. The partition then owes at most its `boot_units` to the next mount.
pub record CarriesOut (old new : Device) (before after : AnyBackend) (commands : List Command) (most : ℕ)
    (result : Result (Unit {0}) SaveFault) : Type 0 where
  pub touches : Touches (area_of before ∷ []) old new (save_lost result)
  pub area : area_of after ≡ area_of before
  pub count : ℕ
  pub ends : CarryEndsOn any_room any_contents any_chance any_tears (is_up before) (area_of before) old new
      commands count result
  pub at_most : SpendsAtMost old new most
  pub sound : is_up before ≡ true → on any_damage new (area_of before) ≡ None
  pub owes : save_lost result ≡ true → OwesBoot any_owes any_boot new (area_of after)
  pub down : save_lost result ≡ true → is_up after ≡ false
  pub up : save_lost result ≡ false → is_up after ≡ is_up before

-- A save of these pairs: what each put makes of the settings, and how many were not stored already; none
-- while power is off.
abbrev pub Saves : Device → Device → AnyBackend → AnyBackend → List (List ℕ × List ℕ) → Saved → Type 0
Saves old new before after pairs saved =
    (carried : CarriesOut old new before after (puts_of pairs) (save_units old before pairs) saved.end)
    × (saved.pairs ≡ more_pairs 0 carried.count) × (old.is_on ≡ false → saved.pairs ≡ 0)

-- ---- loading

-- a load of the settings on this device, of which no report is kept
abbrev pub Loads : Device → AnyBackend → List Registered → List Registered → Option (List ℕ)
    → Result Loaded LoadFault → Type 0
Loads d backend before after subtree result =
    LoadEnds (is_up backend) before after None None subtree (entries (on any_contents d (area_of backend)))
    result
