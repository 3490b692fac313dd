-- All settings of one store, put one by one into another, in the byte order of their names.
use Rattle.std.specs.Prelude.{◌≡◌, ℕ, true, false, List, take, Option, Some, None, Result, Ok, Err}
use Rattle.std.specs.FinMap.{retain_keys, empty, entries}
use Rattle.std.specs.List.{slice_get}
use Rattle.backend_api.specs.Commands.{all_applied, puts_of}
use Rattle.backend_api.specs.Least.{is_before}
use Rattle.backend_api.specs.Map.{Map, IsStored}
use Rattle.backend_api.specs.Room.{Room, HasNoRoom}
use Rattle.backend_api.specs.declared.backend.SetFault.{SetFault}
use Rattle.backend_api.specs.declared.backend.SetFault.TheVariants.{NoSpace, TooManyNames, PowerLost}
use Rattle.migrator.specs.declared.copying.Setting.{Setting}

-- the name and the value of a setting in memory
abbrev pub pair_of : Setting → List ℕ × List ℕ
pair_of setting = (setting.name, setting.value.items)

-- the settings of the names before `end`, which are put when it is its turn; all of them if
-- `end` is `None`
abbrev pub before : Map → Option (List ℕ) → Map
before settings end = retain_keys settings (λ name. is_before name end)

-- the puts of the pairs before place `i`, in the order of names, lead from the empty map to exactly
-- these settings
abbrev pub PutsInOrder : Map → Type 0
PutsInOrder settings =
    (i : ℕ) (name value : List ℕ) → slice_get (entries settings) i ≡ Some (name, value)
    → all_applied empty (puts_of (take i (entries settings))) ≡ before settings (Some name)

-- no name before `end` is one too many when it is its turn
abbrev pub NoneTooMany : Room → Map → Option (List ℕ) → Type 0
NoneTooMany room settings end =
    (name value : List ℕ) → IsStored settings name value → is_before name end ≡ true
    → room.too_many (before settings (Some name)) name ≡ false

-- a name is one too many when it is its turn, and none before it is
pub record HasOneTooMany (room : Room) (settings : Map) : Type 0 where
  pub name : List ℕ
  pub value : List ℕ
  pub stored : IsStored settings name value
  pub many : room.too_many (before settings (Some name)) name ≡ true
  pub earlier : NoneTooMany room settings (Some name)

-- there is no room for a setting when it is its turn; neither its name nor one before it
-- is one too many
pub record HasOneWithoutRoom (room : Room) (sectors : ℕ) (settings : Map) (need live : ℕ) : Type 0 where
  pub name : List ℕ
  pub value : List ℕ
  pub stored : IsStored settings name value
  pub few : room.too_many (before settings (Some name)) name ≡ false
  pub earlier : NoneTooMany room settings (Some name)
  pub full : HasNoRoom room sectors (before settings (Some name)) name value
  pub needs : need ≡ room.need (before settings (Some name)) name value
  pub lives : live ≡ room.cost (before settings (Some name))

-- how the copy of all settings ends, by what the other store has then
abbrev pub CopyEnds : {T : Type 0} → Room → ℕ → Map → Map → Result T SetFault → Type 0
CopyEnds room sectors settings copy (Ok x) = (copy ≡ settings) × NoneTooMany room settings None
CopyEnds room sectors settings copy (Err TooManyNames) = HasOneTooMany room settings
CopyEnds room sectors settings copy (Err (NoSpace need live)) =
    HasOneWithoutRoom room sectors settings need live
CopyEnds room sectors settings copy (Err PowerLost) = Unit {0}
