-- The commands that a call stands for, and how carrying them out ends.
use Rattle.std.specs.Prelude.{◌≡◌, ℕ, ◌*◌, ⊤, Bool, true, false, List, [], ◌∷◌, ◌++◌, length, is_none, Result, Ok, Err, if◌then◌else◌}
use Rattle.std.specs.Option.{option_map_or}
use Rattle.std.specs.Str.{bytes_eq}
use Rattle.std.specs.FinMap.{get}
use Rattle.flash_sim.specs.Device.{Device}
use Rattle.flash_sim.specs.declared.flash.Loss.{Loss}
use Rattle.flash_sim.specs.declared.flash.PowerLost.{PowerLost as Lost}
use Rattle.flash_map.specs.declared.area.Area.{Area}
use Rattle.flash_map.specs.declared.area.Geometry.{Geometry}
use Rattle.flash_map.specs.Area.{geometry_of}
use Rattle.backend_api.specs.Commands.{Command, Put, Del, applied, all_applied, StopsAt}
use Rattle.backend_api.specs.Ends.{SpendsSome}
use Rattle.backend_api.specs.Map.{Map}
use Rattle.backend_api.specs.declared.backend.SetFault.{SetFault}
use Rattle.backend_api.specs.declared.backend.SetFault.TheVariants.{NoSpace as SetNoSpace, TooManyNames as SetTooMany, PowerLost as SetLost}
use Rattle.flash_map.specs.On.{on}
use Rattle.backend_api.specs.Room.{Room, HasNoRoom, command_units}
use Rattle.settings_core.specs.declared.writing.SaveFault.{SaveFault}
use Rattle.settings_core.specs.declared.writing.SaveFault.TheVariants.{Off, NoSpace, TooManyNames, PowerLost}
use Rattle.settings_core.specs.declared.writing.DeleteFault.{DeleteFault}
use Rattle.settings_core.specs.declared.writing.DeleteFault.TheVariants.{Off as DeleteOff, PowerLost as DeleteLost}

-- the command of a name and a value; the empty value is a delete
abbrev pub command_of : List ℕ → List ℕ → Command
command_of name [] = Del name
command_of name (b ∷ bytes) = Put name (b ∷ bytes)

-- the command changes nothing: the settings are such already
abbrev pub is_idle : Map → Command → Bool
is_idle settings (Put name value) = option_map_or (bytes_eq value) (get settings name) false
is_idle settings (Del name) = is_none (get settings name)

-- the commands that are due: those that change the settings that the ones before them leave
unfoldable pub due : Map → List Command → List Command
due settings [] = []
due settings (c ∷ commands) =
    if is_idle settings c then due settings commands else c ∷ due (applied settings c) commands

-- The most units and erases of carrying commands out, whole or cut: one command's for
-- each that is due.
abbrev pub due_units : Geometry → Map → List Command → ℕ
due_units geometry settings commands = length (due settings commands) * command_units geometry

-- the name would be one too many
abbrev pub is_too_many : Room → Map → Command → Bool
is_too_many room settings (Put name value) = room.too_many settings name
is_too_many room settings (Del name) = false

-- no name, put into the settings that the commands before it leave, is one too many
unfoldable pub AreFree : Room → Map → List Command → Type 0
AreFree room settings [] = ⊤
AreFree room settings (c ∷ commands) =
    (is_too_many room settings c ≡ false) × AreFree room (applied settings c) commands

-- there is no room for the command; these are its need and what all settings cost, in bytes
abbrev pub LacksRoom : Room → ℕ → Map → Command → ℕ → ℕ → Type 0
LacksRoom room sectors settings (Put name value) need live =
    HasNoRoom room sectors settings name value × (need ≡ room.need settings name value)
    × (live ≡ room.cost settings)
LacksRoom room sectors settings (Del name) need live = ⊥

-- the commands, split at one of them: `count` before it, and those after it
pub record SplitsAt (commands : List Command) (count : ℕ) : Type 0 where
  pub done : List Command
  pub at : Command
  pub left : List Command
  pub is : commands ≡ done ++ at ∷ left
  pub count_is : count ≡ length done

-- all of the commands were carried out; units were spent exactly if there is one
pub record Carries (room : Room) (old new : Device) (before after : Map) (commands : List Command) :
    Type 0 where
  pub settings : after ≡ all_applied before commands
  pub free : AreFree room before commands
  pub none : commands ≡ [] → new ≡ old
  pub some : ¬ (commands ≡ []) → SpendsSome old new

-- the name of one of them would be one too many, and all before it were carried out
pub record MeetsTooMany (room : Room) (old new : Device) (before after : Map) (commands : List Command)
    (count : ℕ) : Type 0 where
  pub split : SplitsAt commands count
  pub carried : Carries room old new before after split.done
  pub too_many : is_too_many room after split.at ≡ true

-- there is no room for one of them; the settings are those that all before it make
pub record MeetsNoRoom (room : Room) (sectors : ℕ) (before after : Map) (commands : List Command)
    (count need live : ℕ) : Type 0 where
  pub split : SplitsAt commands count
  pub settings : after ≡ all_applied before split.done
  pub free : AreFree room before (split.done ++ split.at ∷ [])
  pub lacks : LacksRoom room sectors after split.at need live

-- power was lost in one of them; all before it were carried out
pub record MeetsLoss (room : Room) (chance : Loss → Bool) (tears : Command → ℕ → Map → Map → Type 0)
    (old new : Device) (before after : Map) (commands : List Command) (count : ℕ) : Type 0 where
  pub split : SplitsAt commands count
  pub free : AreFree room before (split.done ++ split.at ∷ [])
  pub stops : old.is_on ≡ true
      → StopsAt chance (tears split.at) split.at new (all_applied before split.done) after

-- how carrying out commands ends after `count` of them, by whether the backend is up
abbrev pub CarryEnds : {T : Type 0} → Bool → Room → ℕ → (Loss → Bool) → (Command → ℕ → Map → Map → Type 0)
    → Device → Device → Map → Map → List Command → ℕ → Result T SaveFault → Type 0
CarryEnds up room sectors chance tears old new before after commands count (Ok x) =
    (up ≡ true) × (count ≡ length commands) × Carries room old new before after commands
CarryEnds up room sectors chance tears old new before after commands count (Err Off) =
    (up ≡ false) × (count ≡ 0) × (new ≡ old)
CarryEnds up room sectors chance tears old new before after commands count (Err (NoSpace need live)) =
    (up ≡ true) × MeetsNoRoom room sectors before after commands count need live
CarryEnds up room sectors chance tears old new before after commands count (Err TooManyNames) =
    (up ≡ true) × MeetsTooMany room old new before after commands count
CarryEnds up room sectors chance tears old new before after commands count (Err PowerLost) =
    (up ≡ true) × MeetsLoss room chance tears old new before after commands count

-- the same on an area, for the commands that are due, by what the backend says of the area
abbrev pub CarryEndsOn : {T : Type 0} → (Area → Geometry → Room) → (Area → Geometry → List (List ℕ) → Map)
    → (Area → Geometry → List (List ℕ) → Loss → Bool) → (Area → Geometry → Command → ℕ → Map → Map → Type 0)
    → Bool → Area → Device → Device → List Command → ℕ → Result T SaveFault → Type 0
CarryEndsOn room contents chance tears up area old new commands count result =
    CarryEnds up (room area (geometry_of old area)) area.sectors (on chance new area)
    (tears area (geometry_of old area)) old new (on contents old area) (on contents new area)
    (due (on contents old area) commands) count result

abbrev pub save_lost : {T : Type 0} → Result T SaveFault → Bool
save_lost (Ok x) = false
save_lost (Err Off) = false
save_lost (Err (NoSpace need live)) = false
save_lost (Err TooManyNames) = false
save_lost (Err PowerLost) = true

-- ---- deleting

abbrev pub as_save : {T : Type 0} → Result T DeleteFault → Result T SaveFault
as_save (Ok x) = Ok x
as_save (Err DeleteOff) = Err Off
as_save (Err DeleteLost) = Err PowerLost

-- ---- what the backend answers

abbrev pub fault_of : SetFault → SaveFault
fault_of (SetNoSpace need live) = NoSpace need live
fault_of SetTooMany = TooManyNames
fault_of SetLost = PowerLost

abbrev pub lost_as_save : {T : Type 0} → Result T Lost → Result T SaveFault
lost_as_save (Ok x) = Ok x
lost_as_save (Err lost) = Err PowerLost

-- how many commands a put carried out, by its answer
abbrev pub put_count : Result Bool SaveFault → ℕ
put_count (Ok true) = 1
put_count (Ok false) = 0
put_count (Err fault) = 0
