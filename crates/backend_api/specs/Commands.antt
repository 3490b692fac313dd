-- Commands on settings, and what one that was cut leaves.
use Rattle.std.specs.Prelude.{◌≡◌, ◌⊎◌, ℕ, ◌≤◌, Bool, true, false, List, length, map, take, fold, Some}
use Rattle.std.specs.FinMap.{insert, remove}
use Rattle.flash_sim.specs.Device.{Device}
use Rattle.flash_sim.specs.declared.flash.Loss.{Loss}
use Rattle.flash_map.specs.Area.{geometry_of}
use Rattle.flash_map.specs.On.{on}
use Rattle.flash_map.specs.declared.area.Area.{Area}
use Rattle.flash_map.specs.declared.area.Geometry.{Geometry}
use Rattle.backend_api.specs.Map.{Map}

-- a name is given a value, or loses its value
pub data Command : Type 0 where
  Put : List ℕ → List ℕ → Command
  Del : List ℕ → Command

-- the settings after a command
abbrev pub applied : Map → Command → Map
applied settings (Put name value) = insert settings name value
applied settings (Del name) = remove settings name

-- the settings after all of these commands, in their order
unfoldable pub all_applied : Map → List Command → Map
all_applied settings commands = fold applied settings commands

-- the settings after the first so many of them
pub record IsPartApplied (before : Map) (commands : List Command) (after : Map) : Type 0 where
  pub done : ℕ
  pub within : done ≤ length commands
  pub settings : after ≡ all_applied before (take done commands)

-- a put of each of these pairs
abbrev pub puts_of : List (List ℕ × List ℕ) → List Command
puts_of pairs = map (λ pair. Put pair.0 pair.1) pairs

-- The settings after a command that was cut: by chance what the units that were put spell;
-- otherwise the old ones or the new ones.
abbrev pub CutMap : Bool → (Map → Map → Type 0) → Command → Map → Map → Type 0
CutMap true tears command before after = tears before after
CutMap false tears command before after = (after ≡ before) ⊎ (after ≡ applied before command)

-- Power was lost in the command. `chance` says whether the units that were put spell another
-- record, and `tears` which settings so many units leave then.
pub record StopsAt (chance : Loss → Bool) (tears : ℕ → Map → Map → Type 0) (command : Command) (new : Device)
    (before after : Map) : Type 0 where
  pub loss : Loss
  pub last : new.last_loss ≡ Some loss
  pub settings : CutMap (chance loss) (tears loss.done) command before after

-- power was lost in the command on this area
abbrev pub StopsOn : (Area → Geometry → List (List ℕ) → Loss → Bool)
    → (Area → Geometry → Command → ℕ → Map → Map → Type 0) → (Area → Geometry → List (List ℕ) → Map)
    → Command → Device → Device → Area → Type 0
StopsOn chance tears contents command old new area =
    StopsAt (on chance new area) (tears area (geometry_of old area) command) command new
    (on contents old area) (on contents new area)
