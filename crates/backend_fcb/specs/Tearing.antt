-- What a power loss in a put leaves.
use Rattle.std.specs.Prelude.{◌≡◌, ◌⊎◌, ℕ, Bool, true, false, List, [], Some}
use Rattle.flash_sim.specs.Device.{Device}
use Rattle.flash_sim.specs.declared.flash.Loss.{Loss}
use Rattle.flash_map.specs.Area.{value_limit, unit_of}
use Rattle.flash_map.specs.declared.area.Area.{Area}
use Rattle.fcb_ring.specs.Chance.{chance_on}
use Rattle.fcb_ring.specs.Writing.{spelled, IsChance}
use Rattle.backend_api.specs.Commands.{Command}
use Rattle.backend_api.specs.Commands.Command.{Put, Del}
use Rattle.backend_api.specs.Map.{Map}
use Rattle.record_settings.specs.Settings.{body_of, setting_of, with_setting}
use Rattle.backend_fcb.specs.Standing.{settings_on}

-- the body of the record that a command puts
abbrev pub body_for : Command → List ℕ
body_for (Put name value) = body_of name value
body_for (Del name) = body_of name []

-- so many units of the record with this body check and are another record, and the settings have
-- what that one says
pub record Tears (limit unit : ℕ) (body : List ℕ) (done : ℕ) (before after : Map) : Type 0 where
  pub chance : IsChance unit body done
  pub settings : after ≡ with_setting before (setting_of limit (spelled unit body done))

-- the settings after a torn record, by whether it checks and is another one
abbrev pub CutSettings : ℕ → Bool → ℕ → List ℕ → ℕ → Map → Map → Type 0
CutSettings limit true unit body done before after = Tears limit unit body done before after
CutSettings limit false unit body done before after =
    (after ≡ before) ⊎ (after ≡ with_setting before (setting_of limit body))

-- power was lost while a record with this body was put
pub record StopsPutting (old new : Device) (area : Area) (body : List ℕ) : Type 0 where
  pub loss : Loss
  pub last : new.last_loss ≡ Some loss
  pub settings : CutSettings (value_limit area) (chance_on new area loss) (unit_of old area) body loss.done
      (settings_on old area) (settings_on new area)
