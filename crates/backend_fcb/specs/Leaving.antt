-- What a set or delete leaves behind.
use Rattle.std.specs.Prelude.{◌≡◌, Bool, true, false, None}
use Rattle.flash_sim.specs.Device.{Device}
use Rattle.flash_map.specs.On.{on, StandsOn}
use Rattle.fcb_ring.specs.Chance.{chance as chance_of}
use Rattle.backend_api.specs.Commands.{Command, StopsOn}
use Rattle.backend_fcb.specs.Members.{damage_by, settings_by, TearsBy, area_of, StandsBy, is_running}
use Rattle.backend_fcb.specs.declared.backend.FcbBackend.{FcbBackend}

-- The area shows no damage. After a power loss the settings are those that the command leaves when
-- it is cut, and the backend is down. Otherwise the backend stands.
pub record Leaves (old new : Device) (before after : FcbBackend) (command : Command)
    (stopped : Bool) : Type 0 where
  pub sound : on damage_by new (area_of before) ≡ None
  pub cut : old.is_on ≡ true → stopped ≡ true
      → StopsOn chance_of TearsBy settings_by command old new (area_of before)
  pub stands : stopped ≡ false → StandsOn area_of StandsBy new after
  pub down : stopped ≡ true → is_running after ≡ false
