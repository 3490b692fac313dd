-- What a command spends.
use Rattle.std.specs.Prelude.{◌≡◌, ℕ, ◌+◌, ◌*◌, Bool, true, Result, OnOk}
use Rattle.flash_sim.specs.Device.{Device}
use Rattle.flash_map.specs.Area.{geometry_of}
use Rattle.flash_map.specs.Spending.{Spends, SpendsAtMost}
use Rattle.flash_map.specs.declared.area.Area.{Area}
use Rattle.backend_api.specs.Boot.{CommandUnits}
use Rattle.backend_api.specs.Commands.{Command, applied}
use Rattle.backend_api.specs.Commands.Command.{Put, Del}
use Rattle.backend_api.specs.Room.{command_units}
use Rattle.fcb_ring.specs.Standing.{erases_on}
use Rattle.backend_fcb.specs.Changing.{SpendsCost, SpendsUpToCost, collect_units}
use Rattle.backend_fcb.specs.Members.{OwesBy}
use Rattle.backend_fcb.specs.Standing.{settings_on}
use Rattle.backend_fcb.specs.Tearing.{body_for}
use Rattle.backend_fcb.specs.declared.backend.FcbBackend.{FcbBackend}

-- the room that its record leaves: a delete may use the reserve
abbrev pub room_left : FcbBackend → Command → ℕ
room_left backend (Put name value) = backend.ring.reserve
room_left backend (Del name) = 0

-- If it changes the settings, and its record fits behind those of the newest sector, exactly the
-- units of that record were spent.
abbrev pub SpendsCostOf : Device → Device → FcbBackend → Command → Type 0
SpendsCostOf old new backend command =
    ¬ (applied (settings_on old backend.ring.area) command ≡ settings_on old backend.ring.area)
    → SpendsCost old new backend.ring (body_for command) (room_left backend command)

-- If its record fits there, no more than the units of that record were spent.
abbrev pub SpendsUpToCostOf : Device → Device → FcbBackend → Command → Type 0
SpendsUpToCostOf old new backend command =
    SpendsUpToCost old new backend.ring (body_for command) (room_left backend command)

-- No more was spent than so many collections and one append take.
abbrev pub SpendsRounds : Device → Device → FcbBackend → ℕ → Type 0
SpendsRounds old new backend rounds = SpendsAtMost old new ((rounds + 1) * collect_units old backend.ring)

-- What a set or delete spends: never more than any command may in an area of this geometry. If it was
-- cut, it leaves one erase to the next mount. If its record fits behind those of the newest sector,
-- exactly the units of that record, and no more up to a power loss. In any case no more than so many
-- collections and one append take.
pub record SpendsFor {X E : Type 0} (old new : Device) (backend : FcbBackend) (command : Command)
    (rounds : ℕ) (result : Result X E) (stopped : Bool) : Type 0 where
  pub units :
      let area = backend.ring.area in
      CommandUnits OwesBy 1 (command_units (geometry_of old area)) old new area stopped
  pub exact : OnOk result (SpendsCostOf old new backend command)
  pub no_more : stopped ≡ true → SpendsUpToCostOf old new backend command
  pub few : SpendsRounds old new backend rounds

-- A mount spends exactly the erases that are due, and no more up to a power loss.
pub record SpendsErases {X E : Type 0} (old new : Device) (area : Area) (result : Result X E) : Type 0 where
  pub exact : OnOk result (Spends old new (erases_on old area))
  pub few : SpendsAtMost old new (erases_on old area)
