-- What a script makes of the area of a log, with any power losses.
use Rattle.std.specs.Prelude.{◌≡◌, ℕ, true, false, List, length, count_by, Result}
use Rattle.flash_sim.specs.Bank.{IsLawful}
use Rattle.flash_sim.specs.Device.{Device}
use Rattle.flash_map.specs.declared.area.Area.{Area}
use Rattle.flash_map.specs.declared.faults.MountFault.{MountFault}
use Rattle.flash_map.specs.Area.{sectors_of}
use Rattle.flash_map.specs.Units.{is_written}
use Rattle.fcb_ring.specs.declared.ring.Ring.{Ring}
use Rattle.fcb_ring.specs.Standing.{IsRingArea}
use Rattle.event_ring.specs.declared.appending.LogFault.{LogFault}
use Rattle.event_ring.specs.declared.event_log.EventLog.{EventLog}
use Rattle.event_ring.specs.Appending.{is_too_long, drops_for, LogAppends}
use Rattle.event_ring.specs.Room.{IsFull}
use Rattle.event_ring.specs.Standing.{IsOpen, LogMounts}

-- A script of mounts and appends leads from a blank area to this one. Each call may give any of its
-- answers, and may be cut.
pub data IsReached : Area → Device → Type 0 where
  -- nothing was called yet
  Blank :
      (area : Area) (d : Device) → IsLawful d.banks d.bytes → IsRingArea d.banks area
      → count_by is_written (sectors_of d area) ≡ 0 → IsReached area d
  Mounts :
      (area : Area) (old new : Device) (answer : Result EventLog MountFault) → IsReached area old
      → LogMounts old new area answer → IsReached area new
  Appends :
      (area : Area) (old new : Device) (ring after : Ring) (body : List ℕ) (answer : Result ℕ LogFault)
      → IsReached area old
      → IsOpen old ring → ring.area ≡ area → LogAppends old new ring after body answer → IsReached area new
  -- between two calls power may go and come back, and other areas change
  Stays :
      (area : Area) (old new : Device) → IsReached area old → new.banks ≡ old.banks
      → sectors_of new area ≡ sectors_of old area → IsReached area new

-- After any script from a blank area, with any power losses, an append drops the oldest records
-- only if the items cost more than all sectors but one have room for, less the longest record in
-- each.
abbrev pub DropsOnlyWhereFull : Type 0
DropsOnlyWhereFull =
    (d : Device) (ring : Ring) (body : List ℕ) → IsReached ring.area d → IsLawful d.banks d.bytes
    → IsOpen d ring
    → is_too_long ring.area (length body) ≡ false → drops_for d ring body ≡ true → IsFull d ring.area
