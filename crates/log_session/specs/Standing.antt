-- What holds between two lines.
use Rattle.std.specs.Prelude.{◌≡◌, true, false, Option, Some, None}
use Rattle.flash_sim.specs.Device.{Device}
use Rattle.flash_map.specs.declared.area.Area.{Area}
use Rattle.flash_map.specs.declared.faults.Damaged.{Damaged}
use Rattle.fcb_ring.specs.Standing.{IsRingArea, ring_damage}
use Rattle.event_ring.specs.declared.event_log.EventLog.{EventLog}
use Rattle.event_ring.specs.Standing.{IsOpen}
use Rattle.log_session.specs.declared.session.LogSession.{LogSession}
use Rattle.log_session.specs.LineDone.{turned_on}

-- a log may stand on the area, and its bytes show no damage
pub record IsSound (d : Device) (area : Area) : Type 0 where
  pub is_area : IsRingArea d.banks area
  pub undamaged : ring_damage d area ≡ None

-- while power is on, a log stands on the area and takes records
abbrev pub IsMounted : Device → Area → Option EventLog → Type 0
IsMounted d area None = d.is_on ≡ false
IsMounted d area (Some log) = (log.ring.area ≡ area) × (d.is_on ≡ true → IsOpen d log.ring)

-- the session is ready for the next line
pub record IsReady (d : Device) (session : LogSession) : Type 0 where
  pub sound : IsSound d session.area
  pub mounted : IsMounted d session.area session.log

-- the area's bytes show the damage, and nothing changed, except that power is on
abbrev pub ShowsDamage : Area → Device → Device → Damaged → Type 0
ShowsDamage area old new damaged = (ring_damage old area ≡ Some damaged) × (new ≡ turned_on old)
