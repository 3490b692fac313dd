-- When a log stands on its area, and how it is mounted.
use Rattle.std.specs.Prelude.{◌≡◌, Result, Ok, Err, None, Some}
use Rattle.flash_sim.specs.Device.{Device}
use Rattle.flash_map.specs.declared.area.Area.{Area}
use Rattle.flash_map.specs.declared.faults.MountFault.{MountFault}
use Rattle.flash_map.specs.declared.faults.MountFault.TheVariants.{Damaged as HasDamage, PowerLost as MountLost, NoMemory}
use Rattle.flash_map.specs.Spending.{Spends, SpendsAtMost}
use Rattle.fcb_ring.specs.declared.ring.Ring.{Ring}
use Rattle.fcb_ring.specs.declared.ring.Stage.TheVariants.{Ready}
use Rattle.fcb_ring.specs.Standing.{StandsOn, ring_damage, erases_on}
use Rattle.event_ring.specs.declared.event_log.EventLog.{EventLog}
use Rattle.event_ring.specs.Items.{items_on}
use Rattle.event_ring.specs.Room.{IsFilled}

-- a ring that takes records, and keeps no room in its sectors
pub record IsOpen (d : Device) (ring : Ring) : Type 0 where
  pub stands : StandsOn d ring
  pub ready : ring.stage ≡ Ready
  pub reserve : ring.reserve ≡ 0

-- The area is not damaged, and holds the same items. If no sector but the newest had room for the
-- longest record, no sector but the newest has it.
pub record KeepsItems (old new : Device) (area : Area) : Type 0 where
  pub undamaged : ring_damage new area ≡ None
  pub items : items_on new area ≡ items_on old area
  pub filled : IsFilled old area → IsFilled new area

-- How a mount ends. If the area is damaged, nothing changed. Otherwise its items stay.
abbrev pub LogMounts : Device → Device → Area → Result EventLog MountFault → Type 0
LogMounts old new area (Ok log) =
    (ring_damage old area ≡ None) × IsOpen new log.ring × (log.ring.area ≡ area) × KeepsItems old new area
    × Spends old new (erases_on old area)
LogMounts old new area (Err (HasDamage damaged)) = (ring_damage old area ≡ Some damaged) × (new ≡ old)
LogMounts old new area (Err MountLost) =
    (ring_damage old area ≡ None) × KeepsItems old new area × SpendsAtMost old new (erases_on old area)
LogMounts old new area (Err NoMemory) = ⊥
