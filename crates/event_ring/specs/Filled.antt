-- When a log is full. No other log drops records.
use Rattle.std.specs.Prelude.{◌≡◌, ℕ, true, false, List, length, count_by}
use Rattle.flash_sim.specs.Bank.{IsLawful}
use Rattle.flash_sim.specs.Device.{Device}
use Rattle.flash_map.specs.declared.area.Area.{Area}
use Rattle.flash_map.specs.Area.{sectors_of}
use Rattle.flash_map.specs.Units.{is_written}
use Rattle.fcb_ring.specs.declared.ring.Ring.{Ring}
use Rattle.fcb_ring.specs.Entries.{bodies}
use Rattle.fcb_ring.specs.Standing.{IsRingArea, entries_on}
use Rattle.event_ring.specs.Items.{log_on}
use Rattle.event_ring.specs.Standing.{IsOpen}
use Rattle.event_ring.specs.Appending.{is_too_long, drops_for}
use Rattle.event_ring.specs.Room.{IsFilled, IsFull}

-- a blank area is filled, since no sector of it counts
abbrev pub BlankIsFilled : Type 0
BlankIsFilled =
    (d : Device) (area : Area) → IsLawful d.banks d.bytes → IsRingArea d.banks area
    → count_by is_written (sectors_of d area) ≡ 0 → IsFilled d area

-- In a filled log an append drops the oldest records only if the items cost more than all sectors
-- but one have room for, less the longest record in each.
abbrev pub DropsWhereFull : Type 0
DropsWhereFull =
    (d : Device) (ring : Ring) (body : List ℕ) → IsLawful d.banks d.bytes → IsOpen d ring
    → IsFilled d ring.area
    → is_too_long ring.area (length body) ≡ false → drops_for d ring body ≡ true → IsFull d ring.area

-- the log is that of the records that check
abbrev pub LogIsOfRecords : Type 0
LogIsOfRecords = (d : Device) (area : Area) → log_on d area ≡ bodies (entries_on d area)
