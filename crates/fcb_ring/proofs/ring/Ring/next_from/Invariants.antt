use Rattle.std.proofs.Common.{◌≡◌, ◌-◌, ◌%◌, ◌≤◌}
use Rattle.std.specs.Prelude.{find}
use Rattle.flash_map.specs.Area.{unit_of, sector_size}
use Rattle.fcb_ring.specs.Changing.{begins_with}
use Rattle.fcb_ring.specs.Standing.{following_on}
use Rattle.fcb_ring.proofs.ring.Ring.next_from.Given as goal

abbrev pub invariant-loop-at : goal.invariant-loop-at
invariant-loop-at g l = record {
  within : l.at ≤ l.self.area.sectors;
  aligned : l.offset % unit_of (g.F.Flash.device l.flash) l.self.area ≡ 0;
  in_sector : l.offset ≤ sector_size (g.F.Flash.device l.flash) l.self.area;
  same : find (begins_with (g.F.Flash.device l.flash) l.self.area l.prefix) (following_on (g.F.Flash.device l.flash) l.self l.at l.offset)
      ≡ find (begins_with (g.F.Flash.device l.flash) l.self.area l.prefix) (following_on (g.F.Flash.device l.flash) l.self l.further l.from);
}

abbrev pub decreases-loop-at : goal.decreases-loop-at
decreases-loop-at g l = l.self.area.sectors - l.at
