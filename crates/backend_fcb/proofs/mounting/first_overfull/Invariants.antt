use Rattle.std.proofs.Common.{◌≤◌}
use Rattle.flash_map.specs.Area.{value_limit, unit_of, sectors_of}
use Rattle.backend_fcb.proofs.PutsCosts.{PassedOver}
use Rattle.backend_fcb.proofs.mounting.first_overfull.Given as goal

abbrev pub invariant-loop-sector : goal.invariant-loop-sector
invariant-loop-sector g l = record {
  within : l.sector ≤ l.sector-end;
  passed : PassedOver (value_limit l.ring.area) (unit_of (g.F.Flash.device l.flash) l.ring.area) (sectors_of (g.F.Flash.device l.flash) l.ring.area) l.sector;
}
