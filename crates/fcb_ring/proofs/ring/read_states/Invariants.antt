use Rattle.std.proofs.Common.{◌≡◌, ◌≤◌, map, take}
use Rattle.flash_map.specs.Area.{unit_of, sectors_of}
use Rattle.fcb_ring.specs.SectorStates.{state_of}
use Rattle.fcb_ring.proofs.ring.read_states.Given as goal

abbrev pub invariant-loop-sector : goal.invariant-loop-sector
invariant-loop-sector g l = record {
  within : l.sector ≤ l.sector-end;
  so_far : l.states.items ≡ map (state_of (unit_of (g.F.Flash.device l.flash) l.area)) (take l.sector (sectors_of (g.F.Flash.device l.flash) l.area));
}
