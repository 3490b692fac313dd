use Rattle.std.specs.Option.{ForSome}
use Rattle.fcb_ring.specs.Standing.{entries_on, record_places, IsListed}
use Rattle.flash_map.specs.Area.{value_limit, unit_of}
use Rattle.backend_fcb.proofs.WalkLemmas.{left_at}
use Rattle.backend_fcb.proofs.CostSteps.{Sums}
use Rattle.backend_fcb.proofs.lookup.live_cost.Given as goal

abbrev pub invariant-loop-at : goal.invariant-loop-at
invariant-loop-at g l = record {
  sums : Sums (value_limit l.ring.area) (unit_of (g.F.Flash.device l.flash) l.ring.area) (entries_on (g.F.Flash.device l.flash) l.ring.area) l.at l.live;
  listed : ForSome l.at (IsListed (g.F.Flash.device l.flash) l.ring.area);
}

abbrev pub decreases-loop-at : goal.decreases-loop-at
decreases-loop-at g l = left_at (record_places (entries_on (g.F.Flash.device l.flash) l.ring.area)) l.at
