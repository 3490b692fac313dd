use Rattle.fcb_ring.specs.Standing.{entries_on, record_places}
use Rattle.flash_map.specs.Area.{value_limit, unit_of}
use Rattle.backend_fcb.proofs.WalkLemmas.{left_at}
use Rattle.backend_fcb.proofs.CostSteps.{SumsOf}
use Rattle.backend_fcb.proofs.mounting.costs.Given as goal

abbrev pub invariant-loop-at : goal.invariant-loop-at
invariant-loop-at g l = SumsOf (value_limit l.ring.area) (unit_of (g.F.Flash.device l.flash) l.ring.area) (entries_on (g.F.Flash.device l.flash) l.ring.area) l.at l.costs

abbrev pub decreases-loop-at : goal.decreases-loop-at
decreases-loop-at g l = left_at (record_places (entries_on (g.F.Flash.device l.flash) l.ring.area)) l.at
