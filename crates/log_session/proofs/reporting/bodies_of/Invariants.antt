use Rattle.fcb_ring.specs.Standing.{entries_on, record_places}
use Rattle.fcb_ring.proofs.WalkLemmas.{left_at}
use Rattle.log_session.proofs.WalkSteps.{ReportsTo}
use Rattle.log_session.proofs.reporting.bodies_of.Given as goal

abbrev pub invariant-loop-at : goal.invariant-loop-at
invariant-loop-at g l = ReportsTo (entries_on (g.F.Flash.device l.flash) l.log.ring.area) l.at l.bodies

abbrev pub decreases-loop-at : goal.decreases-loop-at
decreases-loop-at g l = left_at (record_places (entries_on (g.F.Flash.device l.flash) l.log.ring.area)) l.at
