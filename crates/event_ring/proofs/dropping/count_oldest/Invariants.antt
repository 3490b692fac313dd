use Rattle.fcb_ring.specs.Standing.{entries_on, record_places}
use Rattle.fcb_ring.proofs.WalkLemmas.{left_at}
use Rattle.event_ring.proofs.CountSteps.{Counts}
use Rattle.event_ring.proofs.dropping.count_oldest.Given as goal

abbrev pub invariant-loop-at : goal.invariant-loop-at
invariant-loop-at g l = Counts (entries_on (g.F.Flash.device l.flash) l.ring.area) l.ring.oldest l.at l.count

abbrev pub decreases-loop-at : goal.decreases-loop-at
decreases-loop-at g l = left_at (record_places (entries_on (g.F.Flash.device l.flash) l.ring.area)) l.at
