use Rattle.fcb_ring.specs.Standing.{entries_on, record_places}
use Rattle.backend_fcb.proofs.CopySteps.{IsCopying}
use Rattle.backend_fcb.proofs.WalkLemmas.{left_at}
use Rattle.backend_fcb.proofs.collecting.copy_live.Given as goal

abbrev pub invariant-loop-at : goal.invariant-loop-at
invariant-loop-at g l = IsCopying (g.F.Flash.device l.initial.flash) (g.F.Flash.device l.flash) l.initial.ring l.ring l.at

abbrev pub decreases-loop-at : goal.decreases-loop-at
decreases-loop-at g l = left_at (record_places (entries_on (g.F.Flash.device l.flash) l.ring.area)) l.at
