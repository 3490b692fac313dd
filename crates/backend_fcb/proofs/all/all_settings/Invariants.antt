use Rattle.flash_map.specs.Area.{value_limit}
use Rattle.fcb_ring.specs.Standing.{entries_on, record_places}
use Rattle.backend_fcb.proofs.AllSteps.{Gathers}
use Rattle.backend_fcb.proofs.WalkLemmas.{left_at}
use Rattle.backend_fcb.proofs.all.all_settings.Given as goal

abbrev pub invariant-loop-at : goal.invariant-loop-at
invariant-loop-at g l = Gathers (value_limit l.ring.area) (entries_on (g.F.Flash.device l.flash) l.ring.area) l.at l.found

abbrev pub decreases-loop-at : goal.decreases-loop-at
decreases-loop-at g l = left_at (record_places (entries_on (g.F.Flash.device l.flash) l.ring.area)) l.at
