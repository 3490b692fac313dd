use Rattle.fcb_ring.specs.Standing.{entries_on, record_places}
use Rattle.fcb_ring.proofs.WalkLemmas.{left_at}
use Rattle.migrator.proofs.Choices.{Finds}
use Rattle.migrator.proofs.selecting.last_choice.Given as goal

abbrev pub invariant-loop-at : goal.invariant-loop-at
invariant-loop-at g l = Finds l.map (entries_on (g.F.Flash.device l.flash) l.ring.area) l.at l.last

abbrev pub decreases-loop-at : goal.decreases-loop-at
decreases-loop-at g l = left_at (record_places (entries_on (g.F.Flash.device l.flash) l.ring.area)) l.at
