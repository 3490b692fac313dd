use Rattle.std.specs.Option.{option_map}
use Rattle.flash_map.specs.Area.{value_limit}
use Rattle.fcb_ring.specs.Standing.{entries_on, record_places}
use Rattle.backend_fcb.proofs.NameSteps.{Leasts, said}
use Rattle.backend_fcb.proofs.WalkLemmas.{left_at}
use Rattle.backend_fcb.proofs.names.least_setting.Given as goal

abbrev pub invariant-loop-at : goal.invariant-loop-at
invariant-loop-at g l = Leasts (value_limit l.ring.area) (entries_on (g.F.Flash.device l.flash) l.ring.area) (option_map (λ other. other.now) l.after) l.at (said l.least)

abbrev pub decreases-loop-at : goal.decreases-loop-at
decreases-loop-at g l = left_at (record_places (entries_on (g.F.Flash.device l.flash) l.ring.area)) l.at
