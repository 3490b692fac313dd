use Rattle.std.specs.Option.{ForSome}
use Rattle.fcb_ring.specs.Standing.{IsListed}
use Rattle.library_tests.proofs.rings.summary.Given as goal

abbrev pub invariant-loop-count : goal.invariant-loop-count
invariant-loop-count g l = ForSome l.after (IsListed (g.F.Flash.device l.flash) l.ring.area)
