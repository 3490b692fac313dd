use Rattle.std.specs.Prelude.{◌≡◌}
use Rattle.fcb_ring.specs.Standing.{StandsOn}
use Rattle.fcb_ring.specs.declared.ring.Stage.TheVariants.{Ready}
use Rattle.library_tests.proofs.rings.goes_through_steps.Given as goal

abbrev pub invariant-loop-what : goal.invariant-loop-what
invariant-loop-what g l = record {
  stands : StandsOn (g.B.Flash.device l.bench) l.ring;
  ready : l.ring.stage ≡ Ready;
}
