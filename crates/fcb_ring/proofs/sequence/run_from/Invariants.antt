use Rattle.std.proofs.Common.{◌≡◌, ℕ, ◌<◌, ◌≤◌, false}
use Rattle.fcb_ring.specs.Rings.{opens_run}
use Rattle.fcb_ring.proofs.sequence.run_from.Given as goal

abbrev pub invariant-loop-place : goal.invariant-loop-place
invariant-loop-place l = (k : ℕ) → l.from ≤ k → k < l.place → opens_run l.states k ≡ false
