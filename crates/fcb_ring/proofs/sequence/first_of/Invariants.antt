use Rattle.std.proofs.Common.{◌≡◌, ℕ, ◌<◌, ◌≤◌, false}
use Rattle.fcb_ring.specs.Rings.{shows}
use Rattle.fcb_ring.proofs.sequence.first_of.Given as goal

abbrev pub invariant-loop-place : goal.invariant-loop-place
invariant-loop-place l = (k : ℕ) → 0 ≤ k → k < l.place → shows l.why l.states k ≡ false
