use Rattle.std.proofs.Common.{◌≡◌, ℕ, ◌<◌, length, false}
use Rattle.fcb_ring.specs.Rings.{state_at, turned}
use Rattle.fcb_ring.proofs.sequence.used_from.Given as goal

abbrev pub invariant-loop-used : goal.invariant-loop-used
invariant-loop-used l = (k : ℕ) → k < l.used → (state_at l.states (turned (length l.states) l.oldest k)).is_free ≡ false
