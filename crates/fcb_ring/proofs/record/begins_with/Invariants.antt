use Rattle.std.proofs.Common.{◌≡◌, ◌≤◌, ◌<◌, ℕ, length, get_or}
use Rattle.fcb_ring.proofs.record.begins_with.Given as goal

abbrev pub invariant-loop-left : goal.invariant-loop-left
invariant-loop-left l = record {
  at_most : l.left ≤ length l.prefix;
  same : (k : ℕ) → l.left ≤ k → k < length l.prefix → get_or l.body k 0 ≡ get_or l.prefix k 0;
}

abbrev pub decreases-loop-left : goal.decreases-loop-left
decreases-loop-left l = l.left
