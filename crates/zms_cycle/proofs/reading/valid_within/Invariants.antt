use Rattle.std.proofs.Common.{◌≡◌, ℕ, ◌+◌, ◌<◌, ◌≤◌, true, Some}
use Rattle.zms_cycle.specs.Sector.{slot_of, is_valid}
use Rattle.zms_cycle.proofs.reading.valid_within.Given as goal

abbrev pub invariant-loop-valid : goal.invariant-loop-valid
invariant-loop-valid l = record { passed : (k : ℕ) → 2 ≤ k → k < l.valid + 2 → is_valid (Some l.cycle) (slot_of l.sector k) ≡ true }
