use Rattle.std.proofs.Common.{◌≡◌, ℕ, ◌+◌, ◌-◌, ◌*◌, ◌/◌, ◌≤◌, true, length}
use Rattle.nvs_store.specs.Geometry.{slot_size}
use Rattle.nvs_store.specs.Sector.{slot_at, is_used}
use Rattle.nvs_store.proofs.slots.used_count.Given as goal

abbrev pub invariant-loop-end : goal.invariant-loop-end
invariant-loop-end l = record {
  at : l.end ≡ length l.bytes - (l.used + 1) * slot_size l.unit;
  fits : l.used ≤ length l.bytes / slot_size l.unit - 1;
  used : (k : ℕ) → 1 ≤ k → k ≤ l.used → is_used (slot_at l.unit l.bytes k) ≡ true;
}

abbrev pub decreases-loop-end : goal.decreases-loop-end
decreases-loop-end l = l.end
