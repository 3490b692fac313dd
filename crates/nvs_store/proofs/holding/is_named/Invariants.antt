use Rattle.std.proofs.Common.{◌≡◌, ℕ, ◌+◌, ◌-◌, ◌*◌, ◌<◌, ◌≤◌, true, length}
use Rattle.nvs_store.specs.Geometry.{slot_size}
use Rattle.nvs_store.specs.Holding.{NoneNames}
use Rattle.nvs_store.specs.Sector.{slot_at, is_used}
use Rattle.nvs_store.proofs.holding.is_named.Given as goal

abbrev pub invariant-loop-end : goal.invariant-loop-end
invariant-loop-end l = record {
  at : l.end ≡ length l.bytes - l.index * slot_size l.unit;
  from : 1 + l.skipped ≤ l.index;
  used : (k : ℕ) → 1 + l.skipped ≤ k → k < l.index → is_used (slot_at l.unit l.bytes k) ≡ true;
  none : NoneNames l.unit l.bytes l.id (1 + l.skipped) l.index;
}

abbrev pub decreases-loop-end : goal.decreases-loop-end
decreases-loop-end l = l.end
