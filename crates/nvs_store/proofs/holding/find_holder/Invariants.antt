use Rattle.std.proofs.Common.{◌≡◌, ◌+◌, ◌-◌, ◌*◌, ◌≤◌, length}
use Rattle.nvs_store.specs.Geometry.{slot_size}
use Rattle.nvs_store.specs.Sector.{used_slots}
use Rattle.nvs_store.specs.Holding.{NoneHolds}
use Rattle.nvs_store.proofs.holding.find_holder.Given as goal

abbrev pub invariant-loop-end : goal.invariant-loop-end
invariant-loop-end l = record {
  at : l.end ≡ length l.bytes - l.index * slot_size l.unit;
  from : 1 + l.skipped ≤ l.index;
  listed : l.index ≤ 1 + length (used_slots l.unit l.bytes);
  none : NoneHolds l.unit l.bytes l.least l.most l.wanted (1 + l.skipped) l.index;
}

abbrev pub decreases-loop-end : goal.decreases-loop-end
decreases-loop-end l = l.end
