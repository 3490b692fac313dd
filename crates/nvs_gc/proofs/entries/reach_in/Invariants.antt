use Rattle.std.proofs.Common.{◌≡◌, ◌+◌, ◌*◌, ◌≤◌, length}
use Rattle.nvs_store.specs.Geometry.{slot_size}
use Rattle.nvs_format.specs.Formats.{format_in}
use Rattle.item_store.specs.Lasts.{AreOthers}
use Rattle.nvs_gc.proofs.entries.reach_in.Given as goal

abbrev pub invariant-loop-left : goal.invariant-loop-left
invariant-loop-left l = record {
  inside : l.left ≤ l.slots;
  size : l.size ≡ slot_size l.unit;
  at : l.start + (l.left + 1) * slot_size l.unit ≡ length l.bytes;
  others : AreOthers (format_in l.unit) l.bytes l.left l.slots l.least l.most;
}

abbrev pub decreases-loop-left : goal.decreases-loop-left
decreases-loop-left l = l.left
