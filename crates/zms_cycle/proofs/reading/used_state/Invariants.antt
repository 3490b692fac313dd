use Rattle.std.proofs.Common.{◌≡◌, ◌-◌, ◌*◌, ◌^◌, ◌≤◌, max, map}
use Rattle.std.specs.Prelude.{fold, sum_by}
use Rattle.std.specs.List.{list_any}
use Rattle.item_laws.proofs.SlotCounts.{slots_to}
use Rattle.zms_cycle.specs.Sector.{value_end, data_len, holds_done}
use Rattle.zms_cycle.proofs.Scanning.{entries_to}
use Rattle.zms_cycle.proofs.reading.used_state.Given as goal

abbrev pub invariant-loop-slot : goal.invariant-loop-slot
invariant-loop-slot l = record {
  ends : l.ends ≡ fold max 0 (map value_end (entries_to l.sector (l.slot - 2)));
  lens : l.lens ≡ sum_by (λ f. data_len f.entry.len) (entries_to l.sector (l.slot - 2));
  small : l.lens ≤ (l.slot - 2) * 2 ^ 17;
  done : l.gc_done ≡ list_any holds_done (slots_to 2 16 l.sector (l.slot - 2));
}
