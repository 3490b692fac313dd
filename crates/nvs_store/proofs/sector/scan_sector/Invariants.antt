use Rattle.std.proofs.Common.{◌≡◌, ◌-◌, ◌*◌, ◌^◌, ◌≤◌, max, map}
use Rattle.std.specs.Prelude.{fold, sum_by}
use Rattle.std.specs.List.{list_any}
use Rattle.flash_map.specs.Units.{padded}
use Rattle.nvs_store.specs.Sector.{entry_end, is_gc_done}
use Rattle.item_laws.proofs.SlotCounts.{slots_to}
use Rattle.nvs_store.specs.Geometry.{slot_size}
use Rattle.nvs_store.proofs.Lookups.{entries_to}
use Rattle.nvs_store.proofs.sector.scan_sector.Given as goal

abbrev pub invariant-loop-index : goal.invariant-loop-index
invariant-loop-index l = record {
  ends : l.ends ≡ fold max 0 (map (entry_end l.unit) (entries_to l.unit l.bytes (l.index - 1)));
  lens : l.lens ≡ sum_by (λ f. padded l.unit f.entry.len) (entries_to l.unit l.bytes (l.index - 1));
  gc_done : l.gc_done ≡ list_any is_gc_done (slots_to 1 (slot_size l.unit) l.bytes (l.index - 1));
  small : l.lens ≤ l.index * 2 ^ 17;
}
