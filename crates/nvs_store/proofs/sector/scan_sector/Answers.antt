use Rattle.std.proofs.Common.{◌≡◌, ℕ, ◌+◌, ◌-◌, ◌*◌, max, map, take, List, length, ap, ◌∙◌, sym, arith}
use Rattle.std.specs.Prelude.{fold, sum_by}
use Rattle.std.specs.List.{list_any}
use Rattle.nvs_store.specs.declared.scan.SlotEntry.{SlotEntry}
use Rattle.nvs_store.specs.Geometry.{slot_size}
use Rattle.flash_map.specs.Units.{padded}
use Rattle.nvs_store.specs.Sector.{counting_entry, is_gc_done, is_used, used_slots, low, data_end, entry_end}
use Rattle.nvs_store.proofs.SlotReads.{slot_size_bounds}
use Rattle.nvs_store.proofs.Lookups.{used_inside, entries_to_used, data_end_is}
use Rattle.item_laws.proofs.SlotCounts.{slots_to_used}
use Rattle.item_laws.proofs.SlotWalks.{most_step, slot_step, sum_step}
use Rattle.item_laws.proofs.SlotLemmas.{factor_le}
use Rattle.nvs_store.proofs.ScanLemmas.{scan_is}
use Rattle.nvs_store.proofs.sector.scan_sector.Goals as goal
use Rattle.nvs_store.proofs.sector.scan_sector.Goals.{After-max-2}

pub slot_start-low-requires-clause-inside : goal.slot_start-low-requires-clause-inside
slot_start-low-requires-clause-inside c =
    let size = slot_size_bounds c.args.unit c.requires.unit in
    used_inside c.args.unit c.args.bytes.now c.used_count-used.result (omega arith) (omega arith) (omega arith)

pub counting_entry-found-requires-clause-inside : goal.counting_entry-found-requires-clause-inside
counting_entry-found-requires-clause-inside c =
    let size = slot_size_bounds c.args.unit c.requires.unit in
    used_inside c.args.unit c.args.bytes.now c.loop-index.index (omega arith) (omega arith) (omega arith)

pub is_gc_done-gc_done-requires-clause-inside : goal.is_gc_done-gc_done-requires-clause-inside
is_gc_done-gc_done-requires-clause-inside c =
    let size = slot_size_bounds c.args.unit c.requires.unit in
    used_inside c.args.unit c.args.bytes.now c.loop-index.index (omega arith) (omega arith) (omega arith)

pub overflow_add-lens : goal.overflow_add-lens
overflow_add-lens c =
    let size = slot_size_bounds c.args.unit c.requires.unit in
    let inside = used_inside c.args.unit c.args.bytes.now c.loop-index.index (omega arith) (omega arith) (omega arith) in
    omega (arith, factor_le (c.loop-index.index + 1) (slot_size c.args.unit) (length c.args.bytes.now) (omega arith) inside)

pub loop-index-preserved : goal.loop-index-preserved
loop-index-preserved c =
    let ends : max c.end_of.result c.loop-index.ends ≡ _ = most_step (counting_entry c.args.unit) 1 (slot_size c.args.unit) c.args.bytes.now (entry_end c.args.unit) (c.loop-index.index - 1) c.loop-index.index (c.loop-index.index + 1 - 1) c.counting_entry-found.result c.loop-index.ends c.end_of.result (omega arith) (omega arith) c.counting_entry-found.ensures c.loop-index.invariant.ends c.end_of.ensures.value in
    record {
      ends = c.max-ends.ensures ∙ ends;
      lens = sum_step (counting_entry c.args.unit) 1 (slot_size c.args.unit) c.args.bytes.now (λ f. padded c.args.unit f.entry.len) (c.loop-index.index - 1) c.loop-index.index (c.loop-index.index + 1 - 1) c.counting_entry-found.result c.loop-index.lens c.len_of-lens.result (omega arith) (omega arith) c.counting_entry-found.ensures c.loop-index.invariant.lens c.len_of-lens.ensures.value;
      gc_done = slot_step is_gc_done 1 (slot_size c.args.unit) c.args.bytes.now (c.loop-index.index - 1) c.loop-index.index (c.loop-index.index + 1 - 1) c.loop-index.gc_done c.is_gc_done-gc_done.result (omega arith) (omega arith) c.loop-index.invariant.gc_done c.is_gc_done-gc_done.ensures;
      small = omega (arith, c.len_of-lens.ensures.small);
    }

data_end-is : (c : After-max-2) → c.max-2.result ≡ data_end c.args.unit c.args.bytes.now
data_end-is c =
    let size = slot_size_bounds c.args.unit c.requires.unit in
    let used : c.loop-index.index - 1 ≡ length (used_slots c.args.unit c.args.bytes.now) = omega arith in
    let all = entries_to_used c.args.unit c.args.bytes.now (c.loop-index.index - 1) used in
    let count : length (used_slots c.args.unit c.args.bytes.now) ≡ c.used_count-used.result = sym c.used_count-used.ensures.count in
    let lower : c.slot_start-low.result ≡ low c.args.unit c.args.bytes.now = c.slot_start-low.ensures ∙ ap (λ (n : ℕ). length c.args.bytes.now - (n + 1) * slot_size c.args.unit) c.used_count-used.ensures.count in
    let fence : c.saturating_sub.result ≡ low c.args.unit c.args.bytes.now - slot_size c.args.unit = omega (arith, lower) in
    c.max-2.ensures ∙ ap (max c.padded-written.result) c.max.ensures
    ∙ data_end_is c.args.unit c.args.bytes.now _ c.trimmed_len.result c.padded-written.result c.loop-index.ends c.loop-index.lens (omega arith) (ap (λ (n : ℕ). take n c.args.bytes.now) fence) c.trimmed_len.ensures c.padded-written.ensures.value
    (c.loop-index.invariant.ends ∙ ap (λ (fs : List SlotEntry). fold max 0 (map (entry_end c.args.unit) fs)) all) (c.loop-index.invariant.lens ∙ ap (sum_by (λ f. padded c.args.unit f.entry.len)) all)

pub returns : goal.returns
returns c =
    let used : c.loop-index.index - 1 ≡ length (used_slots c.args.unit c.args.bytes.now) = omega arith in
    scan_is c.args.unit c.args.place c.args.bytes.now c.slot_start-low.result c.max-2.result c.loop-index.gc_done
    (c.slot_start-low.ensures ∙ ap (λ (n : ℕ). length c.args.bytes.now - (n + 1) * slot_size c.args.unit) c.used_count-used.ensures.count) (data_end-is c)
    (c.loop-index.invariant.gc_done ∙ ap (list_any is_gc_done) (slots_to_used is_used 1 (slot_size c.args.unit) c.args.bytes.now (c.loop-index.index - 1) used))
