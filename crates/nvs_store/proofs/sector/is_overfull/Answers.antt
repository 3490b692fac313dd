use Rattle.std.proofs.Common.{◌≡◌, ℕ, ◌+◌, ◌-◌, ◌*◌, ◌||◌, Bool, List, length, ltb, refl, sym, ap, ◌∙◌, arith}
use Rattle.std.specs.Prelude.{sum_by}
use Rattle.std.specs.List.{list_any}
use Rattle.nvs_store.specs.declared.scan.SlotEntry.{SlotEntry}
use Rattle.nvs_store.specs.Geometry.{slot_size, capacity}
use Rattle.nvs_store.specs.Sector.{counting_entry, used_slots, low, entry_cost}
use Rattle.nvs_store.proofs.SlotReads.{slot_size_bounds}
use Rattle.item_laws.proofs.SlotWalks.{any_step, sum_step}
use Rattle.nvs_store.proofs.Lookups.{used_inside, entries_to_used, overfull_is}
use Rattle.nvs_store.proofs.sector.is_overfull.Goals as goal
use Rattle.nvs_store.proofs.sector.is_overfull.Goals.{At-loop-index}

pub slot_start-requires-clause-inside : goal.slot_start-requires-clause-inside
slot_start-requires-clause-inside c =
    let size = slot_size_bounds c.args.unit c.requires.unit in
    used_inside c.args.unit c.args.bytes.now c.used_count-used.result (omega arith) (omega arith) (omega arith)

pub counting_entry-found-requires-clause-inside : goal.counting_entry-found-requires-clause-inside
counting_entry-found-requires-clause-inside c =
    let size = slot_size_bounds c.args.unit c.requires.unit in
    used_inside c.args.unit c.args.bytes.now c.loop-index.index (omega arith) (omega arith) (omega arith)

pub loop-index-preserved : goal.loop-index-preserved
loop-index-preserved c = record {
  passes = any_step (counting_entry c.args.unit) 1 (slot_size c.args.unit) c.args.bytes.now (λ f. ltb c.saturating_sub-fence.result (f.entry.offset + f.entry.len)) (c.loop-index.index - 1) c.loop-index.index (c.loop-index.index + 1 - 1) c.counting_entry-found.result c.loop-index.passes c.ends_above-passes.result (omega arith) (omega arith) c.counting_entry-found.ensures c.loop-index.invariant.passes c.ends_above-passes.ensures;
  costs = sum_step (counting_entry c.args.unit) 1 (slot_size c.args.unit) c.args.bytes.now (entry_cost c.args.unit) (c.loop-index.index - 1) c.loop-index.index (c.loop-index.index + 1 - 1) c.counting_entry-found.result c.loop-index.costs c.data_cost-costs.result (omega arith) (omega arith) c.counting_entry-found.ensures c.loop-index.invariant.costs c.data_cost-costs.ensures.value;
  small = omega (arith, c.data_cost-costs.ensures.small);
}

pub returns-then-passes : goal.returns-then-passes
returns-then-passes c =
    let unit : ℕ = c.args.unit in
    let b : List ℕ = c.args.bytes.now in
    let used : c.loop-index.index - 1 ≡ length (used_slots unit b) = omega arith in
    let all = entries_to_used unit b (c.loop-index.index - 1) used in
    let lower : c.slot_start.result ≡ low unit b = c.slot_start.ensures ∙ ap (λ (n : ℕ). length b - (n + 1) * slot_size unit) c.used_count-used.ensures.count in
    let fence : c.saturating_sub-fence.result ≡ low unit b - slot_size unit = omega (arith, lower) in
    c.if-passes.true ∙ sym (ap (λ (t : Bool). t || ltb (capacity unit (length b)) c.loop-index.costs) c.if-passes.true)
    ∙ overfull_is unit b c.saturating_sub-fence.result (capacity unit (length b)) c.loop-index.costs c.loop-index.passes fence refl
    (c.loop-index.invariant.passes ∙ ap (list_any (λ (f : SlotEntry). ltb c.saturating_sub-fence.result (f.entry.offset + f.entry.len))) all) (c.loop-index.invariant.costs ∙ ap (sum_by (entry_cost unit)) all)

pub returns-else-passes : goal.returns-else-passes
returns-else-passes c =
    let unit : ℕ = c.args.unit in
    let b : List ℕ = c.args.bytes.now in
    let used : c.loop-index.index - 1 ≡ length (used_slots unit b) = omega arith in
    let all = entries_to_used unit b (c.loop-index.index - 1) used in
    let lower : c.slot_start.result ≡ low unit b = c.slot_start.ensures ∙ ap (λ (n : ℕ). length b - (n + 1) * slot_size unit) c.used_count-used.ensures.count in
    let fence : c.saturating_sub-fence.result ≡ low unit b - slot_size unit = omega (arith, lower) in
    sym (ap (λ (t : Bool). t || ltb c.from.result c.loop-index.costs) c.if-passes.false)
    ∙ overfull_is unit b c.saturating_sub-fence.result c.from.result c.loop-index.costs c.loop-index.passes fence (c.from.ensures ∙ c.capacity.ensures)
    (c.loop-index.invariant.passes ∙ ap (list_any (λ (f : SlotEntry). ltb c.saturating_sub-fence.result (f.entry.offset + f.entry.len))) all) (c.loop-index.invariant.costs ∙ ap (sum_by (entry_cost unit)) all)
