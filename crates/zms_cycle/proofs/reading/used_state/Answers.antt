use Rattle.std.proofs.Common.{◌≡◌, ℕ, ◌+◌, ◌-◌, max, map, Bool, ◌||◌, Some, sym, ap, ◌∙◌, arith}
use Rattle.std.specs.Prelude.{fold, sum_by}
use Rattle.std.specs.List.{list_any}
use Rattle.item_laws.proofs.SlotCounts.{slots_to}
use Rattle.zms_cycle.specs.declared.reading.SectorState.TheVariants.{Used}
use Rattle.zms_cycle.specs.Sector.{value_end, data_len, holds_done}
use Rattle.zms_cycle.proofs.Scanning.{entries_to, found_is, ends_step, lens_step, done_step, state_is, used_some, listed_count}
use Rattle.zms_cycle.proofs.reading.used_state.Goals as goal

pub written-written-requires-clause-used : goal.written-written-requires-clause-used
written-written-requires-clause-used c = used_some c.args.sector.now c.args.cycle c.requires.cycle

pub written-written-requires-clause-slots : goal.written-written-requires-clause-slots
written-written-requires-clause-slots c = listed_count c.args.sector.now c.args.cycle c.valid_count-slots.result c.requires.cycle c.valid_count-slots.ensures.count

pub loop-slot-preserved : goal.loop-slot-preserved
loop-slot-preserved c =
    let kept = c.loop-slot.invariant in
    let next : c.loop-slot.slot - 2 + 1 ≡ c.loop-slot.slot + 1 - 2 = omega arith in
    let found = found_is c.args.sector.now c.loop-slot.slot (Some c.listed_at.result) c.ordinary-found.result (sym c.listed_at.ensures) c.ordinary-found.ensures in
    record {
      ends = c.max-ends.ensures ∙ ap (λ (n : ℕ). max n c.loop-slot.ends) c.end_of.ensures.value
          ∙ ends_step c.args.sector.now (c.loop-slot.slot - 2) c.loop-slot.slot c.ordinary-found.result c.loop-slot.ends (omega arith) found kept.ends
          ∙ ap (λ (n : ℕ). fold max 0 (map value_end (entries_to c.args.sector.now n))) next;
      lens = ap (λ (n : ℕ). c.loop-slot.lens + n) c.len_of-lens.ensures.value
          ∙ lens_step c.args.sector.now (c.loop-slot.slot - 2) c.loop-slot.slot c.ordinary-found.result c.loop-slot.lens (omega arith) found kept.lens
          ∙ ap (λ (n : ℕ). sum_by (λ f. data_len f.entry.len) (entries_to c.args.sector.now n)) next;
      small = omega (arith, kept.small);
      done = ap (λ (t : Bool). c.loop-slot.gc_done || t) c.holds_done-gc_done.ensures
          ∙ done_step c.args.sector.now (c.loop-slot.slot - 2) c.loop-slot.slot (Some c.listed_at.result) c.loop-slot.gc_done (omega arith) (sym c.listed_at.ensures) kept.done
          ∙ ap (λ (n : ℕ). list_any holds_done (slots_to 2 16 c.args.sector.now n)) next;
    }

pub returns : goal.returns
returns c =
    let kept = c.loop-slot.invariant in
    let n : c.loop-slot.slot - 2 ≡ c.valid_count-slots.result = omega arith in
    ap (λ (k : ℕ). Used c.args.cycle c.is_closed.result c.valid_count-slots.result k c.loop-slot.gc_done) (omega arith)
    ∙ state_is c.args.kind c.args.sector.now c.args.cycle c.valid_count-slots.result c.loop-slot.ends c.loop-slot.lens c.written-written.result c.is_closed.result c.loop-slot.gc_done c.requires.cycle c.is_closed.ensures c.valid_count-slots.ensures.count
    (kept.ends ∙ ap (λ (k : ℕ). fold max 0 (map value_end (entries_to c.args.sector.now k))) n)
    (kept.lens ∙ ap (λ (k : ℕ). sum_by (λ f. data_len f.entry.len) (entries_to c.args.sector.now k)) n)
    c.written-written.ensures.value
    (kept.done ∙ ap (λ (k : ℕ). list_any holds_done (slots_to 2 16 c.args.sector.now k)) n)
