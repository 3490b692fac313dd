use Rattle.std.proofs.Common.{◌≡◌, ℕ, true, Some, None, List, ap, subst, ◌+◌, ◌-◌, ◌*◌, length, ◌∙◌, arith}
use Rattle.std.specs.Prelude.{slice_range}
use Rattle.nvs_store.specs.Sector.{slot_at, is_used}
use Rattle.nvs_store.proofs.Holders.{HoldsAt, used_before, used_after, stands_here, next_end, bytes_here, all_used, not_given, same_bytes, none_more, first_here}
use Rattle.nvs_store.proofs.LastLemmas.{few_slots}
use Rattle.nvs_store.proofs.Lookups.{used_read}
use Rattle.nvs_store.proofs.holding.find_holder.Goals as goal
use Rattle.nvs_store.proofs.holding.find_holder.Goals.{then-gives+in_default, else-gives}

pub overflow_add-index : goal.overflow_add-index
overflow_add-index c =
    let few = few_slots c.args.unit c.args.bytes.now in
    omega (arith, few, c.requires.listed, c.requires.short)

pub loop-end-init : goal.loop-end-init
loop-end-init c = record {
  at = c.saturating_sub-end.ensures ∙ ap (λ (n : ℕ). length c.args.bytes.now - (c.args.skipped + 1) * n) c.slot_size-size.ensures.size;
  from = omega arith;
  listed = omega (arith, c.requires.listed);
  none = λ slot f from to. absurd (omega (arith, from, to));
}

pub returns-then-not-is_used : goal.returns-then-not-is_used
returns-then-not-is_used c =
    let b : List ℕ = c.args.bytes.now in
    let own = bytes_here c.args.unit b c.loop-end.index c.loop-end.end c.slot_size-size.result c.requires.unit c.slot_size-size.ensures.size c.loop-end.invariant.at c.loop-end-test.true in
    let unused = used_read c.args.unit b c.loop-end.index (slice_range b (c.loop-end.end - c.slot_size-size.result) c.loop-end.end) c.is_used.result own c.is_used.ensures ∙ c.if-not-is_used.true in
    let ends = used_before c.args.unit b c.loop-end.index (omega (arith, c.loop-end.invariant.from)) unused in
    λ slot f from to. c.loop-end.invariant.none slot f from (omega (arith, to, ends))

pub returns-in-Some : goal.returns-in-Some
returns-in-Some c =
    let b : List ℕ = c.args.bytes.now in
    let own = bytes_here c.args.unit b c.loop-end.index c.loop-end.end c.slot_size-size.result c.requires.unit c.slot_size-size.ensures.size c.loop-end.invariant.at c.loop-end-test.true in
    let inside = stands_here c.args.unit b c.loop-end.index c.loop-end.end c.slot_size-size.result c.requires.unit c.slot_size-size.ensures.size c.loop-end.invariant.at c.loop-end-test.true in
    let used : is_used (slot_at c.args.unit b c.loop-end.index) ≡ true = used_read c.args.unit b c.loop-end.index (slice_range b (c.loop-end.end - c.slot_size-size.result) c.loop-end.end) c.is_used.result own c.is_used.ensures ∙ c.if-not-is_used.false in
    let more = used_after c.args.unit b c.loop-end.index c.requires.unit c.loop-end.invariant.listed inside used in
    first_here c.args.unit b c.args.least c.args.most c.args.wanted.now (1 + c.args.skipped) c.loop-end.index c.in-Some.found c.loop-end.invariant.from (omega (arith, more)) c.loop-end.invariant.none
    (same_bytes c.args.unit b c.loop-end.index (slice_range b (c.loop-end.end - c.slot_size-size.result) c.loop-end.end) own c.args.least c.args.most c.args.wanted.now (c.gives.ensures.candidate c.if-gives.true) (c.gives.ensures.same c.if-gives.true) (Some c.in-Some.found) c.in-Some.ensures)

pub loop-end-preserved : goal.loop-end-preserved
loop-end-preserved c =
    let b : List ℕ = c.args.bytes.now in
    let own = bytes_here c.args.unit b c.loop-end.index c.loop-end.end c.slot_size-size.result c.requires.unit c.slot_size-size.ensures.size c.loop-end.invariant.at c.loop-end-test.true in
    let inside = stands_here c.args.unit b c.loop-end.index c.loop-end.end c.slot_size-size.result c.requires.unit c.slot_size-size.ensures.size c.loop-end.invariant.at c.loop-end-test.true in
    let used : is_used (slot_at c.args.unit b c.loop-end.index) ≡ true = used_read c.args.unit b c.loop-end.index (slice_range b (c.loop-end.end - c.slot_size-size.result) c.loop-end.end) c.is_used.result own c.is_used.ensures ∙ c.if-not-is_used.false in
    let none : HoldsAt c.args.unit b c.args.least c.args.most c.args.wanted.now c.loop-end.index None =
    elim c.if-gives.branch [
      | then-gives+in_default w ↦
          subst (HoldsAt c.args.unit b c.args.least c.args.most c.args.wanted.now c.loop-end.index) w.in_default.is
          (same_bytes c.args.unit b c.loop-end.index (slice_range b (c.loop-end.end - c.slot_size-size.result) c.loop-end.end) own c.args.least c.args.most c.args.wanted.now (c.gives.ensures.candidate w.if-gives.true) (c.gives.ensures.same w.if-gives.true) w.counting_entry.result w.counting_entry.ensures)
      | else-gives w ↦
          not_given c.args.unit b c.loop-end.index (slice_range b (c.loop-end.end - c.slot_size-size.result) c.loop-end.end) own c.args.least c.args.most c.args.wanted.now (c.gives.ensures.differ w.if-gives.false)
    ] in
    record {
      at = next_end c.args.unit b c.loop-end.index c.loop-end.end c.slot_size-size.result c.requires.unit c.slot_size-size.ensures.size c.loop-end.invariant.at c.loop-end-test.true;
      from = omega (arith, c.loop-end.invariant.from);
      listed = used_after c.args.unit b c.loop-end.index c.requires.unit c.loop-end.invariant.listed inside used;
      none = none_more c.args.unit b c.args.least c.args.most c.args.wanted.now (1 + c.args.skipped) c.loop-end.index c.loop-end.invariant.none none;
    }

pub returns : goal.returns
returns c =
    let b : List ℕ = c.args.bytes.now in
    let ends = all_used c.args.unit b c.loop-end.index c.loop-end.end c.slot_size-size.result c.requires.unit c.slot_size-size.ensures.size c.loop-end.invariant.at (omega (arith, c.loop-end-test.false)) (omega (arith, c.loop-end.invariant.from)) in
    λ slot f from to. c.loop-end.invariant.none slot f from (omega (arith, to, ends))
