use Rattle.std.proofs.Common.{◌≡◌, ℕ, true, List, ◌+◌, ◌-◌, ◌*◌, ◌/◌, ◌≤◌, ◌∙◌, length, arith}
use Rattle.std.specs.Prelude.{slice_range}
use Rattle.std.proofs.Math.Nat.{add-mul, div-le_self}
use Rattle.std.proofs.lemmas.Nat.{le-div}
use Rattle.item_laws.proofs.SlotCounts.{used_count_is, slot_inside}
use Rattle.nvs_store.specs.Geometry.{slot_size}
use Rattle.nvs_store.specs.Sector.{slot_at, is_used}
use Rattle.nvs_store.proofs.Holders.{stands_here, next_end, bytes_here}
use Rattle.nvs_store.proofs.Lookups.{used_read, used_more}
use Rattle.nvs_store.proofs.SlotReads.{slot_size_bounds}
use Rattle.nvs_store.proofs.slots.used_count.Goals as goal

pub loop-end-init : goal.loop-end-init
loop-end-init c =
    let one : (0 + 1) * slot_size c.args.unit ≡ slot_size c.args.unit = omega arith in
    record {
      at = (let size = c.slot_size-size.ensures.size in let end = c.saturating_sub-end.ensures in omega (arith, one, size, end));
      fits = omega arith;
      used = λ k from to. absurd (omega (arith, from, to));
    }

pub overflow_add-used : goal.overflow_add-used
overflow_add-used c =
    let part = div-le_self (length c.args.bytes.now) (slot_size c.args.unit) in
    omega (arith, part, c.loop-end.invariant.fits, c.requires.short)

pub returns-then-not-is_used-clause-count : goal.returns-then-not-is_used-clause-count
returns-then-not-is_used-clause-count c =
    let b : List ℕ = c.args.bytes.now in
    let own = bytes_here c.args.unit b (c.loop-end.used + 1) c.loop-end.end c.slot_size-size.result c.requires.unit c.slot_size-size.ensures.size c.loop-end.invariant.at c.loop-end-test.true in
    used_count_is is_used 1 (slot_size c.args.unit) b c.loop-end.used c.loop-end.invariant.fits (λ k from below. c.loop-end.invariant.used k from (omega (arith, below)))
    (λ _. used_read c.args.unit b (c.loop-end.used + 1) (slice_range b (c.loop-end.end - c.slot_size-size.result) c.loop-end.end) c.is_used.result own c.is_used.ensures ∙ c.if-not-is_used.true)

pub returns-then-not-is_used-clause-few : goal.returns-then-not-is_used-clause-few
returns-then-not-is_used-clause-few c =
    let part = div-le_self (length c.args.bytes.now) (slot_size c.args.unit) in
    omega (arith, part, c.loop-end.invariant.fits, c.requires.short)

pub loop-end-preserved : goal.loop-end-preserved
loop-end-preserved c =
    let b : List ℕ = c.args.bytes.now in
    let wide = slot_size_bounds c.args.unit c.requires.unit in
    let own = bytes_here c.args.unit b (c.loop-end.used + 1) c.loop-end.end c.slot_size-size.result c.requires.unit c.slot_size-size.ensures.size c.loop-end.invariant.at c.loop-end-test.true in
    let here : is_used (slot_at c.args.unit b (c.loop-end.used + 1)) ≡ true = used_read c.args.unit b (c.loop-end.used + 1) (slice_range b (c.loop-end.end - c.slot_size-size.result) c.loop-end.end) c.is_used.result own c.is_used.ensures ∙ c.if-not-is_used.false in
    let inside : (c.loop-end.used + 1 + 1) * slot_size c.args.unit ≤ length b = stands_here c.args.unit b (c.loop-end.used + 1) c.loop-end.end c.slot_size-size.result c.requires.unit c.slot_size-size.ensures.size c.loop-end.invariant.at c.loop-end-test.true in
    let few : c.loop-end.used + 1 + 1 ≤ length b / slot_size c.args.unit = le-div (c.loop-end.used + 1 + 1) (length b) (slot_size c.args.unit) (omega (arith, wide)) inside in
    record {
      at = next_end c.args.unit b (c.loop-end.used + 1) c.loop-end.end c.slot_size-size.result c.requires.unit c.slot_size-size.ensures.size c.loop-end.invariant.at c.loop-end-test.true;
      fits = omega (arith, few);
      used = used_more c.args.unit b c.loop-end.used c.loop-end.invariant.used here;
    }

pub returns-clause-count : goal.returns-clause-count
returns-clause-count c =
    let b : List ℕ = c.args.bytes.now in
    let size = c.slot_size-size.ensures.size in
    let more : (c.loop-end.used + 1 + 1) * slot_size c.args.unit ≡ (c.loop-end.used + 1) * slot_size c.args.unit + 1 * slot_size c.args.unit = add-mul (c.loop-end.used + 1) 1 (slot_size c.args.unit) in
    used_count_is is_used 1 (slot_size c.args.unit) b c.loop-end.used c.loop-end.invariant.fits (λ k from below. c.loop-end.invariant.used k from (omega (arith, below)))
    (λ lt. let inside = slot_inside (slot_size c.args.unit) b (c.loop-end.used + 1) (omega (arith, lt)) in absurd (omega (arith, inside, more, size, c.loop-end.invariant.at, c.loop-end-test.false)))

pub returns-clause-few : goal.returns-clause-few
returns-clause-few c =
    let part = div-le_self (length c.args.bytes.now) (slot_size c.args.unit) in
    omega (arith, part, c.loop-end.invariant.fits, c.requires.short)
