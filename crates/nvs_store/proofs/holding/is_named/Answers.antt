use Rattle.std.proofs.Common.{◌≡◌, ℕ, true, List, sym, ap, ◌+◌, ◌-◌, ◌*◌, ◌≤◌, length, ◌∙◌, arith}
use Rattle.std.specs.Prelude.{slice_range}
use Rattle.nvs_store.specs.Entries.{entry_of}
use Rattle.nvs_store.specs.Holding.{named_at}
use Rattle.nvs_store.specs.Sector.{slot_at, is_used}
use Rattle.nvs_store.proofs.Holders.{used_before, used_to, stands_here, next_end, bytes_here, all_used, others_more}
use Rattle.nvs_store.proofs.Lookups.{used_read}
use Rattle.nvs_store.proofs.holding.is_named.Goals as goal

pub loop-end-init : goal.loop-end-init
loop-end-init c = record {
  at = c.saturating_sub-end.ensures ∙ ap (λ (n : ℕ). length c.args.bytes.now - (c.args.skipped + 1) * n) c.slot_size-size.ensures.size;
  from = omega arith;
  used = λ k from to. absurd (omega (arith, from, to));
  none = λ slot from to. absurd (omega (arith, from, to));
}

pub returns-then-not-is_used : goal.returns-then-not-is_used
returns-then-not-is_used c =
    let b : List ℕ = c.args.bytes.now in
    let own = bytes_here c.args.unit b c.loop-end.index c.loop-end.end c.slot_size-size.result c.requires.unit c.slot_size-size.ensures.size c.loop-end.invariant.at c.loop-end-test.true in
    let unused = used_read c.args.unit b c.loop-end.index (slice_range b (c.loop-end.end - c.slot_size-size.result) c.loop-end.end) c.is_used.result own c.is_used.ensures ∙ c.if-not-is_used.true in
    let ends = used_before c.args.unit b c.loop-end.index (omega (arith, c.loop-end.invariant.from)) unused in
    λ slot from to. c.loop-end.invariant.none slot from (omega (arith, to, ends))

pub returns-then-named_id-id : goal.returns-then-named_id-id
returns-then-named_id-id c =
    let b : List ℕ = c.args.bytes.now in
    let own = bytes_here c.args.unit b c.loop-end.index c.loop-end.end c.slot_size-size.result c.requires.unit c.slot_size-size.ensures.size c.loop-end.invariant.at c.loop-end-test.true in
    let used = used_read c.args.unit b c.loop-end.index (slice_range b (c.loop-end.end - c.slot_size-size.result) c.loop-end.end) c.is_used.result own c.is_used.ensures ∙ c.if-not-is_used.false in
    record {
      slot = c.loop-end.index;
      from = c.loop-end.invariant.from;
      inside = stands_here c.args.unit b c.loop-end.index c.loop-end.end c.slot_size-size.result c.requires.unit c.slot_size-size.ensures.size c.loop-end.invariant.at c.loop-end-test.true;
      used = used_to c.args.unit b (1 + c.args.skipped) c.loop-end.index c.loop-end.invariant.used used;
      names = sym (c.named_id.ensures ∙ ap (λ (xs : List ℕ). (entry_of xs).id) own) ∙ c.if-named_id-id.true;
    }

pub loop-end-preserved : goal.loop-end-preserved
loop-end-preserved c =
    let b : List ℕ = c.args.bytes.now in
    let own = bytes_here c.args.unit b c.loop-end.index c.loop-end.end c.slot_size-size.result c.requires.unit c.slot_size-size.ensures.size c.loop-end.invariant.at c.loop-end-test.true in
    let here = used_read c.args.unit b c.loop-end.index (slice_range b (c.loop-end.end - c.slot_size-size.result) c.loop-end.end) c.is_used.result own c.is_used.ensures ∙ c.if-not-is_used.false in
    let used : (k : ℕ) → 1 + c.args.skipped ≤ k → k ≤ c.loop-end.index → is_used (slot_at c.args.unit b k) ≡ true = used_to c.args.unit b (1 + c.args.skipped) c.loop-end.index c.loop-end.invariant.used here in
    let read : c.named_id.result ≡ named_at c.args.unit b c.loop-end.index = c.named_id.ensures ∙ ap (λ (xs : List ℕ). (entry_of xs).id) own in
    record {
      at = next_end c.args.unit b c.loop-end.index c.loop-end.end c.slot_size-size.result c.requires.unit c.slot_size-size.ensures.size c.loop-end.invariant.at c.loop-end-test.true;
      from = omega (arith, c.loop-end.invariant.from);
      used = λ k from to. used k from (omega (arith, to));
      none = others_more c.args.unit b c.args.id (1 + c.args.skipped) c.loop-end.index c.loop-end.invariant.none (λ same. c.if-named_id-id.false (read ∙ same));
    }

pub returns : goal.returns
returns c =
    let b : List ℕ = c.args.bytes.now in
    let ends = all_used c.args.unit b c.loop-end.index c.loop-end.end c.slot_size-size.result c.requires.unit c.slot_size-size.ensures.size c.loop-end.invariant.at (omega (arith, c.loop-end-test.false)) (omega (arith, c.loop-end.invariant.from)) in
    λ slot from to. c.loop-end.invariant.none slot from (omega (arith, to, ends))
