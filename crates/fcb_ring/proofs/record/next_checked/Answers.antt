use Rattle.std.proofs.Common.{◌≡◌, ◌%◌, ◌∙◌, ℕ, Bool, true, false, cond, find, length, sym, ap, Option, Some, arith}
use Rattle.std.specs.Option.{option_map}
use Rattle.fcb_ring.specs.declared.record.Extent.{Extent}
use Rattle.fcb_ring.specs.declared.record.Record.{Record}
use Rattle.fcb_ring.specs.Records.{record_of, record_at, walk, passes, with_prefix}
use Rattle.fcb_ring.proofs.Walks.{walk-next, walk-none}
use Rattle.fcb_ring.proofs.RecordLemmas.{advances, aligned_after, unit_there, extent, no_extent, made}
use Rattle.fcb_ring.proofs.record.next_checked.Goals as goal

pub extent_at-requires-clause-room : goal.extent_at-requires-clause-room
extent_at-requires-clause-room c = λ lt. unit_there c.args.unit c.requires.sector.is_unit (length c.args.sector.now) c.loop-extent.at c.requires.sector.whole c.loop-extent.invariant.aligned lt

pub returns-then-passes : goal.returns-then-passes
returns-then-passes c =
    let at = c.loop-extent.at in
    let step = record_at c.args.unit c.args.sector.now in
    let size = length c.args.sector.now in
    let test = passes c.args.sector.now c.args.prefix.now in
    let make = with_prefix c.args.sector.now c.args.prefix.now in
    let h = extent c.args.unit c.args.sector.now at c.in-Some.extent c.requires.sector.is_unit (sym c.extent_at.ensures ∙ c.in-Some.is) in
    let r = record_of c.args.unit c.args.sector.now at in
    let yes-it : test r ≡ true = sym c.passes.ensures ∙ c.if-passes.true in
    let found : find test (walk step size at) ≡ Some r =
    ap (find test) (walk-next step size at r (advances c.args.unit c.args.sector.now c.requires.sector.is_unit) h.some)
    ∙ ap (λ (t : Bool). cond t (Some r) (find test (walk step size r.end))) yes-it in
    ap (λ (r : Record). Some r) (made c.args.unit c.args.sector.now at c.in-Some.extent true (test r) h.same (sym yes-it))
    ∙ ap (λ (o : Option Record). option_map make o) (sym found ∙ c.loop-extent.invariant.same_rest)

pub loop-extent-smaller : goal.loop-extent-smaller
loop-extent-smaller c =
    let h = extent c.args.unit c.args.sector.now c.loop-extent.at c.in-Some.extent c.requires.sector.is_unit (sym c.extent_at.ensures ∙ c.in-Some.is) in
    let more = h.no_less in
    let at_most = h.at_most in
    omega arith

pub loop-extent-preserved : goal.loop-extent-preserved
loop-extent-preserved c =
    let at = c.loop-extent.at in
    let step = record_at c.args.unit c.args.sector.now in
    let size = length c.args.sector.now in
    let test = passes c.args.sector.now c.args.prefix.now in
    let h = extent c.args.unit c.args.sector.now at c.in-Some.extent c.requires.sector.is_unit (sym c.extent_at.ensures ∙ c.in-Some.is) in
    let r = record_of c.args.unit c.args.sector.now at in
    let end : r.end ≡ c.in-Some.extent.end = ap (λ (q : Extent). q.end) h.same in
    let not-it : test r ≡ false = sym c.passes.ensures ∙ c.if-passes.false in
    record {
      aligned = ap (λ (n : ℕ). n % c.args.unit) (sym end) ∙ aligned_after c.args.unit c.args.sector.now c.requires.sector.is_unit at r h.some c.loop-extent.invariant.aligned;
      at_most = h.at_most;
      same_rest =
          ap (λ (n : ℕ). find test (walk step size n)) (sym end)
          ∙ sym (ap (find test) (walk-next step size at r (advances c.args.unit c.args.sector.now c.requires.sector.is_unit) h.some)
          ∙ ap (λ (t : Bool). cond t (Some r) (find test (walk step size r.end))) not-it)
          ∙ c.loop-extent.invariant.same_rest;
    }

pub returns : goal.returns
returns c =
    let step = record_at c.args.unit c.args.sector.now in
    let test = passes c.args.sector.now c.args.prefix.now in
    let make = with_prefix c.args.sector.now c.args.prefix.now in
    let none = no_extent c.args.unit c.args.sector.now c.loop-extent.at (sym c.extent_at.ensures ∙ c.in_default.is) in
    ap (λ (o : Option Record). option_map make o) (sym (ap (find test) (walk-none step (length c.args.sector.now) c.loop-extent.at none)) ∙ c.loop-extent.invariant.same_rest)
