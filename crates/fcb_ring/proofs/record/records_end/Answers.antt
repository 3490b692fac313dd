use Rattle.std.proofs.Common.{◌≡◌, ◌%◌, ◌∙◌, ℕ, length, sym, ap, Some, arith}
use Rattle.fcb_ring.specs.Records.{record_at, records, records_end}
use Rattle.fcb_ring.proofs.Walks.{walk_end, walk_end-next, walk_end-none}
use Rattle.fcb_ring.proofs.RecordLemmas.{advances, aligned_after, unit_there, header_fits}
use Rattle.fcb_ring.proofs.record.records_end.Goals as goal

pub record_at-requires-clause-room : goal.record_at-requires-clause-room
record_at-requires-clause-room c = λ lt. unit_there c.args.unit c.requires.is_unit (length c.args.sector.now) c.loop-record.end c.requires.whole c.loop-record.invariant.aligned lt

pub loop-record-init : goal.loop-record-init
unfolding records records_end
loop-record-init c =
    let header = header_fits c.args.unit c.requires.is_unit in
    let is = c.padded-end.ensures.value in
    record {
      aligned = ap (λ (n : ℕ). n % c.args.unit) is ∙ header.0;
      at_most = omega arith;
      same_end = ap (walk_end (record_at c.args.unit c.args.sector.now) (length c.args.sector.now)) is;
    }

pub loop-record-smaller : goal.loop-record-smaller
loop-record-smaller c =
    let some : record_at c.args.unit c.args.sector.now c.loop-record.end ≡ Some c.in-Some.record = sym c.record_at.ensures.value ∙ c.in-Some.is in
    let more = advances c.args.unit c.args.sector.now c.requires.is_unit c.loop-record.end c.in-Some.record some in
    omega arith

pub loop-record-preserved : goal.loop-record-preserved
loop-record-preserved c =
    let some : record_at c.args.unit c.args.sector.now c.loop-record.end ≡ Some c.in-Some.record = sym c.record_at.ensures.value ∙ c.in-Some.is in
    let more = advances c.args.unit c.args.sector.now c.requires.is_unit c.loop-record.end c.in-Some.record some in
    record {
      aligned = aligned_after c.args.unit c.args.sector.now c.requires.is_unit c.loop-record.end c.in-Some.record some c.loop-record.invariant.aligned;
      at_most = more.1;
      same_end = sym (walk_end-next (record_at c.args.unit c.args.sector.now) (length c.args.sector.now) c.loop-record.end c.in-Some.record (advances c.args.unit c.args.sector.now c.requires.is_unit) some) ∙ c.loop-record.invariant.same_end;
    }

pub returns-clause-value : goal.returns-clause-value
returns-clause-value c = sym (walk_end-none (record_at c.args.unit c.args.sector.now) (length c.args.sector.now) c.loop-record.end (sym c.record_at.ensures.value ∙ c.in_default.is)) ∙ c.loop-record.invariant.same_end
