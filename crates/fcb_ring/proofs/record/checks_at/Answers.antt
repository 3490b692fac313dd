use Rattle.std.proofs.Common.{ℕ, arith, eqb, get_or, ap}
use Rattle.fcb_ring.specs.Records.{checks_at}
use Rattle.fcb_ring.proofs.RecordLemmas.{crc_by_parts}
use Rattle.fcb_ring.proofs.record.checks_at.Goals as goal

pub returns : goal.returns
unfolding checks_at
returns c =
    let sector = c.args.sector.now in
    ap (λ (n : ℕ). eqb n (get_or sector c.args.crc_at 0))
    (crc_by_parts sector c.args.at c.field_width.result c.args.body c.args.len c.crc8.result c.crc8-2.result (λ k. omega (arith, c.type_inv.sector k)) c.field_width.ensures.value c.crc8.ensures.value c.crc8-2.ensures.value)
