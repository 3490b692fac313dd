use Rattle.std.proofs.Common.{◌∙◌, Some, sym, ap}
use Rattle.fcb_ring.specs.declared.record.Record.{Record}
use Rattle.fcb_ring.specs.Records.{record_of}
use Rattle.fcb_ring.proofs.RecordLemmas.{extent, made}
use Rattle.fcb_ring.proofs.record.record_at.Goals as goal

pub returns : goal.returns
returns c =
    let q = c.in_ok-extent.extent in
    let h = extent c.args.unit c.args.sector.now c.args.at q c.requires.unit (sym c.extent_at.ensures ∙ c.in_ok-extent.was) in
    let r = record_of c.args.unit c.args.sector.now c.args.at in
    record { value = ap (λ (r : Record). Some r) (made c.args.unit c.args.sector.now c.args.at q c.checks.result r.checks h.same c.checks.ensures) ∙ sym h.some }
