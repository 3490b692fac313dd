use Rattle.std.proofs.Common.{◌+◌, ℕ, ap, ◌∙◌, sym, arith}
use Rattle.flash_map.specs.Units.{padded}
use Rattle.fcb_ring.specs.declared.record.Extent.{Extent}
use Rattle.fcb_ring.specs.Records.{checks_at, record_of}
use Rattle.fcb_ring.proofs.RecordLemmas.{extent, unit_least}
use Rattle.fcb_ring.proofs.record.checks.Goals as goal

pub overflow_sub-crc_at : goal.overflow_sub-crc_at
overflow_sub-crc_at c =
    let h = extent c.args.unit c.args.sector.now c.args.at c.args.extent c.requires.unit c.requires.extent in
    let more = h.no_less in
    omega arith

pub overflow_add-at : goal.overflow_add-at
overflow_add-at c =
    let h = extent c.args.unit c.args.sector.now c.args.at c.args.extent c.requires.unit c.requires.extent in
    let body = h.body in
    let short = c.requires.short in
    omega arith

pub checks_at-requires-clause-field : goal.checks_at-requires-clause-field
checks_at-requires-clause-field c =
    let h = extent c.args.unit c.args.sector.now c.args.at c.args.extent c.requires.unit c.requires.extent in
    let body = h.body in
    let least = unit_least c.args.unit c.requires.unit in
    omega arith

pub checks_at-requires-clause-body : goal.checks_at-requires-clause-body
checks_at-requires-clause-body c =
    let h = extent c.args.unit c.args.sector.now c.args.at c.args.extent c.requires.unit c.requires.extent in
    h.body

pub checks_at-requires-clause-crc : goal.checks_at-requires-clause-crc
checks_at-requires-clause-crc c =
    let h = extent c.args.unit c.args.sector.now c.args.at c.args.extent c.requires.unit c.requires.extent in
    let at_most = h.at_most in
    let more = h.no_less in
    let least = unit_least c.args.unit c.requires.unit in
    omega arith

pub returns : goal.returns
unfolding record_of
returns c =
    let h = extent c.args.unit c.args.sector.now c.args.at c.args.extent c.requires.unit c.requires.extent in
    let sector = c.args.sector.now in
    let body = c.args.at + c.args.unit in
    c.checks_at.ensures
    ∙ ap (λ (n : ℕ). checks_at sector c.args.at body c.args.extent.len n) h.crc_at
    ∙ sym (ap (λ (e : Extent). checks_at sector c.args.at body e.len (body + padded c.args.unit e.len)) h.same)
