use Rattle.std.proofs.Common.{◌≡◌, ◌+◌, Bool, true, false, eqb, ◌&&◌, ap, ◌∙◌, sym, arith}
use Rattle.std.specs.Prelude.{slice_range}
use Rattle.std.specs.List.{starts_with}
use Rattle.std.proofs.lemmas.Bool.{and_left}
use Rattle.fcb_ring.specs.declared.record.Extent.{Extent}
use Rattle.fcb_ring.specs.Records.{record_of}
use Rattle.fcb_ring.proofs.RecordLemmas.{extent}
use Rattle.fcb_ring.proofs.record.passes.Goals as goal

pub overflow_add-body : goal.overflow_add-body
overflow_add-body c =
    let h = extent c.args.unit c.args.sector.now c.args.at c.args.extent c.requires.unit c.requires.extent in
    let body = h.body in
    let short = c.requires.short in
    omega arith

pub slice_bounds-begins_with-end : goal.slice_bounds-begins_with-end
slice_bounds-begins_with-end c =
    let h = extent c.args.unit c.args.sector.now c.args.at c.args.extent c.requires.unit c.requires.extent in
    let body = h.body in
    omega arith

pub returns-then-begins_with : goal.returns-then-begins_with
unfolding record_of
returns-then-begins_with c =
    let h = extent c.args.unit c.args.sector.now c.args.at c.args.extent c.requires.unit c.requires.extent in
    let sector = c.args.sector.now in
    let body = c.args.at + c.args.unit in
    let r = record_of c.args.unit sector c.args.at in
    let starts : starts_with eqb (slice_range sector r.body (r.body + r.len)) c.args.prefix.now ≡ true =
    ap (λ (e : Extent). starts_with eqb (slice_range sector body (body + e.len)) c.args.prefix.now) h.same
    ∙ sym c.begins_with.ensures ∙ c.if-begins_with.true in
    c.checks.ensures ∙ sym (ap (λ (b : Bool). b && r.checks) starts)

pub returns-else-begins_with : goal.returns-else-begins_with
unfolding record_of
returns-else-begins_with c =
    let h = extent c.args.unit c.args.sector.now c.args.at c.args.extent c.requires.unit c.requires.extent in
    let sector = c.args.sector.now in
    let body = c.args.at + c.args.unit in
    let r = record_of c.args.unit sector c.args.at in
    let starts : starts_with eqb (slice_range sector r.body (r.body + r.len)) c.args.prefix.now ≡ false =
    ap (λ (e : Extent). starts_with eqb (slice_range sector body (body + e.len)) c.args.prefix.now) h.same
    ∙ sym c.begins_with.ensures ∙ c.if-begins_with.false in
    c.if-begins_with.false ∙ sym (and_left (starts_with eqb (slice_range sector r.body (r.body + r.len)) c.args.prefix.now) r.checks starts)
