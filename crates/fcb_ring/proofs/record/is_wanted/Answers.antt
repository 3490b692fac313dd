use Rattle.std.proofs.Common.{◌≡◌, ◌+◌, Bool, true, false, not, ◌&&◌, ◌||◌, refl, ap, ◌∙◌, sym, arith}
use Rattle.std.specs.Prelude.{slice_range}
use Rattle.std.proofs.lemmas.Bool.{and_right}
use Rattle.fcb_ring.specs.declared.record.Extent.{Extent}
use Rattle.fcb_ring.specs.Records.{record_of, is_alike}
use Rattle.fcb_ring.proofs.RecordLemmas.{extent}
use Rattle.fcb_ring.proofs.record.is_wanted.Goals as goal

pub overflow_add-body : goal.overflow_add-body
overflow_add-body c =
    let h = extent c.args.unit c.args.sector.now c.args.reach.at c.args.reach.extent c.requires.unit c.requires.extent in
    let body = h.body in
    let short = c.requires.short in
    omega arith

pub slice_bounds-is_alike-end : goal.slice_bounds-is_alike-end
slice_bounds-is_alike-end c =
    let h = extent c.args.unit c.args.sector.now c.args.reach.at c.args.reach.extent c.requires.unit c.requires.extent in
    let body = h.body in
    omega arith

and-true : (b t : Bool) → t ≡ true → (b && t) ≡ b
and-true true t e = e
and-true false t e = refl

pub returns-then-is_alike : goal.returns-then-is_alike
unfolding record_of
returns-then-is_alike c =
    let h = extent c.args.unit c.args.sector.now c.args.reach.at c.args.reach.extent c.requires.unit c.requires.extent in
    let sector = c.args.sector.now in
    let body = c.args.reach.at + c.args.unit in
    let r = record_of c.args.unit sector c.args.reach.at in
    let alike : is_alike c.args.prefix.now c.args.most (slice_range sector r.body (r.body + r.len)) ≡ true =
    ap (λ (e : Extent). is_alike c.args.prefix.now c.args.most (slice_range sector body (body + e.len))) h.same
    ∙ sym c.is_alike.ensures ∙ c.if-is_alike.true in
    c.counts.ensures ∙ sym (and-true (not c.args.checked || r.checks) (is_alike c.args.prefix.now c.args.most (slice_range sector r.body (r.body + r.len))) alike)

pub returns-else-is_alike : goal.returns-else-is_alike
unfolding record_of
returns-else-is_alike c =
    let h = extent c.args.unit c.args.sector.now c.args.reach.at c.args.reach.extent c.requires.unit c.requires.extent in
    let sector = c.args.sector.now in
    let body = c.args.reach.at + c.args.unit in
    let r = record_of c.args.unit sector c.args.reach.at in
    let alike : is_alike c.args.prefix.now c.args.most (slice_range sector r.body (r.body + r.len)) ≡ false =
    ap (λ (e : Extent). is_alike c.args.prefix.now c.args.most (slice_range sector body (body + e.len))) h.same
    ∙ sym c.is_alike.ensures ∙ c.if-is_alike.false in
    c.if-is_alike.false ∙ sym (and_right (not c.args.checked || r.checks) (is_alike c.args.prefix.now c.args.most (slice_range sector r.body (r.body + r.len))) alike)
