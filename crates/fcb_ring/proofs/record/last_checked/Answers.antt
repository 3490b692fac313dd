use Rattle.std.proofs.Common.{◌≡◌, ◌∙◌, sym, refl, Some, false, arith}
use Rattle.fcb_ring.specs.declared.record.Record.{Record}
use Rattle.fcb_ring.specs.Records.{last_wanted}
use Rattle.fcb_ring.proofs.RecordLemmas.{begins-within}
use Rattle.fcb_ring.proofs.LastLemmas.{unchecked-none, unchecked-same}
use Rattle.fcb_ring.proofs.record.last_checked.Goals as goal

pub returns-in_err-at : goal.returns-in_err-at
returns-in_err-at c = rw c.from_residual.ensures (sym (unchecked-none c.args.unit c.args.sector.now c.args.prefix.now c.args.most (sym c.in_err-at.ensures.last)))

pub record_at-requires-clause-room : goal.record_at-requires-clause-room
record_at-requires-clause-room c = λ lt. begins-within c.args.unit c.args.sector.now c.in_ok-at.at (c.in_ok-at.ensures.reads c.in_ok-at.at refl)

pub record_at-requires-clause-at : goal.record_at-requires-clause-at
record_at-requires-clause-at c = let within = begins-within c.args.unit c.args.sector.now c.in_ok-at.at (c.in_ok-at.ensures.reads c.in_ok-at.at refl) in omega (arith, within)

pub returns-then-last : goal.returns-then-last
returns-then-last c =
    let last : Record = c.in_ok-last.last in
    let found : last_wanted c.args.unit c.args.sector.now c.args.prefix.now c.args.most false ≡ Some last = sym c.in_ok-at.ensures.last ∙ sym (c.in_ok-at.ensures.reads c.in_ok-at.at refl) ∙ sym c.in_ok-last.ensures.value in
    sym (unchecked-same c.args.unit c.args.sector.now c.args.prefix.now c.args.most last found c.if-last.true)

pub record_at-requires-2-clause-room : goal.record_at-requires-2-clause-room
record_at-requires-2-clause-room c = λ lt. begins-within c.args.unit c.args.sector.now c.in_ok-earlier.earlier (c.in_ok-earlier.ensures.reads c.in_ok-earlier.earlier refl)

pub record_at-requires-2-clause-at : goal.record_at-requires-2-clause-at
record_at-requires-2-clause-at c = let within = begins-within c.args.unit c.args.sector.now c.in_ok-earlier.earlier (c.in_ok-earlier.ensures.reads c.in_ok-earlier.earlier refl) in omega (arith, within)
