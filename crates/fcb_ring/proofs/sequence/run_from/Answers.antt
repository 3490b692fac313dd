use Rattle.std.proofs.Common.{◌-◌, length, sym, ◌∙◌, arith}
use Rattle.fcb_ring.specs.Rings.{opens_run}
use Rattle.fcb_ring.proofs.PlaceLemmas.{find_first, find_nothing, range_more}
use Rattle.fcb_ring.proofs.sequence.run_from.Goals as goal

pub returns-then-opens_run-clause-value : goal.returns-then-opens_run-clause-value
returns-then-opens_run-clause-value c =
    sym (find_first (opens_run c.args.states.now) c.args.from (length c.args.states.now - c.args.from) c.loop-place.place c.loop-place.auto.place (omega (arith, c.requires)) (sym c.opens_run.ensures ∙ c.if-opens_run.true) c.loop-place.invariant)

pub loop-place-preserved : goal.loop-place-preserved
loop-place-preserved c = range_more (opens_run c.args.states.now) c.args.from c.loop-place.place c.loop-place.invariant (sym c.opens_run.ensures ∙ c.if-opens_run.false)

pub returns-clause-value : goal.returns-clause-value
returns-clause-value c = sym (find_nothing (opens_run c.args.states.now) c.args.from (length c.args.states.now - c.args.from) (λ k low high. c.loop-place.invariant k low (omega (arith, c.requires))))
