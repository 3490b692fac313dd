use Rattle.std.proofs.Common.{ℕ, List, ap, sym, subst, ◌∙◌, arith}
use Rattle.std.specs.Prelude.{slice_index}
use Rattle.zms_cycle.specs.Entries.{entry_of}
use Rattle.zms_cycle.specs.Holding.{number_below, NoneNamed}
use Rattle.zms_cycle.proofs.HoldingSteps.{cycle_named, ends_before, ends_first, ends_next, ends_last, unnamed_step}
use Rattle.zms_cycle.proofs.holding.is_named.Goals as goal

pub loop-end-init : goal.loop-end-init
loop-end-init c =
    let first = ends_first c.args.sector.now c.args.from c.requires.inside in
    let at = first.1 in
    record { inside = first.0; behind = omega (arith, at); none = λ k over lt. absurd (omega (arith, over, lt, at)) }

pub returns-then-fields-cycle : goal.returns-then-fields-cycle
returns-then-fields-cycle c = λ no k over lt.
    let b : List ℕ = c.args.sector.now in
    let stop = ends_before b (number_below b c.loop-end.end) (omega (arith, c.loop-end.invariant.behind, c.requires.from)) (λ e. c.if-fields-cycle.true (ap (λ (xs : List ℕ). slice_index xs 1) c.slot_below-fields.ensures.bytes ∙ e ∙ cycle_named b c.args.cycle c.requires.cycle)) in
    c.loop-end.invariant.none k over (omega (arith, lt, stop))

pub loop-end-preserved : goal.loop-end-preserved
loop-end-preserved c =
    let b : List ℕ = c.args.sector.now in
    let slot : ℕ = number_below b c.loop-end.end in
    let read = c.id_in.ensures ∙ ap (λ (xs : List ℕ). (entry_of xs).id) c.slot_below-fields.ensures.bytes in
    let next = ends_next b c.loop-end.end c.loop-end.invariant.inside (omega (arith, c.loop-end-test.true)) in
    record {
      inside = next.0;
      behind = (let behind = c.loop-end.invariant.behind in let up = next.1 in omega (arith, behind, up));
      none =
          subst (λ (n : ℕ). NoneNamed b c.args.from n c.args.id) (sym next.1)
          (unnamed_step b c.args.from slot c.id_in.result c.args.id read c.if-id_in-id.false c.loop-end.invariant.none);
    }

pub returns : goal.returns
returns c = λ no k over lt.
    let last = ends_last c.args.sector.now c.loop-end.end c.loop-end.invariant.inside (omega (arith, c.loop-end-test.false)) (omega (arith, c.loop-end.invariant.behind, c.requires.from)) in
    c.loop-end.invariant.none k over (omega (arith, lt, last))
