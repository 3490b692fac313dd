use Rattle.std.proofs.Common.{subst, ℕ, leb, ◌&&◌, List, ap, sym, ◌∙◌, arith}
use Rattle.std.specs.Prelude.{slice_index}
use Rattle.std.proofs.lemmas.Bool.{false≢true}
use Rattle.item_laws.proofs.SlotCounts.{used_count_fits}
use Rattle.zms_cycle.specs.Entries.{entry_of}
use Rattle.zms_cycle.specs.Sector.{is_valid, cycle_of}
use Rattle.zms_cycle.proofs.SlotSearch.{none_listed}
use Rattle.zms_cycle.specs.Holding.{number_below, NoneAlike, IsFirstAlike}
use Rattle.zms_cycle.proofs.HoldingSteps.{cycle_named, ends_before, ends_first, ends_next, ends_last, inside_ending, none_step, unnamed, ungiven, is_alike}
use Rattle.zms_cycle.proofs.holding.first_alike.Goals as goal
use Rattle.zms_cycle.proofs.holding.first_alike.Goals.{else-names-via-then-names+else-gives, else-names-via-else-names}

pub overflow_sub-end : goal.overflow_sub-end
overflow_sub-end c =
    let fits = used_count_fits (is_valid (cycle_of c.args.sector.now)) 2 16 c.args.sector.now in
    omega (arith, fits, c.requires.listed, c.requires.long)

pub loop-end-init : goal.loop-end-init
loop-end-init c =
    let fits = used_count_fits (is_valid (cycle_of c.args.sector.now)) 2 16 c.args.sector.now in
    let first = ends_first c.args.sector.now c.args.from (omega (arith, fits, c.requires.listed, c.requires.long)) in
    let at = first.1 in
    record { inside = first.0; behind = omega (arith, at); none = λ k over lt. absurd (omega (arith, over, lt, at)) }

pub returns-in_default : goal.returns-in_default
returns-in_default c = λ k over lt. let none = none_listed c.args.sector.now (sym c.cycle_of.ensures ∙ c.in_default.is) in absurd (omega arith)

pub returns-then-fields-cycle : goal.returns-then-fields-cycle
returns-then-fields-cycle c = λ k over lt.
    let b : List ℕ = c.args.sector.now in
    let stop = ends_before b (number_below c.args.sector.now c.loop-end.end) (omega arith) (λ e. c.if-fields-cycle.true (ap (λ (xs : List ℕ). slice_index xs 1) c.slot_below-fields.ensures.bytes ∙ e ∙ cycle_named b c.in-Some.cycle (sym c.in-Some.ensures))) in
    c.loop-end.invariant.none k over (omega (arith, lt, stop))

pub returns-then-gives : goal.returns-then-gives
returns-then-gives c =
    let b : List ℕ = c.args.sector.now in
    let slot : ℕ = number_below b c.loop-end.end in
    subst (λ (n : ℕ). IsFirstAlike b c.args.least c.args.most c.args.bytes.now c.args.from n) (sym c.number_of.ensures)
    (record {
      behind = c.loop-end.invariant.behind;
      inside = inside_ending b c.loop-end.end c.loop-end.invariant.inside (omega (arith, c.loop-end-test.true));
      alike = is_alike b c.args.least c.args.most c.args.bytes.now slot c.slot_below-fields.result.now c.slot_below-fields.ensures.bytes (sym c.names.ensures ∙ c.if-names.true) (c.gives.ensures.len c.if-gives.true) (c.gives.ensures.value c.if-gives.true);
      first = c.loop-end.invariant.none;
    })

pub loop-end-preserved : goal.loop-end-preserved
loop-end-preserved c =
    let b : List ℕ = c.args.sector.now in
    let next = ends_next b c.loop-end.end c.loop-end.invariant.inside (omega (arith, c.loop-end-test.true)) in
    record {
      inside = next.0;
      behind = (let behind = c.loop-end.invariant.behind in let up = next.1 in omega (arith, behind, up));
      none =
          subst (λ (n : ℕ). NoneAlike b c.args.least c.args.most c.args.bytes.now c.args.from n) (sym next.1)
          (none_step c.args.sector.now c.args.least c.args.most c.args.bytes.now c.args.from (number_below c.args.sector.now c.loop-end.end) c.loop-end.invariant.none
          (elim c.else-names.branch [
            | else-names-via-then-names+else-gives w ↦ ungiven c.args.sector.now c.args.least c.args.most c.args.bytes.now (number_below c.args.sector.now c.loop-end.end) c.slot_below-fields.result.now c.slot_below-fields.ensures.bytes (λ len value. false≢true (sym w.if-gives.false ∙ w.gives.ensures.each len value))
            | else-names-via-else-names w ↦
                unnamed c.args.sector.now c.args.least c.args.most c.args.bytes.now (number_below c.args.sector.now c.loop-end.end)
                (sym (ap (λ (xs : List ℕ). leb c.args.least (entry_of xs).id && leb (entry_of xs).id c.args.most) c.slot_below-fields.ensures.bytes) ∙ sym c.names.ensures ∙ w.if-names.false)
          ]));
    }

pub returns : goal.returns
returns c = λ k over lt.
    let last = ends_last c.args.sector.now c.loop-end.end c.loop-end.invariant.inside (omega (arith, c.loop-end-test.false)) (omega (arith, c.loop-end.invariant.behind, c.requires.from)) in
    c.loop-end.invariant.none k over (omega (arith, lt, last))
