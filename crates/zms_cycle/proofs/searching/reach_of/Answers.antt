use Rattle.std.proofs.Common.{◌≡◌, ℕ, ◌-◌, ◌%◌, ◌≤◌, leb, ◌&&◌, Bool, cond, List, length, Some, sym, ap, ◌∙◌, arith}
use Rattle.std.specs.Prelude.{slice_index}
use Rattle.item_laws.proofs.SlotCounts.{used_count_fits}
use Rattle.zms_cycle.specs.Entries.{entry_of}
use Rattle.zms_cycle.specs.Holding.{number_below}
use Rattle.zms_cycle.specs.Sector.{slot_of, is_valid}
use Rattle.zms_cycle.specs.Searches.{names}
use Rattle.zms_cycle.proofs.SlotSearch.{other_cycle, valid_before, reach_step}
use Rattle.zms_cycle.proofs.HoldingSteps.{ends_first, ends_next, inside_ending}
use Rattle.zms_cycle.proofs.searching.reach_of.Goals as goal
use Rattle.zms_cycle.proofs.searching.reach_of.Goals.{then-names, else-names}

pub loop-end-init : goal.loop-end-init
loop-end-init c =
    let first = ends_first c.args.sector.now 2 (omega (arith, c.requires.long)) in
    let at = first.1 in
    record { inside = first.0; within = omega (arith, at); others = λ k over lt. absurd (omega (arith, over, lt, at)) }

pub returns-then-fields-cycle-clause-fits : goal.returns-then-fields-cycle-clause-fits
returns-then-fields-cycle-clause-fits c =
    let inside = inside_ending c.args.sector.now c.loop-end.end c.loop-end.invariant.inside (omega (arith, c.loop-end-test.true)) in
    omega (arith, inside, c.loop-end.invariant.within)

pub returns-then-fields-cycle-clause-others : goal.returns-then-fields-cycle-clause-others
returns-then-fields-cycle-clause-others c = λ k over lt.
    let b : List ℕ = c.args.sector.now in
    let slot : ℕ = number_below b c.loop-end.end in
    let other = other_cycle c.args.cycle (slot_of b slot) (λ e. c.if-fields-cycle.true (ap (λ (xs : List ℕ). slice_index xs 1) c.slot_below-fields.ensures.bytes ∙ e)) in
    let stop = valid_before c.args.cycle b slot (omega (arith, c.loop-end.invariant.within)) other in
    c.loop-end.invariant.others k over (omega (arith, lt, stop))

pub loop-end-preserved : goal.loop-end-preserved
loop-end-preserved c =
    let b : List ℕ = c.args.sector.now in
    let slot : ℕ = number_below b c.loop-end.end in
    let new : ℕ = c.if-names.reach in
    let next = ends_next b c.loop-end.end c.loop-end.invariant.inside (omega (arith, c.loop-end-test.true)) in
    let up = next.1 in
    let named : c.names.result ≡ names c.args.least c.args.most (slot_of b slot) = c.names.ensures ∙ ap (λ (xs : List ℕ). leb c.args.least (entry_of xs).id && leb (entry_of xs).id c.args.most) c.slot_below-fields.ensures.bytes in
    let is : new ≡ cond c.names.result (slot - 1) c.loop-end.reach = elim c.if-names.branch [
      | then-names w ↦ w.reach-is ∙ ap (λ (n : ℕ). n - 1) w.number_of-reach.ensures ∙ sym (ap (λ (t : Bool). cond t (slot - 1) c.loop-end.reach) w.if-names.true)
      | else-names w ↦ w.reach-is ∙ sym (ap (λ (t : Bool). cond t (slot - 1) c.loop-end.reach) w.if-names.false)
    ] in
    let step = reach_step c.args.least c.args.most b slot c.loop-end.reach new c.names.result (omega (arith, c.loop-end.invariant.within)) named is c.loop-end.invariant.within c.loop-end.invariant.others in
    let within = step.0 in
    record { inside = next.0; within = omega (arith, within, up); others = λ k over lt. step.1 k over (omega (arith, lt, up)) }

pub returns-clause-fits : goal.returns-clause-fits
returns-clause-fits c =
    let within : c.loop-end.end ≤ length c.args.sector.now = c.loop-end.invariant.inside.within in
    omega (arith, within, c.loop-end.invariant.within)

pub returns-clause-others : goal.returns-clause-others
returns-clause-others c = λ k over lt.
    let within : c.loop-end.end ≤ length c.args.sector.now = c.loop-end.invariant.inside.within in
    let whole : (length c.args.sector.now - c.loop-end.end) % 16 ≡ 0 = c.loop-end.invariant.inside.whole in
    let fits = used_count_fits (is_valid (Some c.args.cycle)) 2 16 c.args.sector.now in
    c.loop-end.invariant.others k over (omega (arith, lt, fits, within, whole, c.loop-end-test.false, c.loop-end.invariant.within))
