use Rattle.std.proofs.Common.{◌≡◌, ℕ, ◌+◌, ◌-◌, ◌*◌, not, ◌||◌, Bool, List, length, ltb, refl, sym, ap, ◌∙◌, arith}
use Rattle.std.specs.Prelude.{sum_by}
use Rattle.std.specs.List.{list_any}
use Rattle.zms_cycle.specs.Sector.{is_under, entry_cost}
use Rattle.zms_cycle.proofs.Scanning.{entries_to}
use Rattle.zms_format.proofs.Sectors.{few_slots, any_step, sum_step, too_much_is}
use Rattle.zms_format.proofs.sector.holds_too_much.Goals as goal

pub overflow_add-slot-end : goal.overflow_add-slot-end
overflow_add-slot-end c = let few = few_slots c.args.sector.now in omega (arith, c.requires.slots)

pub listed_entry-found-requires-clause-listed : goal.listed_entry-found-requires-clause-listed
listed_entry-found-requires-clause-listed c = omega (arith, c.requires.slots)

pub overflow_add-costs : goal.overflow_add-costs
overflow_add-costs c =
    let few = few_slots c.args.sector.now in
    omega (arith, c.requires.slots, c.loop-slot.invariant.small, c.cost_of-costs.ensures.small)

pub loop-slot-preserved : goal.loop-slot-preserved
loop-slot-preserved c =
    let kept = c.loop-slot.invariant in
    let b : List ℕ = c.args.sector.now in
    let next : c.loop-slot.slot - 2 + 1 ≡ c.loop-slot.slot + 1 - 2 = omega arith in
    record {
      over = any_step (λ f. not (is_under c.saturating_sub-limit.result f)) b (c.loop-slot.slot - 2) c.loop-slot.slot c.listed_entry-found.result c.loop-slot.over c.passes-over.result (omega arith) c.listed_entry-found.ensures kept.over c.passes-over.ensures
          ∙ ap (λ (n : ℕ). list_any (λ f. not (is_under c.saturating_sub-limit.result f)) (entries_to b n)) next;
      costs = sum_step entry_cost b (c.loop-slot.slot - 2) c.loop-slot.slot c.listed_entry-found.result c.loop-slot.costs c.cost_of-costs.result (omega arith) c.listed_entry-found.ensures kept.costs c.cost_of-costs.ensures.value
          ∙ ap (λ (n : ℕ). sum_by entry_cost (entries_to b n)) next;
      small = omega (arith, kept.small, c.cost_of-costs.ensures.small);
    }

pub returns-then-over : goal.returns-then-over
returns-then-over c =
    let kept = c.loop-slot.invariant in
    let b : List ℕ = c.args.sector.now in
    let cap : ℕ = length b - 80 in
    c.if-over.true ∙ sym (ap (λ (t : Bool). t || ltb cap c.loop-slot.costs) c.if-over.true)
    ∙ too_much_is b c.saturating_sub-limit.result cap c.loop-slot.costs c.args.slots (c.loop-slot.slot - 2) c.loop-slot.over c.requires.slots (omega arith) (c.saturating_sub-limit.ensures ∙ ap (λ (n : ℕ). length b - (n + 3) * c.from-2.result) c.from.ensures ∙ ap (λ (n : ℕ). length b - (c.args.slots + 3) * n) c.from-2.ensures) refl kept.over kept.costs

pub returns-else-over : goal.returns-else-over
returns-else-over c =
    let kept = c.loop-slot.invariant in
    let b : List ℕ = c.args.sector.now in
    sym (ap (λ (t : Bool). t || ltb c.from-else-over.result c.loop-slot.costs) c.if-over.false)
    ∙ too_much_is b c.saturating_sub-limit.result c.from-else-over.result c.loop-slot.costs c.args.slots (c.loop-slot.slot - 2) c.loop-slot.over c.requires.slots (omega arith) (c.saturating_sub-limit.ensures ∙ ap (λ (n : ℕ). length b - (n + 3) * c.from-2.result) c.from.ensures ∙ ap (λ (n : ℕ). length b - (c.args.slots + 3) * n) c.from-2.ensures) (c.from-else-over.ensures ∙ c.capacity.ensures) kept.over kept.costs
