use Rattle.std.proofs.Common.{◌≡◌, ℕ, ◌+◌, ◌-◌, length, Some, refl, sym, ap, subst, ◌∙◌, arith}
use Rattle.std.specs.Option.{option_map}
use Rattle.zms_cycle.specs.Sector.{valid_slots, entries}
use Rattle.zms_cycle.proofs.Scanning.{entries_to}
use Rattle.zms_format.specs.declared.sector.Found.{Found}
use Rattle.zms_format.specs.Area.{placed_at, last_in, IsListed}
use Rattle.zms_format.proofs.Sectors.{few_slots, entries_all, listed_here, find_here, find_other, find_none}
use Rattle.zms_format.proofs.PassedSlots.{find_past}
use Rattle.zms_format.proofs.sector.find_in.Goals as goal
use Rattle.zms_format.proofs.sector.find_in.Goals.{in-Some+else-found-id, in_default}

pub loop-count-init : goal.loop-count-init
loop-count-init c = record {
  inside = c.reach_in-count.ensures.within;
  later = find_past c.args.sector.now c.args.id c.reach_in-count.result (length (valid_slots c.args.sector.now) - c.reach_in-count.result) (length (valid_slots c.args.sector.now)) (last_in c.args.id (entries c.args.sector.now))
      (omega (arith, c.reach_in-count.ensures.within)) c.reach_in-count.ensures.others (ap (last_in c.args.id) (entries_all c.args.sector.now (length (valid_slots c.args.sector.now)) refl));
}

pub listed_entry-requires-clause-from : goal.listed_entry-requires-clause-from
listed_entry-requires-clause-from c = omega arith

pub listed_entry-requires-clause-listed : goal.listed_entry-requires-clause-listed
listed_entry-requires-clause-listed c = omega (arith, c.loop-count.invariant.inside)

pub returns-then-found-id-clause-last : goal.returns-then-found-id-clause-last
returns-then-found-id-clause-last c =
    ap (λ p. Some p) c.placed_in.ensures
    ∙ ap (option_map (placed_at c.args.place)) (find_here c.args.sector.now c.args.id c.loop-count.count (c.loop-count.count + 1) c.in-Some.found _ c.loop-count-test.true (omega arith) c.in-Some.ensures c.if-found-id.true c.loop-count.invariant.later)

pub overflow_add-count : goal.overflow_add-count
overflow_add-count c = let few = few_slots c.args.sector.now in omega (arith, c.loop-count.invariant.inside)

pub returns-then-found-id-clause-listed : goal.returns-then-found-id-clause-listed
returns-then-found-id-clause-listed c =
    subst (λ (p : Found). IsListed c.args.sector.now p) (sym c.placed_in.ensures)
    (listed_here c.args.sector.now c.args.place (c.loop-count.count + 1) c.in-Some.found (omega arith) (omega (arith, c.loop-count.invariant.inside)) c.in-Some.ensures)

pub loop-count-preserved : goal.loop-count-preserved
loop-count-preserved c = record {
  inside = omega (arith, c.loop-count.invariant.inside);
  later = elim c.match-listed_entry.branch [
    | in-Some+else-found-id w ↦ find_other c.args.sector.now c.args.id c.loop-count.count (c.loop-count.count + 1) w.in-Some.found _ c.loop-count-test.true (omega arith) w.in-Some.ensures w.if-found-id.false c.loop-count.invariant.later
    | in_default w ↦ find_none c.args.sector.now c.args.id c.loop-count.count (c.loop-count.count + 1) _ c.loop-count-test.true (omega arith) (sym w.in_default.is ∙ c.listed_entry.ensures) c.loop-count.invariant.later
  ];
}

pub returns-clause-last : goal.returns-clause-last
returns-clause-last c =
    let none : 0 ≡ c.loop-count.count = omega arith in
    ap (option_map (placed_at c.args.place)) (ap (λ (n : ℕ). last_in c.args.id (entries_to c.args.sector.now n)) none ∙ c.loop-count.invariant.later)
