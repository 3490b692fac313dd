use Rattle.std.proofs.Common.{ℕ, ◌≤◌, length, Option, sym, subst, arith}
use Rattle.item_laws.specs.Slots.{used_slots}
use Rattle.zms_cycle.specs.Sector.{is_valid}
use Rattle.zms_cycle.proofs.SlotSearch.{none_listed}
use Rattle.zms_cycle.proofs.searching.reach_in.Goals as goal

pub valid_within-requires-clause-known : goal.valid_within-requires-clause-known
valid_within-requires-clause-known c =
    let listed = subst (λ (o : Option ℕ). c.args.known ≤ length (used_slots (is_valid o) 2 16 c.args.sector.now)) (sym c.in-Some.ensures) c.requires.known in
    omega (arith, listed, c.min.ensures)

pub returns-in-None-clause-others : goal.returns-in-None-clause-others
returns-in-None-clause-others c = λ k over lt. let none = none_listed c.args.sector.now (sym c.in-None.ensures) in absurd (omega arith)
