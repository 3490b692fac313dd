use Rattle.std.proofs.Common.{◌≡◌, ℕ, ◌+◌, ◌-◌, ◌≤◌, min, length, Option, refl, sym, subst, arith}
use Rattle.std.proofs.lemmas.Bool.{le-ltb, lt-ltb}
use Rattle.item_laws.specs.Slots.{used_slots}
use Rattle.zms_cycle.specs.Sector.{is_valid, valid_slots}
use Rattle.zms_cycle.proofs.SlotSearch.{none_listed}
use Rattle.zms_cycle.proofs.HoldingSteps.{listed_is}
use Rattle.zms_cycle.proofs.holding.is_listed.Goals as goal

pub valid_within-requires-clause-known : goal.valid_within-requires-clause-known
valid_within-requires-clause-known c =
    subst (λ (o : Option ℕ). c.args.known ≤ length (used_slots (is_valid o) 2 16 c.args.sector.now)) (sym c.in-Some.ensures) c.requires.known

pub returns-then-before-known : goal.returns-then-before-known
returns-then-before-known c =
    sym (lt-ltb c.args.slot (length (valid_slots c.args.sector.now) + 2) (omega (arith, c.requires.known, c.requires.from, c.if-before-known.true)))

pub returns-in-Some : goal.returns-in-Some
returns-in-Some c =
    let count = subst (λ (o : Option ℕ). c.valid_within.result ≡ min (c.args.slot - 1) (length (used_slots (is_valid o) 2 16 c.args.sector.now))) c.in-Some.ensures c.valid_within.ensures in
    listed_is (length (valid_slots c.args.sector.now)) c.args.slot c.valid_within.result _ (omega (arith, c.requires.from)) count refl

pub returns-in-None : goal.returns-in-None
returns-in-None c =
    let none = none_listed c.args.sector.now (sym c.in-None.ensures) in
    sym (le-ltb c.args.slot (length (valid_slots c.args.sector.now) + 2) (omega (arith, none, c.requires.from)))
