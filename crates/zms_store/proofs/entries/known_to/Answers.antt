use Rattle.std.proofs.Common.{◌≡◌, ℕ, ◌-◌, ◌≤◌, min, length, Option, sym, subst, arith}
use Rattle.item_laws.specs.Slots.{used_slots}
use Rattle.zms_cycle.specs.Sector.{is_valid}
use Rattle.zms_store.proofs.entries.known_to.Goals as goal

pub valid_within-requires-clause-known : goal.valid_within-requires-clause-known
valid_within-requires-clause-known c =
    subst (λ (o : Option ℕ). c.args.known ≤ length (used_slots (is_valid o) 2 16 c.args.bytes.now)) c.requires.cycle c.requires.known

pub returns-then-before-known-clause-listed : goal.returns-then-before-known-clause-listed
returns-then-before-known-clause-listed c = λ lt. omega (arith, c.if-before-known.true)

pub returns-clause-known : goal.returns-clause-known
returns-clause-known c =
    let count = subst (λ (o : Option ℕ). c.valid_within.result ≡ min (c.args.slot - 1) (length (used_slots (is_valid o) 2 16 c.args.bytes.now))) (sym c.requires.cycle) c.valid_within.ensures in
    omega (arith, count)

pub returns-clause-listed : goal.returns-clause-listed
returns-clause-listed c =
    let count = subst (λ (o : Option ℕ). c.valid_within.result ≡ min (c.args.slot - 1) (length (used_slots (is_valid o) 2 16 c.args.bytes.now))) (sym c.requires.cycle) c.valid_within.ensures in
    λ lt. omega (arith, count, lt)
