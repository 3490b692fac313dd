use Rattle.std.proofs.Common.{ℕ, subst, arith}
use Rattle.nvs_store.specs.Holding.{HasNamed}
use Rattle.nvs_store.proofs.LastLemmas.{few_slots}
use Rattle.nvs_store.proofs.holding.are_named.Goals as goal

pub returns-then-skipped-bytes-clause-lower : goal.returns-then-skipped-bytes-clause-lower
returns-then-skipped-bytes-clause-lower c =
    let few = few_slots c.args.unit c.args.bytes.now in
    λ slot from to. absurd (omega (arith, from, to, few, c.if-skipped-bytes.true))

pub returns-then-skipped-bytes-clause-upper : goal.returns-then-skipped-bytes-clause-upper
returns-then-skipped-bytes-clause-upper c =
    let few = few_slots c.args.unit c.args.bytes.now in
    λ slot from to. absurd (omega (arith, from, to, few, c.if-skipped-bytes.true))

pub returns-then-lower-upper-clause-lower : goal.returns-then-lower-upper-clause-lower
returns-then-lower-upper-clause-lower c = c.is_named-one.ensures

pub returns-then-lower-upper-clause-upper : goal.returns-then-lower-upper-clause-upper
returns-then-lower-upper-clause-upper c = subst (λ (id : ℕ). HasNamed c.args.unit c.args.bytes.now id c.args.skipped c.is_named-one.result) c.if-lower-upper.true c.is_named-one.ensures

pub returns-clause-lower : goal.returns-clause-lower
returns-clause-lower c = c.is_named-one.ensures

pub returns-clause-upper : goal.returns-clause-upper
returns-clause-upper c = c.is_named.ensures
