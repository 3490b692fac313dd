use Rattle.std.proofs.Common.{◌≡◌, true, false, rules, tests}
use Rattle.std.proofs.lemmas.Iterator.{IsFirst-from_position, YieldsList-from_slice}
use Rattle.session_table.specs.Step.{same_kind}
use Rattle.session.proofs.PoolLemmas.{first-placed}
use Rattle.session.proofs.handling.first_of.Goals as goal

pub returns : goal.returns
returns g c =
    first-placed (λ b. ((goal.Handler-dyn g (b.vtable, b.value)).state b.value).kind) c.args.kind c.args.pool.now c.position.result
    (IsFirst-from_position _ _ c.position.result (λ b. same_kind c.args.kind ((goal.Handler-dyn g (b.vtable, b.value)).state b.value).kind ≡ true) (λ b. same_kind c.args.kind ((goal.Handler-dyn g (b.vtable, b.value)).state b.value).kind ≡ false) c.position.ensures.ran (YieldsList-from_slice c.args.pool.now cc) (λ x q k. search (rules, tests)) (λ x q k. search (rules, tests)))
