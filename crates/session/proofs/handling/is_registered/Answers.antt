use Rattle.std.proofs.Common.{◌<◌, ◌≤◌, sym, subst, ◌∙◌, length, arith}
use Rattle.handlers.specs.Registry.{registered}
use Rattle.session.proofs.PoolLemmas.{registered-here, registered-later, registered-nowhere}
use Rattle.session.proofs.handling.is_registered.Goals as goal

pub returns-then-is_own : goal.returns-then-is_own
returns-then-is_own g c =
    let hs = registered (λ b. (goal.Handler-dyn g (b.vtable, b.value)).state b.value) c.args.registry.now in
    let lt : c.loop-i.i < length hs = subst (λ n. c.loop-i.i < n) c.len-i-end.ensures c.loop-i-test.true in
    sym (registered-here c.args.subtree.now hs c.loop-i.i lt (sym c.is_own.ensures ∙ c.if-is_own.true))

pub loop-i-preserved : goal.loop-i-preserved
loop-i-preserved g c =
    let hs = registered (λ b. (goal.Handler-dyn g (b.vtable, b.value)).state b.value) c.args.registry.now in
    let lt : c.loop-i.i < length hs = subst (λ n. c.loop-i.i < n) c.len-i-end.ensures c.loop-i-test.true in
    registered-later c.args.subtree.now hs c.loop-i.i lt c.loop-i.invariant (sym c.is_own.ensures ∙ c.if-is_own.false)

pub returns : goal.returns
returns g c =
    let hs = registered (λ b. (goal.Handler-dyn g (b.vtable, b.value)).state b.value) c.args.registry.now in
    let past : length hs ≤ c.loop-i.i = let len = c.len-i-end.ensures in let over = c.loop-i-test.false in omega (arith, len, over) in
    sym (registered-nowhere c.args.subtree.now hs c.loop-i.i past c.loop-i.invariant)
