use Rattle.session.proofs.PoolLemmas.{takes-first, takes-none}
use Rattle.session.proofs.handling.take_first.Goals as goal

pub returns-in-Some : goal.returns-in-Some
returns-in-Some g c =
    takes-first (λ b. (goal.Handler-dyn g (b.vtable, b.value)).state b.value) c.args.kind c.as_slice.result.now c.args.pool.now.items c.remove.new.self.items c.as_slice.ensures.value c.in-Some.place c.remove.result c.in-Some.ensures c.remove.ensures.value c.remove.ensures.items

pub returns-in-None : goal.returns-in-None
returns-in-None g c = takes-none (λ b. (goal.Handler-dyn g (b.vtable, b.value)).state b.value) c.args.kind c.as_slice.result.now c.args.pool.now.items c.as_slice.ensures.value c.in-None.ensures
