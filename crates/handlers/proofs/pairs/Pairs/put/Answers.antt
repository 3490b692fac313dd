use Rattle.std.proofs.Common.{ap, ◌∙◌}
use Rattle.std.specs.FinMap.{insert}
use Rattle.handlers.specs.Pairs.{Held}
use Rattle.handlers.proofs.PairLemmas.{held-put, put-held}
use Rattle.handlers.proofs.pairs.Pairs.put.Goals as goal

pub invariant_of-self-2 : goal.invariant_of-self-2
invariant_of-self-2 c = held-put c.self.inside.pairs c.insert.new.self c.in_ok-rest.rest c.in_ok-value.value c.in_ok-insert.ensures.entries c.self.invariant

pub returns-clause-ok : goal.returns-clause-ok
returns-clause-ok c =
    put-held c.self.inside.pairs c.insert.new.self c.in_ok-rest.rest c.in_ok-value.value c.in_ok-insert.ensures.entries c.self.invariant
    ∙ ap (λ (m : Held). insert m c.in_ok-rest.rest.items c.in_ok-value.value.items) c.self.view_is
    ∙ ap (λ k. insert c.args.self.now k c.in_ok-value.value.items) c.in_ok-rest.ensures
    ∙ ap (insert c.args.self.now c.args.rest.now) c.in_ok-value.ensures
