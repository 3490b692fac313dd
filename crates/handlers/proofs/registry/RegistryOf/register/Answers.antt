use Rattle.std.proofs.Common.{◌≡◌, false, map, sym, subst, ◌∙◌}
use Rattle.handlers.specs.Best.{AreDistinct}
use Rattle.handlers.specs.Registry.{has_subtree}
use Rattle.handlers.proofs.RegistryLemmas.{distinct_pushed}
use Rattle.handlers.proofs.registry.RegistryOf.register.Goals as goal

pub returns-in-Ok-clause-distinct : goal.returns-in-Ok-clause-distinct
returns-in-Ok-clause-distinct g c distinct =
    subst (λ rows. AreDistinct (map (λ row. row.subtree) rows)) (sym c.in-Ok.ensures.items)
    (distinct_pushed c.args.self.now.rows.items c.args.subtree c.args.handler
    (subst (λ rows. has_subtree rows c.args.subtree ≡ false) c.deref.ensures.value (sym c.any_has.ensures ∙ c.if-any_has.false)) distinct)
