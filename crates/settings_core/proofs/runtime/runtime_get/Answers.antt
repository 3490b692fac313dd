use Rattle.std.proofs.Common.{sym, ◌∙◌}
use Rattle.handlers.specs.Registry.{registered}
use Rattle.settings_core.proofs.OfferLemmas.{best_within}
use Rattle.settings_core.proofs.runtime.runtime_get.Goals as goal

pub returns-in_default : goal.returns-in_default
returns-in_default g c = sym c.best.ensures ∙ c.in_default.is

pub subtree_at-subtree-requires : goal.subtree_at-subtree-requires
subtree_at-subtree-requires g c =
    best_within (registered (λ b. (goal.Handler-dyn g (b.vtable, b.value)).state b.value) c.args.registry.now) c.args.name.now c.in-Some.place (sym c.best.ensures ∙ c.in-Some.is)

pub handler_at-requires : goal.handler_at-requires
handler_at-requires g c =
    best_within (registered (λ b. (goal.Handler-dyn g (b.vtable, b.value)).state b.value) c.args.registry.now) c.args.name.now c.in-Some.place (sym c.best.ensures ∙ c.in-Some.is)
