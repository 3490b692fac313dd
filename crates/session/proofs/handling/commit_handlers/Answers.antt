use Rattle.std.proofs.Common.{sym, subst, None}
use Rattle.handlers.specs.Registry.{registered}
use Rattle.settings_core.specs.Saving.{AreLawful}
use Rattle.session.proofs.handling.commit_handlers.Goals as goal

pub returns-clause-lawful : goal.returns-clause-lawful
returns-clause-lawful g c =
    let hs = registered (λ b. (goal.Handler-dyn g (b.vtable, b.value)).state b.value) c.args.registry.now in
    λ limit lawful. subst (AreLawful limit) (sym c.commit.ensures) ((c.lawful_registry.ensures limit hs lawful).commits None)
