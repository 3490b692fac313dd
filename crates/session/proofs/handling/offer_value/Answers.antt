use Rattle.std.proofs.Common.{sym, subst, Ok, List, ℕ}
use Rattle.handlers.specs.Registry.{registered}
use Rattle.backend_api.specs.Map.{IsValue}
use Rattle.session.proofs.handling.offer_value.Goals as goal

pub returns-in-Ok-clause-lawful : goal.returns-in-Ok-clause-lawful
returns-in-Ok-clause-lawful g c =
    let hs = registered (λ b. (goal.Handler-dyn g (b.vtable, b.value)).state b.value) c.args.registry.now in
    let after = registered (λ b. (goal.Handler-dyn g (b.vtable, b.value)).state b.value) c.runtime_set.new.registry in
    λ limit value lawful.
    (c.lawful_registry.ensures limit hs lawful).set_ends after c.args.name.now c.as_slice.result.now (Ok c.in-Ok.field-0) c.bytes-text.ensures.name
    (subst (λ (bytes : List ℕ). IsValue limit bytes) (sym c.as_slice.ensures) value) c.in-Ok.ensures
