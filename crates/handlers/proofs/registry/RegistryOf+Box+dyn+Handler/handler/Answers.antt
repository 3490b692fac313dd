use Rattle.std.proofs.Common.{Some, ap, ◌∙◌}
use Rattle.std.specs.Prelude.{option_map}
use Rattle.handlers.specs.Registry.{Registered}
use Rattle.handlers.proofs.RegistryLemmas.{row_found, row_missing}
use Rattle.handlers.proofs.registry.RegistryOf+Box+dyn+Handler.handler.Goals as goal

pub returns-in-Some : goal.returns-in-Some
returns-in-Some g c =
    ap Some c.handler.ensures
    ∙ ap (option_map (λ (h : Registered). h.state)) (row_found _ c.args.self.now.rows.items c.deref.result.now c.args.i c.in-Some.row.now c.deref.ensures.value c.in-Some.ensures.lookup.3.0 c.in-Some.ensures.lookup.1)

pub returns-in-None : goal.returns-in-None
returns-in-None g c = ap (option_map (λ (h : Registered). h.state)) (row_missing _ c.args.self.now.rows.items c.deref.result.now c.args.i c.deref.ensures.value c.in-None.ensures.lookup.3)
