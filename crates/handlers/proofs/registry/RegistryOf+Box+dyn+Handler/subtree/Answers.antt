use Rattle.std.proofs.Common.{ap}
use Rattle.std.specs.Prelude.{option_map}
use Rattle.handlers.specs.Registry.{Registered}
use Rattle.handlers.proofs.RegistryLemmas.{row_found}
use Rattle.handlers.proofs.registry.RegistryOf+Box+dyn+Handler.subtree.Goals as goal

pub returns : goal.returns
returns g c = ap (option_map (λ (h : Registered). h.subtree)) (row_found _ c.args.self.now.rows.items c.deref.result.now c.args.i c.in_ok-get.field-0.now c.deref.ensures.value c.in_ok-get.ensures.lookup.3.0 c.in_ok-get.ensures.lookup.1)
