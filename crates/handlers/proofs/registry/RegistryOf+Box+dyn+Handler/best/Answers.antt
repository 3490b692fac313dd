use Rattle.std.proofs.Common.{ap, sym, ◌∙◌, map}
use Rattle.handlers.specs.Best.{best}
use Rattle.handlers.proofs.RegistryLemmas.{subtrees_rows}
use Rattle.handlers.proofs.registry.RegistryOf+Box+dyn+Handler.best.Goals as goal

pub returns : goal.returns
returns g c = c.best_row.ensures ∙ ap (λ s. best s c.args.name.now) (ap (map _) c.deref.ensures.value ∙ sym (subtrees_rows _ c.args.self.now.rows.items))
