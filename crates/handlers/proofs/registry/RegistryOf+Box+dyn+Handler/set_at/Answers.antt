use Rattle.handlers.proofs.RegistryLemmas.{row_set, within_rows}
use Rattle.handlers.proofs.registry.RegistryOf+Box+dyn+Handler.set_at.Goals as goal

pub returns : goal.returns
returns g c =
    row_set _ c.args.self.now.rows.items c.args.i c.index_mut.result.now c.set.new.self c.args.rest.now c.args.value.bytes.now c.set.result
    (within_rows _ c.args.self.now.rows.items c.args.i c.requires) c.index_mut.ensures.value c.set.ensures.subtree c.set.ensures.ends
