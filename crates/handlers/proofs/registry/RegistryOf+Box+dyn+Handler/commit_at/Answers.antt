use Rattle.handlers.proofs.RegistryLemmas.{row_committed, within_rows}
use Rattle.handlers.proofs.registry.RegistryOf+Box+dyn+Handler.commit_at.Goals as goal

pub returns : goal.returns
returns g c =
    row_committed _ c.args.self.now.rows.items c.args.i c.index_mut.result.now c.commit.new.self
    (within_rows _ c.args.self.now.rows.items c.args.i c.requires) c.index_mut.ensures.value c.commit.ensures.subtree c.commit.ensures.ends
