use Rattle.item_store.proofs.SeenSteps.{set_here, set_others}
use Rattle.item_store.proofs.bits.set_bit.Goals as goal

pub returns-clause-set : goal.returns-clause-set
returns-clause-set c =
    set_here c.args.bytes.now c.args.n c.requires

pub returns-clause-others : goal.returns-clause-others
returns-clause-others c =
    set_others c.args.bytes.now c.args.n c.requires
