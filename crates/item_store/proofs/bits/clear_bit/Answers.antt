use Rattle.item_store.proofs.FreeSteps.{clear_here, clear_others}
use Rattle.item_store.proofs.bits.clear_bit.Goals as goal

pub returns-clause-cleared : goal.returns-clause-cleared
returns-clause-cleared c =
    clear_here c.args.bytes.now c.args.n c.requires

pub returns-clause-others : goal.returns-clause-others
returns-clause-others c =
    clear_others c.args.bytes.now c.args.n c.requires
