use Rattle.item_store.proofs.FreeSteps.{marks-none}
use Rattle.item_store.proofs.free.Marks.new.Goals as goal

pub returns-clause-none : goal.returns-clause-none
returns-clause-none c =
    marks-none c.args.first
