use Rattle.item_store.proofs.LastTables.{knows-passed}
use Rattle.item_store.proofs.latest.LastSlots.note.Goals as goal

pub returns-then-knows_of : goal.returns-then-knows_of
returns-then-knows_of c =
    λ limit before small new_id knows. c.put.ensures limit before small new_id (c.knows_of.ensures.yes_it c.if-knows_of.true) knows

-- the table does not know the id
pub returns-else-knows_of : goal.returns-else-knows_of
returns-else-knows_of c =
    λ limit before small new_id knows.
    knows-passed limit c.args.self.now before c.args.placed.now small (c.knows_of.ensures.not_it c.if-knows_of.false) knows
