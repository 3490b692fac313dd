use Rattle.item_store.proofs.SeenSteps.{seen_push}
use Rattle.item_store.proofs.seen.SeenNotes.note.Goals as goal

pub returns : goal.returns
returns c =
    λ start limit before small seen. seen_push limit c.args.self.now c.add.new.self before c.args.placed.now small c.add.ensures.bits c.add.ensures.mixed c.add.ensures.long seen
