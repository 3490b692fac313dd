use Rattle.item_store.proofs.FreeSteps.{marks-push}
use Rattle.item_store.proofs.free.TakenNotes.note.Goals as goal

pub returns : goal.returns
returns c =
    λ start limit before small taken. record {
      lower = marks-push start.lower.first c.args.self.now.lower c.note.new.self before c.args.placed.now c.note.ensures.first c.note.ensures.bits taken.lower;
      upper = marks-push start.upper.first c.args.self.now.upper c.note-2.new.self before c.args.placed.now c.note-2.ensures.first c.note-2.ensures.bits taken.upper;
    }
