use Rattle.std.proofs.lemmas.Bool.{false≢true}
use Rattle.item_store.proofs.FreeSteps.{marks-same}
use Rattle.item_store.proofs.free.TakenNotes.is_moot.Goals as goal

pub returns-then-not-is_moot : goal.returns-then-not-is_moot
returns-then-not-is_moot c = λ start limit before placed moot. absurd (false≢true moot)

pub returns : goal.returns
returns c =
    λ start limit before placed moot id len taken. record {
      lower = marks-same start.lower.first c.args.self.now.lower before placed c.args.id c.args.len id len (c.is_moot.ensures c.if-not-is_moot.false) taken.lower;
      upper = marks-same start.upper.first c.args.self.now.upper before placed c.args.id c.args.len id len (c.is_moot-2.ensures moot) taken.upper;
    }
