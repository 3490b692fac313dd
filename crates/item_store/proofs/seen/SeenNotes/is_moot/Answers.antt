use Rattle.std.proofs.lemmas.Bool.{false≢true}
use Rattle.item_store.proofs.seen.SeenNotes.is_moot.Goals as goal

pub returns : goal.returns
returns c = λ start limit before placed moot. absurd (false≢true moot)
