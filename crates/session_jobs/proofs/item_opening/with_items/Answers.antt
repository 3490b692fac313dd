use Rattle.std.proofs.Common.{refl}
use Rattle.session_jobs.proofs.ItemInputLemmas.{no_plain_items}
use Rattle.session_jobs.proofs.item_opening.with_items.Goals as goal

pub returns-in-None : goal.returns-in-None
returns-in-None c = (refl, no_plain_items c.args.image.map c.in-None.ensures)
