use Rattle.item_store.proofs.SeenSteps.{seen_none}
use Rattle.item_store.proofs.seen.Seen.new.Goals as goal

pub returns : goal.returns
returns c =
    λ limit. seen_none limit
