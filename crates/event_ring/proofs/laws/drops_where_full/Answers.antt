use Rattle.event_ring.proofs.FullLemmas.{drops-full}
use Rattle.event_ring.proofs.laws.drops_where_full.Goals as goal

pub returns : goal.returns
returns c = drops-full
