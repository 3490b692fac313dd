use Rattle.event_ring.proofs.ScriptLemmas.{drops-reached}
use Rattle.event_ring.proofs.laws.drops_only_where_full.Goals as goal

pub returns : goal.returns
returns c = drops-reached
