use Rattle.event_ring.proofs.LogSteps.{items-report}
use Rattle.event_ring.proofs.laws.items_give_log.Goals as goal

pub returns : goal.returns
returns c = items-report
