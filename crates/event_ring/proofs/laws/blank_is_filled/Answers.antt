use Rattle.event_ring.proofs.FullLemmas.{blank-filled}
use Rattle.event_ring.proofs.laws.blank_is_filled.Goals as goal

pub returns : goal.returns
returns c = blank-filled
