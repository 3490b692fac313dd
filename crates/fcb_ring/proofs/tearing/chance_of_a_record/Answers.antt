use Rattle.fcb_ring.proofs.ChanceLemmas.{reports-chance}
use Rattle.fcb_ring.proofs.tearing.chance_of_a_record.Goals as goal

pub returns : goal.returns
returns c = reports-chance
