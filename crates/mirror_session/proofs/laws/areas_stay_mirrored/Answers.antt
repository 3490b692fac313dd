use Rattle.mirror_session.proofs.PowerLemmas.{stays_mirrored}
use Rattle.mirror_session.proofs.laws.areas_stay_mirrored.Goals as goal

pub returns : goal.returns
returns c = stays_mirrored
