use Rattle.mirror_session.proofs.PowerLemmas.{keeps_named}
use Rattle.mirror_session.proofs.laws.named_area_stays.Goals as goal

pub returns : goal.returns
returns c = keeps_named
