use Rattle.mirror_session.proofs.PowerLemmas.{keeps_names_read}
use Rattle.mirror_session.proofs.laws.named_area_is_read.Goals as goal

pub returns : goal.returns
returns c = keeps_names_read
