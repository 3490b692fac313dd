use Rattle.mirror_session.proofs.PowerLemmas.{loses_power}
use Rattle.mirror_session.proofs.laws.power_follows_losses.Goals as goal

pub returns : goal.returns
returns c = loses_power
