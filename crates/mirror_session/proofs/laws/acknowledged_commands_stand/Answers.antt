use Rattle.mirror_session.proofs.PrefixLemmas.{holds_acknowledged}
use Rattle.mirror_session.proofs.laws.acknowledged_commands_stand.Goals as goal

pub returns : goal.returns
returns c = holds_acknowledged
