use Rattle.settings_core.proofs.LawLemmas.{is_delivered}
use Rattle.settings_core.proofs.laws.each_delivery.Goals as goal

pub returns : goal.returns
returns c = is_delivered
