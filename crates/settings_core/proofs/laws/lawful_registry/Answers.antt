use Rattle.settings_core.proofs.LawfulLemmas.{stays_lawful}
use Rattle.settings_core.proofs.laws.lawful_registry.Goals as goal

pub returns : goal.returns
returns c = stays_lawful
