use Rattle.settings_core.proofs.StoredLemmas.{holds_stored}
use Rattle.settings_core.proofs.laws.stored_values.Goals as goal

pub returns : goal.returns
returns c = holds_stored
