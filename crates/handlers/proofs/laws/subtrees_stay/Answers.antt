use Rattle.handlers.proofs.RegistryLemmas.{subtrees_kept}
use Rattle.handlers.proofs.laws.subtrees_stay.Goals as goal

pub returns : goal.returns
returns c = subtrees_kept
