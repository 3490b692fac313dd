use Rattle.item_store.proofs.VersionLemmas.{newest-is}
use Rattle.item_store.proofs.laws.newest_version.Goals as goal

pub returns : goal.returns
returns c = newest-is
