use Rattle.item_store.proofs.VersionLemmas.{versions-more}
use Rattle.item_store.proofs.laws.one_version_more.Goals as goal

pub returns : goal.returns
returns c = versions-more
