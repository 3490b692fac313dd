use Rattle.lookup_cache.proofs.HistoryLemmas.{without-outside}
use Rattle.lookup_cache.proofs.laws.forgotten_sector.Goals as goal

pub returns : goal.returns
returns c = without-outside
