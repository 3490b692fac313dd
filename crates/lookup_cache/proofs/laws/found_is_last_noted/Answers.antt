use Rattle.lookup_cache.proofs.HistoryLemmas.{found_last, last_noted}
use Rattle.lookup_cache.proofs.laws.found_is_last_noted.Goals as goal

pub returns : goal.returns
returns c = λ slots events id sector slot some.
    (found_last slots events id sector slot some, last_noted slots events id sector slot some)
