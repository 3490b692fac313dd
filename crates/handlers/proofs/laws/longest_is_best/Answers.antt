use Rattle.handlers.proofs.LongestLemmas.{longest, one_longest, none_matches}
use Rattle.handlers.proofs.laws.longest_is_best.Goals as goal

pub returns-clause-longest : goal.returns-clause-longest
returns-clause-longest c = longest

pub returns-clause-one : goal.returns-clause-one
returns-clause-one c = one_longest

pub returns-clause-none : goal.returns-clause-none
returns-clause-none c = none_matches
