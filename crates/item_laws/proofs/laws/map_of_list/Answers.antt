use Rattle.item_laws.proofs.ItemLemmas as lemmas
use Rattle.item_laws.proofs.laws.map_of_list.Goals as goal

pub returns-clause-last : goal.returns-clause-last
returns-clause-last c = lemmas.get-items_of

pub returns-clause-more : goal.returns-clause-more
returns-clause-more c = lemmas.items_of-push

pub returns-clause-same : goal.returns-clause-same
returns-clause-same c = lemmas.same_map
