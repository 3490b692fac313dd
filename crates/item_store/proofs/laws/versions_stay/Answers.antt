use Rattle.item_store.proofs.VersionLemmas as lemmas
use Rattle.item_store.proofs.laws.versions_stay.Goals as goal

pub returns-clause-items : goal.returns-clause-items
returns-clause-items c = lemmas.versions-items

pub returns-clause-again : goal.returns-clause-again
returns-clause-again c = lemmas.keeps_more

pub returns-clause-more : goal.returns-clause-more
returns-clause-more c = lemmas.keeps-push

pub returns-clause-collection : goal.returns-clause-collection
returns-clause-collection c = lemmas.collected-versions

pub returns-clause-round : goal.returns-clause-round
returns-clause-round c = lemmas.round-versions
