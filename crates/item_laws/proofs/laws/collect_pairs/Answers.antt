use Rattle.item_laws.proofs.LivePairs as lemmas
use Rattle.item_laws.proofs.laws.collect_pairs.Goals as goal

pub returns-clause-items : goal.returns-clause-items
returns-clause-items c = lemmas.collected

pub returns-clause-marks : goal.returns-clause-marks
returns-clause-marks c = lemmas.marks_hide_nothing
