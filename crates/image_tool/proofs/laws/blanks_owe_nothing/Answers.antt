use Rattle.image_tool.proofs.BlankOwing.{logs_owe_nothing, mirrors_owe_nothing}
use Rattle.image_tool.proofs.laws.blanks_owe_nothing.Goals as goal

pub returns-clause-log : goal.returns-clause-log
returns-clause-log c = logs_owe_nothing

pub returns-clause-mirror : goal.returns-clause-mirror
returns-clause-mirror c = mirrors_owe_nothing
