use Rattle.image_tool.proofs.Alike.{logs_owe_alike, mirrors_owe_alike, settings_owe_alike}
use Rattle.image_tool.proofs.laws.areas_owe_alike.Goals as goal

pub returns-clause-settings : goal.returns-clause-settings
returns-clause-settings c = settings_owe_alike

pub returns-clause-log : goal.returns-clause-log
returns-clause-log c = logs_owe_alike

pub returns-clause-mirror : goal.returns-clause-mirror
returns-clause-mirror c = mirrors_owe_alike
