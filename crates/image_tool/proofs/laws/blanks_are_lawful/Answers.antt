use Rattle.image_tool.proofs.Blanks.{blanks_are_lawful, blanks_are_not_refused}
use Rattle.image_tool.proofs.laws.blanks_are_lawful.Goals as goal

pub returns-clause-lawful : goal.returns-clause-lawful
returns-clause-lawful c = blanks_are_lawful

pub returns-clause-not_refused : goal.returns-clause-not_refused
returns-clause-not_refused c = blanks_are_not_refused
