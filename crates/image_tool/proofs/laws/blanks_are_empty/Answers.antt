use Rattle.image_tool.proofs.Generated.{specs_are_empty}
use Rattle.image_tool.proofs.laws.blanks_are_empty.Goals as goal

pub returns : goal.returns
returns c = specs_are_empty
