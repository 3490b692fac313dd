use Rattle.std.proofs.Common.{refl}
use Rattle.script_lines.proofs.reading.line_of_subtree.Goals as goal

pub returns-in-Load : goal.returns-in-Load
returns-in-Load c = rw c.in-Load.is refl

pub returns-in-Direct : goal.returns-in-Direct
returns-in-Direct c = rw c.in-Direct.is refl

pub returns-in-Save : goal.returns-in-Save
returns-in-Save c = rw c.in-Save.is refl
