use Rattle.std.proofs.Common.{refl}
use Rattle.script_lines.proofs.reading.line_of_name.Goals as goal

pub returns-in-Get : goal.returns-in-Get
returns-in-Get c = rw c.in-Get.is refl

pub returns-in-Del : goal.returns-in-Del
returns-in-Del c = rw c.in-Del.is refl

pub returns-in-RunGet : goal.returns-in-RunGet
returns-in-RunGet c = rw c.in-RunGet.is refl
