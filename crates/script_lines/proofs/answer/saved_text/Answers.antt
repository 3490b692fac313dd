use Rattle.std.proofs.Common.{rules, append_assoc}
use Rattle.script_lines.proofs.answer.saved_text.Goals as goal

pub returns-in-Whole : goal.returns-in-Whole
returns-in-Whole c = rw c.in-Whole.is (search (rules, append_assoc))

pub returns-in-NoSpace : goal.returns-in-NoSpace
returns-in-NoSpace c = rw c.in-NoSpace.is (search (rules, append_assoc))

pub returns-in-TooMany : goal.returns-in-TooMany
returns-in-TooMany c = rw c.in-TooMany.is (search (rules, append_assoc))
