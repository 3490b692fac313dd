use Rattle.std.proofs.Common.{rules, append_assoc}
use Rattle.log_session.proofs.answer.lost_text.Goals as goal

pub returns-then-chance : goal.returns-then-chance
returns-then-chance c = rw c.if-chance.true (search (rules, append_assoc))
