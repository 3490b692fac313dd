use Rattle.std.proofs.Common.{rules, append_assoc}
use Rattle.item_session.proofs.answer.space_text.Goals as goal

pub returns : goal.returns
returns c = search (rules, append_assoc)
