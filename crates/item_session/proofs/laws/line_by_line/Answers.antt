use Rattle.item_session.proofs.RunLemmas.{lines_make_runs}
use Rattle.item_session.proofs.laws.line_by_line.Goals as goal

pub returns : goal.returns
returns c = lines_make_runs
