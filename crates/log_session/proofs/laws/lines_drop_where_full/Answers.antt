use Rattle.log_session.proofs.ReachLemmas.{drops_where_full}
use Rattle.log_session.proofs.laws.lines_drop_where_full.Goals as goal

pub returns : goal.returns
returns c = drops_where_full
