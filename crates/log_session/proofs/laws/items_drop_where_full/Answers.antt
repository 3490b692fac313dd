use Rattle.log_session.proofs.StoredLemmas.{blank_drops_for_room}
use Rattle.log_session.proofs.laws.items_drop_where_full.Goals as goal

pub returns : goal.returns
returns c = blank_drops_for_room
