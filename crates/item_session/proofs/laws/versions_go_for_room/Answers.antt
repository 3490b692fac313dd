use Rattle.item_session.proofs.FitLemmas.{forgets_for_room}
use Rattle.item_session.proofs.laws.versions_go_for_room.Goals as goal

pub returns : goal.returns
returns c = forgets_for_room
