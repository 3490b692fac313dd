use Rattle.any_backend.proofs.Blanks.{blank_undamaged, blank_empty, blank_rests}
use Rattle.any_backend.proofs.laws.blank_areas.Goals as goal

pub returns : goal.returns
returns c = record { undamaged = blank_undamaged; empty = blank_empty; rests = blank_rests }
