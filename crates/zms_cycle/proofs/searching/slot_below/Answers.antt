use Rattle.zms_cycle.proofs.HoldingSteps.{slot_ending}
use Rattle.zms_cycle.proofs.searching.slot_below.Goals as goal

pub returns-clause-bytes : goal.returns-clause-bytes
returns-clause-bytes c = slot_ending c.args.sector.now c.args.end c.requires.inside c.requires.room
