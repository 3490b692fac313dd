use Rattle.zms_cycle.proofs.StepBounds.{bounded}
use Rattle.zms_cycle.proofs.laws.steps_are_bounded.Goals as goal

pub returns : goal.returns
returns c = record { bounded = bounded }
