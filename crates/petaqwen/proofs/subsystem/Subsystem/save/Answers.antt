use Rattle.petaqwen.proofs.ReadyLemmas.{stays_ready}
use Rattle.petaqwen.proofs.subsystem.Subsystem.save.Goals as goal

pub returns-clause-ready : goal.returns-clause-ready
returns-clause-ready g c =
    stays_ready _ _ _ _ _ _ c.requires.ready c.save.ensures.ends.0.touches.banks c.save.ensures.ends.0.area c.save.ensures.stands
