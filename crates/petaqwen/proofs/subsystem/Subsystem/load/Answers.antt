use Rattle.petaqwen.proofs.ReadyLemmas.{others_ready}
use Rattle.petaqwen.proofs.subsystem.Subsystem.load.Goals as goal

pub returns-clause-ready : goal.returns-clause-ready
returns-clause-ready g c = others_ready _ _ _ _ _ c.requires.ready c.load.ensures.holds
