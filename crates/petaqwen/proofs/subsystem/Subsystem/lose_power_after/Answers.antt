use Rattle.flash_sim.specs.Device.{After, replanned}
use Rattle.petaqwen.proofs.ReadyLemmas.{planned_ready}
use Rattle.petaqwen.proofs.subsystem.Subsystem.lose_power_after.Goals as goal

pub returns-clause-ready : goal.returns-clause-ready
returns-clause-ready g c =
    planned_ready (g.B.Flash.device c.args.self.now.board.flash) _ (replanned (g.B.Flash.device c.args.self.now.board.flash).plan (After c.args.units)) _ _ _ c.arm.ensures c.requires.ready
