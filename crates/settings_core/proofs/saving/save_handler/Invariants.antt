use Rattle.std.proofs.Common.{◌-◌, length, take, Ok}
use Rattle.backend_api.specs.Commands.{puts_of}
use Rattle.settings_core.specs.Saving.{pairs_of, CarriesOn}
use Rattle.settings_core.proofs.saving.save_handler.Given as goal

abbrev pub invariant-loop-rest : goal.invariant-loop-rest
invariant-loop-rest g l =
    CarriesOn {T = Unit {0}} g.K.Backend.mounted_on g.K.Backend.stands g.K.Backend.runs g.K.Backend.damage g.K.Backend.room g.K.Backend.contents g.K.Backend.chance g.K.Backend.tears (g.K.Backend.mounted_on l.fn.backend) l.backend
    (g.F.Flash.device l.fn.flash) (g.F.Flash.device l.flash) (puts_of (take l.i (pairs_of l.subtree ((goal.Handler-dyn g l.handler.now).state l.handler.now.1).held))) l.fn.pairs l.pairs (Ok tt)

abbrev pub decreases-loop-rest : goal.decreases-loop-rest
decreases-loop-rest g l = length (pairs_of l.subtree ((goal.Handler-dyn g l.handler.now).state l.handler.now.1).held) - l.i
