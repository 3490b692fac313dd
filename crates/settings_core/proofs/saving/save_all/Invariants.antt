use Rattle.std.proofs.Common.{◌-◌, length, take, option_map, Ok}
use Rattle.handlers.specs.Registry.{registered}
use Rattle.backend_api.specs.Commands.{puts_of}
use Rattle.settings_core.specs.Saving.{exported, CarriesOn}
use Rattle.settings_core.proofs.saving.save_all.Given as goal

abbrev pub invariant-loop-i : goal.invariant-loop-i
invariant-loop-i g l =
    CarriesOn {T = Unit {0}} g.K.Backend.mounted_on g.K.Backend.stands g.K.Backend.runs g.K.Backend.damage g.K.Backend.room g.K.Backend.contents g.K.Backend.chance g.K.Backend.tears (g.K.Backend.mounted_on l.fn.backend) l.backend
    (g.F.Flash.device l.fn.flash) (g.F.Flash.device l.flash) (puts_of (exported (option_map (λ name. name.now) l.subtree) (take l.i (registered (λ b. (goal.Handler-dyn g (b.vtable, b.value)).state b.value) l.registry)))) l.fn.pairs l.pairs (Ok tt)

abbrev pub decreases-loop-i : goal.decreases-loop-i
decreases-loop-i g l = length l.registry.rows.items - l.i
