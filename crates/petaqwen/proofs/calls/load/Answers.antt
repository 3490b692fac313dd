use Rattle.petaqwen.proofs.ReadyLemmas.{loads_lawful}
use Rattle.petaqwen.proofs.calls.load.Goals as goal

pub returns-clause-holds : goal.returns-clause-holds
returns-clause-holds g c =
    loads_lawful (g.F.Flash.device c.args.flash.now) c.args.settings.now.backend _ _ _ _ _ c.load.result (g.met.F.Flash.is_lawful c.args.flash.now) c.requires.lawful c.requires.stands c.requires.holds c.load.ensures
