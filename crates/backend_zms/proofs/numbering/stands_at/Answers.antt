use Rattle.flash_map.specs.Area.{value_limit}
use Rattle.flash_map.specs.On.{on}
use Rattle.backend_zms.proofs.CandidateSteps.{unnamed}
use Rattle.backend_zms.proofs.numbering.stands_at.Goals as goal

pub returns-in-None-clause-not_it : goal.returns-in-None-clause-not_it
returns-in-None-clause-not_it g c = λ is.
    let area = g.S.ItemStore.mounted_on c.args.store.now in
    unnamed (value_limit area) (on g.S.ItemStore.contents (g.F.Flash.device c.args.flash.now) area) c.args.id c.in-None.ensures
