use Rattle.backend_zms.proofs.numbering.ZmsIdLayoutIdLayout.may_have.Goals as goal

pub returns : goal.returns
returns g c =
    λ not_there. c.may_stand.ensures (g.F.Flash.device c.args._flash.now) (g.met.F.Flash.is_lawful c.args._flash.now) c.requires.lawful c.requires.stands not_there
