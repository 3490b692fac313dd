use Rattle.std.proofs.Common.{[], ◌∷◌}
use Rattle.flash_sim.specs.Device.{Device}
use Rattle.flash_map.specs.On.{on}
use Rattle.mirror.proofs.MirrorEnds.{refused-touches}
use Rattle.mirror.proofs.OwingSteps.{refused-lost}
use Rattle.mirror.proofs.mirror.Mirror.set.Goals as goal

pub returns-in-Err-clause-touches : goal.returns-in-Err-clause-touches
returns-in-Err-clause-touches g c =
    let d : Device = g.F.Flash.device c.args.flash.now in
    refused-touches (Unit {0}) g.K.Backend.room d c.args.self.now.trusted c.args.self.now.other (c.args.self.now.trusted.area ∷ c.args.self.now.other.area ∷ []) (on g.K.Backend.contents d c.args.self.now.trusted.area) c.args.name.now c.args.value.now c.in-Err.fault c.in-Err.ensures.ends

pub returns-in-Err-clause-owes : goal.returns-in-Err-clause-owes
returns-in-Err-clause-owes g c lost =
    let d : Device = g.F.Flash.device c.args.flash.now in
    absurd (refused-lost (Unit {0}) g.K.Backend.room d c.args.self.now.trusted c.args.self.now.other (on g.K.Backend.contents d c.args.self.now.trusted.area) c.args.name.now c.args.value.now c.in-Err.fault c.in-Err.ensures.ends lost)

pub returns-in-Ok-clause-down : goal.returns-in-Ok-clause-down
returns-in-Ok-clause-down g c lost = (c.put_both.ensures.cut lost).0

pub returns-in-Ok-clause-owes : goal.returns-in-Ok-clause-owes
returns-in-Ok-clause-owes g c lost = (c.put_both.ensures.cut lost).1
