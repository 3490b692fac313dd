use Rattle.std.proofs.Common.{sym, ◌∙◌}
use Rattle.flash_sim.specs.Device.{Device}
use Rattle.flash_map.specs.Area.{sectors_of}
use Rattle.zms_cycle.specs.Areas.{kind_on}
use Rattle.zms_format.proofs.Damages.{open_is}
use Rattle.zms_format.proofs.mounting.scan.Goals as goal

pub returns-clause-current : goal.returns-clause-current
returns-clause-current g c =
    let d : Device = g.F.Flash.device c.args.flash.now in
    c.open_place-current.ensures.value ∙ sym (open_is (kind_on d c.args.area.now) (sectors_of d c.args.area.now) (sym c.damage.ensures ∙ c.in_default.is))
