use Rattle.std.proofs.Common.{ap, ◌∙◌}
use Rattle.flash_sim.specs.Device.{Device}
use Rattle.flash_sim.specs.declared.flash.Kind.{Kind}
use Rattle.flash_map.specs.declared.area.Area.{Area}
use Rattle.flash_map.specs.declared.area.Geometry.{Geometry}
use Rattle.zms_cycle.specs.Areas.{kind_on}
use Rattle.zms_format.specs.Area.{is_clean}
use Rattle.zms_store.proofs.sectors.ZmsOpenSlotSectors.is_clean.Goals as goal

pub returns : goal.returns
returns g c =
    let a : Device = g.F.Flash.device c.args.flash.now in
    let area : Area = c.args.area.now in
    c.is_clean.ensures ∙ ap (λ (k : Kind). is_clean k c.sector_view.result.now) (ap (λ (s : Geometry). s.kind) c.geometry-kind.ensures) ∙ ap (is_clean (kind_on a area)) c.sector_view.ensures.bytes
