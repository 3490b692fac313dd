use Rattle.std.proofs.Common.{ap, ◌∙◌, sym}
use Rattle.flash_map.specs.Area.{sector_bytes}
use Rattle.flash_map.specs.declared.area.Geometry.{Geometry}
use Rattle.zms_cycle.specs.Sector.{cycle_of}
use Rattle.zms_cycle.proofs.AreaFacts.{whole_range, size_is}
use Rattle.zms_cycle.proofs.reading.sector_cycle.Goals as goal

pub returns : goal.returns
returns g c =
    let size = ap (λ (shape : Geometry). shape.sector) c.geometry-size.ensures in
    c.cycle_of.ensures ∙ ap cycle_of (c.area_view.ensures.bytes ∙ whole_range (sector_bytes (g.F.Flash.device c.args.flash.now) c.args.area.now c.args.sector) c.geometry-size.result.sector (size_is (g.F.Flash.device c.args.flash.now) c.args.area.now c.args.sector c.requires (g.met.F.Flash.is_lawful c.args.flash.now) ∙ sym size))
