use Rattle.std.proofs.Common.{ap, ◌∙◌, sym}
use Rattle.flash_sim.specs.declared.flash.Kind.{Kind}
use Rattle.flash_map.specs.Area.{sector_bytes}
use Rattle.flash_map.specs.declared.area.Geometry.{Geometry}
use Rattle.zms_cycle.specs.Areas.{kind_on}
use Rattle.zms_cycle.specs.States.{state_of}
use Rattle.zms_cycle.proofs.AreaFacts.{whole_range, size_is}
use Rattle.zms_cycle.proofs.reading.state.Goals as goal

pub returns-clause-state : goal.returns-clause-state
returns-clause-state g c =
    let d = g.F.Flash.device c.args.flash.now in
    let size = ap (λ (shape : Geometry). shape.sector) c.geometry-geometry.ensures in
    let kind = ap (λ (shape : Geometry). shape.kind) c.geometry-geometry.ensures in
    c.read_sector.ensures ∙ ap (λ (k : Kind). state_of k c.area_view-bytes.result.now) kind ∙ ap (state_of (kind_on d c.args.area.now)) (c.area_view-bytes.ensures.bytes ∙ whole_range (sector_bytes d c.args.area.now c.args.sector) c.geometry-geometry.result.sector (size_is d c.args.area.now c.args.sector c.requires (g.met.F.Flash.is_lawful c.args.flash.now) ∙ sym size))
