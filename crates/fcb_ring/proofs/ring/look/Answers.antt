use Rattle.std.proofs.Common.{sym, ap, subst, ◌∙◌}
use Rattle.flash_map.specs.declared.area.Geometry.{Geometry}
use Rattle.fcb_ring.specs.SectorStates.{IsSector, state_of}
use Rattle.fcb_ring.proofs.AreaLemmas.{has_size, sector_is}
use Rattle.fcb_ring.proofs.ring.look.Goals as goal

pub state_of-requires : goal.state_of-requires
state_of-requires g c =
    let d = g.F.Flash.device c.args.flash.now in
    subst (λ (geometry : Geometry). IsSector geometry.unit c.sector_view.result.now) (sym c.geometry-unit.ensures)
    (sector_is (has_size d c.args.area.now (g.met.F.Flash.is_lawful c.args.flash.now) c.requires.area) c.sector_view.result.now c.sector_view.ensures.len)

pub returns : goal.returns
returns g c =
    c.state_of.ensures
    ∙ ap (λ (geometry : Geometry). state_of geometry.unit c.sector_view.result.now) c.geometry-unit.ensures
    ∙ ap (state_of _) c.sector_view.ensures.bytes
