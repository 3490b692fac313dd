use Rattle.std.proofs.Common.{◌≡◌, ◌+◌, ◌-◌, ◌∙◌, ap, arith}
use Rattle.std.proofs.lemmas.List.{take_all}
use Rattle.flash_map.specs.declared.area.Geometry.{Geometry}
use Rattle.flash_map.specs.Area.{sector_bytes, sector_size}
use Rattle.flash_map.proofs.Places.{length-sector}
use Rattle.flash_map.proofs.calls.sector_view.Goals as goal

pub returns-clause-bytes : goal.returns-clause-bytes
returns-clause-bytes g c =
    let d = g.F.Flash.device c.args.flash.now in
    let area = c.args.area.now in
    let long = length-sector d area (g.met.F.Flash.is_lawful c.args.flash.now) c.requires.lawful c.args.sector c.requires.has_sector in
    let size : c.geometry-size.result.sector ≡ sector_size d area = ap (λ (geometry : Geometry). geometry.sector) c.geometry-size.ensures in
    c.area_view.ensures.bytes ∙ take_all (0 + c.geometry-size.result.sector - 0) (sector_bytes d area c.args.sector) (omega arith)
