use Rattle.std.proofs.Common.{◌≡◌, None}
use Rattle.flash_map.specs.Area.{sectors_of}
use Rattle.nvs_format.specs.Formats.{format_of}
use Rattle.item_store.proofs.CallFacts.{from_geometry}
use Rattle.nvs_gc.proofs.nvs.Nvs.delete.Goals as goal

pub returns-clause-undamaged : goal.returns-clause-undamaged
returns-clause-undamaged g c =
    let e = g.F.Flash.device c.delete.new.flash in
    let area = c.args.self.now.store.area in
    from_geometry (λ u. (format_of u).damage (sectors_of e area) ≡ None) (g.F.Flash.device c.args.flash.now) e area c.delete.ensures.touches.banks c.delete.ensures.undamaged
