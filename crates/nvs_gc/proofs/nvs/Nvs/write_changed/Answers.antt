use Rattle.std.proofs.Common.{◌≡◌, None}
use Rattle.flash_map.specs.Area.{sectors_of}
use Rattle.nvs_format.specs.Formats.{format_of}
use Rattle.item_store.proofs.CallFacts.{from_geometry}
use Rattle.nvs_gc.proofs.nvs.Nvs.write_changed.Goals as goal

pub returns-clause-undamaged : goal.returns-clause-undamaged
returns-clause-undamaged g c =
    let e = g.F.Flash.device c.write_changed.new.flash in
    let area = c.args.self.now.store.area in
    from_geometry (λ u. (format_of u).damage (sectors_of e area) ≡ None) (g.F.Flash.device c.args.flash.now) e area c.write_changed.ensures.touches.banks c.write_changed.ensures.undamaged
