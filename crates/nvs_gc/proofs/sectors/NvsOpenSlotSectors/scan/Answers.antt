use Rattle.std.proofs.Common.{ap}
use Rattle.flash_sim.specs.Device.{Device}
use Rattle.flash_map.specs.Area.{geometry_of}
use Rattle.nvs_store.specs.declared.scan.Scan.{Scan}
use Rattle.item_store.proofs.Areas.{open_inside}
use Rattle.nvs_format.specs.Formats.{format_of}
use Rattle.nvs_gc.proofs.sectors.NvsOpenSlotSectors.scan.Goals as goal

pub returns-in-Ok-clause-within : goal.returns-in-Ok-clause-within
returns-in-Ok-clause-within g c =
    let a : Device = g.F.Flash.device c.args.flash.now in
    open_inside (format_of (geometry_of a c.args.area.now)) a c.args.area.now c.in-Ok.scan.current c.requires.area.lawful (ap (λ (s : Scan). s.current) c.in-Ok.ensures.scan)
