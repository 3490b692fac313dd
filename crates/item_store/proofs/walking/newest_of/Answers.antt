use Rattle.std.proofs.Common.{ℕ, List, None, ap, ◌∙◌, arith}
use Rattle.std.specs.List.{last_or}
use Rattle.item_store.proofs.OlderSteps.{within_whole}
use Rattle.flash_sim.specs.Device.{Device}
use Rattle.flash_map.specs.declared.area.Area.{Area}
use Rattle.flash_map.specs.Area.{geometry_of, sectors_of}
use Rattle.item_store.specs.SectorFormat.{SectorFormat, IsSectorFormat}
use Rattle.item_store.proofs.Areas.{unit_is}
use Rattle.item_store.proofs.walking.newest_of.Goals as goal

pub returns-clause-last : goal.returns-clause-last
returns-clause-last g c =
    let d : Device = g.F.Flash.device c.args.flash.now in
    let area : Area = c.args.on.now.area.now in
    let k : SectorFormat = g.T.SlotSectors.format_of (geometry_of d area) in
    let sectors : List (List ℕ) = sectors_of d area in
    let law : IsSectorFormat (g.T.SlotSectors.format_of (geometry_of d area)) = g.met.T.SlotSectors.lawful (geometry_of d area) (unit_is d area (g.met.F.Flash.is_lawful c.args.flash.now) c.requires.on.area.lawful) in
    c.newest_at.ensures.last ∙ ap (last_or None) (within_whole k law sectors c.args.on.now.current c.args.place c.slots-all.result (omega (arith, c.slots-all.ensures.value)))
