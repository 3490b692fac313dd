use Rattle.std.proofs.Common.{ℕ, List, None, sym, ap, ◌∙◌}
use Rattle.std.specs.List.{last_or}
use Rattle.item_store.proofs.OlderSteps.{within_counted, within_passed}
use Rattle.item_store.proofs.Placings.{placed_by}
use Rattle.flash_sim.specs.Device.{Device}
use Rattle.flash_map.specs.declared.area.Area.{Area}
use Rattle.flash_map.specs.Area.{geometry_of, sectors_of}
use Rattle.item_store.specs.SectorFormat.{SectorFormat, IsSectorFormat}
use Rattle.item_store.proofs.Areas.{unit_is}
use Rattle.item_store.proofs.walking.newest_at.Goals as goal

pub returns-then-counts-clause-last : goal.returns-then-counts-clause-last
returns-then-counts-clause-last g c =
    let d : Device = g.F.Flash.device c.args.flash.now in
    let area : Area = c.args.on.now.area.now in
    let k : SectorFormat = g.T.SlotSectors.format_of (geometry_of d area) in
    let sectors : List (List ℕ) = sectors_of d area in
    let law : IsSectorFormat (g.T.SlotSectors.format_of (geometry_of d area)) = g.met.T.SlotSectors.lawful (geometry_of d area) (unit_is d area (g.met.F.Flash.is_lawful c.args.flash.now) c.requires.on.area.lawful) in
    c.newest_in.ensures.last ∙ ap (last_or None) (within_counted k law sectors c.args.on.now.current c.args.place c.args.limit (sym c.counts.ensures.value ∙ c.if-counts.true))

pub returns-then-counts-clause-placed : goal.returns-then-counts-clause-placed
returns-then-counts-clause-placed g c =
    let d : Device = g.F.Flash.device c.args.flash.now in
    let area : Area = c.args.on.now.area.now in
    let k : SectorFormat = g.T.SlotSectors.format_of (geometry_of d area) in
    let sectors : List (List ℕ) = sectors_of d area in
    let law : IsSectorFormat (g.T.SlotSectors.format_of (geometry_of d area)) = g.met.T.SlotSectors.lawful (geometry_of d area) (unit_is d area (g.met.F.Flash.is_lawful c.args.flash.now) c.requires.on.area.lawful) in
    placed_by k law sectors c.args.on.now.current c.args.place c.newest_in.result (sym c.counts.ensures.value ∙ c.if-counts.true) c.newest_in.ensures.listed c.newest_in.ensures.sector

pub returns-else-counts-clause-last : goal.returns-else-counts-clause-last
returns-else-counts-clause-last g c =
    let d : Device = g.F.Flash.device c.args.flash.now in
    let area : Area = c.args.on.now.area.now in
    let k : SectorFormat = g.T.SlotSectors.format_of (geometry_of d area) in
    let sectors : List (List ℕ) = sectors_of d area in
    let law : IsSectorFormat (g.T.SlotSectors.format_of (geometry_of d area)) = g.met.T.SlotSectors.lawful (geometry_of d area) (unit_is d area (g.met.F.Flash.is_lawful c.args.flash.now) c.requires.on.area.lawful) in
    sym (ap (last_or None) (within_passed k law sectors c.args.on.now.current c.args.place c.args.limit (sym c.counts.ensures.value ∙ c.if-counts.false)))
