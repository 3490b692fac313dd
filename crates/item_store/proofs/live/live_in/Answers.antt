use Rattle.std.proofs.Common.{ℕ, List, sym, ◌∙◌}
use Rattle.item_store.proofs.LiveSteps.{live_here, none_live}
use Rattle.flash_sim.specs.Device.{Device}
use Rattle.flash_map.specs.declared.area.Area.{Area}
use Rattle.flash_map.specs.Area.{geometry_of, sectors_of}
use Rattle.item_store.specs.SectorFormat.{SectorFormat}
use Rattle.item_store.proofs.live.live_in.Goals as goal

pub returns-then-live-clause-entry : goal.returns-then-live-clause-entry
returns-then-live-clause-entry g c =
    let d : Device = g.F.Flash.device c.args.flash.now in
    let area : Area = c.args.area.now in
    let k : SectorFormat = g.T.SlotSectors.format_of (geometry_of d area) in
    let sectors : List (List ℕ) = sectors_of d area in
    live_here k sectors c.args.place c.args.slot c.entry_in.result c.entry_in.ensures.entry (sym c.requires.live ∙ c.if-live.true)

pub returns-else-live-clause-entry : goal.returns-else-live-clause-entry
returns-else-live-clause-entry g c =
    let d : Device = g.F.Flash.device c.args.flash.now in
    let area : Area = c.args.area.now in
    let k : SectorFormat = g.T.SlotSectors.format_of (geometry_of d area) in
    let sectors : List (List ℕ) = sectors_of d area in
    none_live k sectors c.args.place c.args.slot (sym c.requires.live ∙ c.if-live.false)
