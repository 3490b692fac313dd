use Rattle.std.proofs.Common.{ℕ, List}
use Rattle.flash_sim.specs.Device.{Device}
use Rattle.flash_map.specs.declared.area.Area.{Area}
use Rattle.flash_map.specs.Area.{geometry_of, sectors_of}
use Rattle.item_store.specs.SectorFormat.{SectorFormat}
use Rattle.item_store.proofs.Areas.{open_inside}
use Rattle.item_store.proofs.live.live_entries.Goals as goal

pub note_behind-requires-clause-on : goal.note_behind-requires-clause-on
note_behind-requires-clause-on g c =
    let d : Device = g.F.Flash.device c.args.flash.now in
    let area : Area = c.args.on.now.area.now in
    let k : SectorFormat = g.T.SlotSectors.format_of (geometry_of d area) in
    let sectors : List (List ℕ) = sectors_of d area in
    record { area = c.requires.on.area; kept = c.requires.on.kept; current = open_inside k d area c.args.on.now.current c.requires.on.area.lawful c.requires.on.current; known = c.requires.on.known }

pub live_by-requires-clause-seen : goal.live_by-requires-clause-seen
live_by-requires-clause-seen g c =
    let d : Device = g.F.Flash.device c.args.flash.now in
    let area : Area = c.args.on.now.area.now in
    let k : SectorFormat = g.T.SlotSectors.format_of (geometry_of d area) in
    let sectors : List (List ℕ) = sectors_of d area in
    c.note_behind.ensures (c.new-seen.ensures k.ids)

pub returns : goal.returns
returns g c =
    let d : Device = g.F.Flash.device c.args.flash.now in
    let area : Area = c.args.on.now.area.now in
    let k : SectorFormat = g.T.SlotSectors.format_of (geometry_of d area) in
    let sectors : List (List ℕ) = sectors_of d area in
    c.live_by.ensures.live

pub live_by-requires-clause-none : goal.live_by-requires-clause-none
live_by-requires-clause-none g c =
    c.requires.none
