use Rattle.std.proofs.Common.{ℕ, ◌<◌, List, length, arith}
use Rattle.flash_sim.specs.Device.{Device}
use Rattle.flash_map.specs.declared.area.Area.{Area}
use Rattle.flash_map.specs.Area.{geometry_of, sectors_of}
use Rattle.item_laws.proofs.AreaReads.{length-sectors}
use Rattle.item_store.specs.SectorFormat.{SectorFormat}
use Rattle.item_store.proofs.Areas.{open_inside}
use Rattle.item_store.proofs.LastsWalk.{start-at, start-none}
use Rattle.item_store.proofs.lasts.Lasts.start.Goals as goal

pub reach_at-requires-clause-on : goal.reach_at-requires-clause-on
reach_at-requires-clause-on g c =
    let d : Device = g.F.Flash.device c.args.flash.now in
    let area : Area = c.args.on.now.area.now in
    let k : SectorFormat = g.T.SlotSectors.format_of (geometry_of d area) in
    record { area = c.requires.on.area; kept = c.requires.on.kept; current = open_inside k d area c.args.on.now.current c.requires.on.area.lawful c.requires.on.current; known = c.requires.on.known }

pub reach_at-requires-clause-inside : goal.reach_at-requires-clause-inside
reach_at-requires-clause-inside g c =
    let d : Device = g.F.Flash.device c.args.flash.now in
    let area : Area = c.args.on.now.area.now in
    let k : SectorFormat = g.T.SlotSectors.format_of (geometry_of d area) in
    open_inside k d area c.args.on.now.current c.requires.on.area.lawful c.requires.on.current

pub returns-clause-at : goal.returns-clause-at
returns-clause-at g c =
    let d : Device = g.F.Flash.device c.args.flash.now in
    let area : Area = c.args.on.now.area.now in
    let k : SectorFormat = g.T.SlotSectors.format_of (geometry_of d area) in
    let sectors : List (List ℕ) = sectors_of d area in
    let long = length-sectors d area in
    let within = open_inside k d area c.args.on.now.current c.requires.on.area.lawful c.requires.on.current in
    let low : c.args.on.now.current < length sectors = omega arith in
    start-at k sectors c.args.on.now.current low c.reach_at.result c.args.least c.args.most c.reach_at.ensures.few c.reach_at.ensures.small (λ _. c.reach_at.ensures.others) c.requires.range (λ _. c.reach_at.ensures.counts)

pub returns-clause-none : goal.returns-clause-none
returns-clause-none g c =
    let d : Device = g.F.Flash.device c.args.flash.now in
    let area : Area = c.args.on.now.area.now in
    let k : SectorFormat = g.T.SlotSectors.format_of (geometry_of d area) in
    let sectors : List (List ℕ) = sectors_of d area in
    let long = length-sectors d area in
    let within = open_inside k d area c.args.on.now.current c.requires.on.area.lawful c.requires.on.current in
    let low : c.args.on.now.current < length sectors = omega arith in
    start-none k sectors c.args.on.now.current low c.reach_at.result c.args.least c.args.most c.reach_at.ensures.few c.reach_at.ensures.small (λ _. c.reach_at.ensures.others)
