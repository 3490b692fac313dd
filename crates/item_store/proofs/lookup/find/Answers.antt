use Rattle.std.proofs.Common.{ℕ, List, sym, ◌∙◌, arith}
use Rattle.flash_sim.specs.Device.{Device}
use Rattle.flash_map.specs.Area.{geometry_of, sectors_of}
use Rattle.item_laws.proofs.AreaReads.{length-sectors}
use Rattle.item_laws.proofs.LastLemmas.{newest-decides, older-decides}
use Rattle.item_store.specs.SectorFormat.{SectorFormat, slots}
use Rattle.item_store.proofs.Areas.{open_inside}
use Rattle.item_store.proofs.lookup.find.Goals as goal

pub overflow_add-on : goal.overflow_add-on
overflow_add-on g c =
    let d : Device = g.F.Flash.device c.args.flash.now in
    let k : SectorFormat = g.T.SlotSectors.format_of (geometry_of d c.args.on.now.area.now) in
    let within = open_inside k d c.args.on.now.area.now c.args.on.now.current c.requires.on.area.lawful c.requires.on.current in
    omega (arith, c.requires.on.area.lawful.few)

pub find_among-newest-requires-clause-on : goal.find_among-newest-requires-clause-on
find_among-newest-requires-clause-on g c =
    let d : Device = g.F.Flash.device c.args.flash.now in
    record { area = c.requires.on.area; kept = c.requires.on.kept; current = open_inside (g.T.SlotSectors.format_of (geometry_of d c.args.on.now.area.now)) d c.args.on.now.area.now c.args.on.now.current c.requires.on.area.lawful c.requires.on.current; known = c.requires.on.known }

pub find_among-newest-requires-clause-inside : goal.find_among-newest-requires-clause-inside
find_among-newest-requires-clause-inside g c =
    let d : Device = g.F.Flash.device c.args.flash.now in
    let within = open_inside (g.T.SlotSectors.format_of (geometry_of d c.args.on.now.area.now)) d c.args.on.now.area.now c.args.on.now.current c.requires.on.area.lawful c.requires.on.current in
    omega arith

pub returns-then-is_some-clause-last : goal.returns-then-is_some-clause-last
returns-then-is_some-clause-last g c =
    let d : Device = g.F.Flash.device c.args.flash.now in
    let k : SectorFormat = g.T.SlotSectors.format_of (geometry_of d c.args.on.now.area.now) in
    let sectors : List (List ℕ) = sectors_of d c.args.on.now.area.now in
    newest-decides (slots k) sectors c.args.on.now.current c.args.id c.args.on.now.area.now.sectors c.find_among-newest.result (sym (length-sectors d c.args.on.now.area.now)) (sym c.requires.on.current) c.find_among-newest.ensures.last (sym c.is_some.ensures ∙ c.if-is_some.true)

pub overflow_add-on-2 : goal.overflow_add-on-2
overflow_add-on-2 g c =
    let d : Device = g.F.Flash.device c.args.flash.now in
    let k : SectorFormat = g.T.SlotSectors.format_of (geometry_of d c.args.on.now.area.now) in
    let within = open_inside k d c.args.on.now.area.now c.args.on.now.current c.requires.on.area.lawful c.requires.on.current in
    omega (arith, c.requires.on.area.lawful.few)

pub find_among-requires-clause-on : goal.find_among-requires-clause-on
find_among-requires-clause-on g c =
    let d : Device = g.F.Flash.device c.args.flash.now in
    record { area = c.requires.on.area; kept = c.requires.on.kept; current = open_inside (g.T.SlotSectors.format_of (geometry_of d c.args.on.now.area.now)) d c.args.on.now.area.now c.args.on.now.current c.requires.on.area.lawful c.requires.on.current; known = c.requires.on.known }

pub find_among-requires-clause-order : goal.find_among-requires-clause-order
find_among-requires-clause-order g c =
    let d : Device = g.F.Flash.device c.args.flash.now in
    let within = open_inside (g.T.SlotSectors.format_of (geometry_of d c.args.on.now.area.now)) d c.args.on.now.area.now c.args.on.now.current c.requires.on.area.lawful c.requires.on.current in
    omega arith

pub returns-clause-last : goal.returns-clause-last
returns-clause-last g c =
    let d : Device = g.F.Flash.device c.args.flash.now in
    let k : SectorFormat = g.T.SlotSectors.format_of (geometry_of d c.args.on.now.area.now) in
    let sectors : List (List ℕ) = sectors_of d c.args.on.now.area.now in
    older-decides (slots k) sectors c.args.on.now.current c.args.id c.args.on.now.area.now.sectors c.find_among-newest.result c.find_among.result (sym (length-sectors d c.args.on.now.area.now)) (sym c.requires.on.current) c.find_among-newest.ensures.last (sym c.is_some.ensures ∙ c.if-is_some.false) c.find_among.ensures.last

pub returns-then-is_some-clause-steps : goal.returns-then-is_some-clause-steps
returns-then-is_some-clause-steps g c =
    let d : Device = g.F.Flash.device c.args.flash.now in
    let within = open_inside (g.T.SlotSectors.format_of (geometry_of d c.args.on.now.area.now)) d c.args.on.now.area.now c.args.on.now.current c.requires.on.area.lawful c.requires.on.current in
    omega (arith, within, c.ignored_sector-ignored.ensures.step, c.find_among-newest.ensures.steps)

pub returns-clause-steps : goal.returns-clause-steps
returns-clause-steps g c =
    let d : Device = g.F.Flash.device c.args.flash.now in
    let within = open_inside (g.T.SlotSectors.format_of (geometry_of d c.args.on.now.area.now)) d c.args.on.now.area.now c.args.on.now.current c.requires.on.area.lawful c.requires.on.current in
    omega (arith, within, c.ignored_sector-ignored.ensures.step, c.find_among-newest.ensures.steps, c.find_among.ensures.steps)

pub ignored_sector-ignored-requires : goal.ignored_sector-ignored-requires
ignored_sector-ignored-requires g c =
    let d : Device = g.F.Flash.device c.args.flash.now in
    record { on = record { area = c.requires.on.area; kept = c.requires.on.kept; current = open_inside (g.T.SlotSectors.format_of (geometry_of d c.args.on.now.area.now)) d c.args.on.now.area.now c.args.on.now.current c.requires.on.area.lawful c.requires.on.current; known = c.requires.on.known } }
