use Rattle.std.proofs.Common.{ℕ, ◌+◌, ◌-◌, List, [], sym, arith}
use Rattle.item_laws.proofs.AreaReads.{length-sectors}
use Rattle.item_laws.proofs.LastLemmas.{among}
use Rattle.item_store.specs.declared.entry.Placed.{Placed}
use Rattle.item_store.proofs.LastIds.{whole_list}
use Rattle.flash_sim.specs.Device.{Device}
use Rattle.flash_map.specs.declared.area.Area.{Area}
use Rattle.flash_map.specs.Area.{geometry_of, sectors_of}
use Rattle.item_store.specs.SectorFormat.{SectorFormat, slots}
use Rattle.item_store.proofs.Areas.{open_inside}
use Rattle.item_store.proofs.noting.note_all.Goals as goal

pub overflow_add-older : goal.overflow_add-older
overflow_add-older g c =
    let d : Device = g.F.Flash.device c.args.flash.now in
    let area : Area = c.args.on.now.area.now in
    let k : SectorFormat = g.T.SlotSectors.format_of (geometry_of d area) in
    let sectors : List (List ℕ) = sectors_of d area in
    let within = open_inside k d area c.args.on.now.current c.requires.on.area.lawful c.requires.on.current in
    omega (arith, c.requires.on.area.lawful.few)

pub note_among-requires-clause-on : goal.note_among-requires-clause-on
note_among-requires-clause-on g c =
    let d : Device = g.F.Flash.device c.args.flash.now in
    let area : Area = c.args.on.now.area.now in
    let k : SectorFormat = g.T.SlotSectors.format_of (geometry_of d area) in
    let sectors : List (List ℕ) = sectors_of d area in
    let within = open_inside k d area c.args.on.now.current c.requires.on.area.lawful c.requires.on.current in
    record { area = c.requires.on.area; kept = c.requires.on.kept; current = within; known = c.requires.on.known }

pub note_among-requires-clause-order : goal.note_among-requires-clause-order
note_among-requires-clause-order g c =
    let d : Device = g.F.Flash.device c.args.flash.now in
    let area : Area = c.args.on.now.area.now in
    let k : SectorFormat = g.T.SlotSectors.format_of (geometry_of d area) in
    let sectors : List (List ℕ) = sectors_of d area in
    let within = open_inside k d area c.args.on.now.current c.requires.on.area.lawful c.requires.on.current in
    omega arith

pub note_among-requires-2-clause-on : goal.note_among-requires-2-clause-on
note_among-requires-2-clause-on g c =
    let d : Device = g.F.Flash.device c.args.flash.now in
    let area : Area = c.args.on.now.area.now in
    let k : SectorFormat = g.T.SlotSectors.format_of (geometry_of d area) in
    let sectors : List (List ℕ) = sectors_of d area in
    let within = open_inside k d area c.args.on.now.current c.requires.on.area.lawful c.requires.on.current in
    record { area = c.requires.on.area; kept = c.requires.on.kept; current = within; known = c.requires.on.known }

pub note_among-requires-2-clause-inside : goal.note_among-requires-2-clause-inside
note_among-requires-2-clause-inside g c =
    let d : Device = g.F.Flash.device c.args.flash.now in
    let area : Area = c.args.on.now.area.now in
    let k : SectorFormat = g.T.SlotSectors.format_of (geometry_of d area) in
    let sectors : List (List ℕ) = sectors_of d area in
    let within = open_inside k d area c.args.on.now.current c.requires.on.area.lawful c.requires.on.current in
    omega arith

pub returns : goal.returns
returns g c =
    let d : Device = g.F.Flash.device c.args.flash.now in
    let area : Area = c.args.on.now.area.now in
    let k : SectorFormat = g.T.SlotSectors.format_of (geometry_of d area) in
    let sectors : List (List ℕ) = sectors_of d area in
    λ start none.
    whole_list k (λ (placed : List Placed). g.N.Notes.noted start k.ids c.note_among-2.new.notes placed) sectors c.args.on.now.current area.sectors (sym (length-sectors d area)) c.requires.on.current
    (c.note_among-2.ensures start (among (slots k) sectors c.args.on.now.current (c.args.on.now.current + 1) (area.sectors - (c.args.on.now.current + 1))) (c.note_among.ensures start [] none))
