use Rattle.std.proofs.Common.{ℕ, ◌+◌, ◌-◌, List, [], sym, subst, arith}
use Rattle.item_laws.proofs.AreaReads.{length-sectors}
use Rattle.item_laws.proofs.LastLemmas.{among}
use Rattle.item_store.specs.Seen.{HasSeen}
use Rattle.item_store.proofs.SeenSteps.{behind_near, behind_far}
use Rattle.flash_sim.specs.Device.{Device}
use Rattle.flash_map.specs.declared.area.Area.{Area}
use Rattle.flash_map.specs.Area.{geometry_of, sectors_of}
use Rattle.item_store.specs.SectorFormat.{SectorFormat, slots}
use Rattle.item_store.proofs.seen.note_behind.Goals as goal

pub overflow_add-after : goal.overflow_add-after
overflow_add-after g c =
    omega (arith, c.requires.on.area.lawful.few)

pub returns-then-place-on : goal.returns-then-place-on
returns-then-place-on g c =
    let d : Device = g.F.Flash.device c.args.flash.now in
    let area : Area = c.args.on.now.area.now in
    let k : SectorFormat = g.T.SlotSectors.format_of (geometry_of d area) in
    let sectors : List (List ℕ) = sectors_of d area in
    λ seen. subst (HasSeen k.ids c.note_among.new.notes) (behind_near k sectors c.args.on.now.current c.args.place c.if-place-on.true) (c.note_among.ensures c.args.seen.now [] seen)

pub returns : goal.returns
returns g c =
    let d : Device = g.F.Flash.device c.args.flash.now in
    let area : Area = c.args.on.now.area.now in
    let k : SectorFormat = g.T.SlotSectors.format_of (geometry_of d area) in
    let sectors : List (List ℕ) = sectors_of d area in
    λ seen. subst (HasSeen k.ids c.note_among-3.new.notes) (behind_far k sectors c.args.on.now.current c.args.place area.sectors (omega arith) (sym (length-sectors d area)))
    (c.note_among-3.ensures c.args.seen.now (among (slots k) sectors c.args.on.now.current (c.args.place + 1) (area.sectors - (c.args.place + 1))) (c.note_among-2.ensures c.args.seen.now [] seen))
