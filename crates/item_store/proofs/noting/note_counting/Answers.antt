use Rattle.std.proofs.Common.{ℕ, List, sym, ◌∙◌}
use Rattle.item_store.proofs.SeenSteps.{seen_counted, seen_passed}
use Rattle.flash_sim.specs.Device.{Device}
use Rattle.flash_map.specs.declared.area.Area.{Area}
use Rattle.flash_map.specs.Area.{geometry_of, sectors_of}
use Rattle.item_store.specs.SectorFormat.{SectorFormat}
use Rattle.item_store.proofs.KnownSlots.{known_in}
use Rattle.item_store.proofs.noting.note_counting.Goals as goal

pub note_sector-requires-clause-known : goal.note_sector-requires-clause-known
note_sector-requires-clause-known g c =
    let d : Device = g.F.Flash.device c.args.flash.now in
    known_in g.T.SlotSectors.format_of d c.args.on.now.area.now c.args.on.now.tops.now c.requires.on.known c.args.place c.known_slots-known.result
    (c.known_slots-known.ensures (geometry_of d c.args.on.now.area.now))

pub returns-then-counts : goal.returns-then-counts
returns-then-counts g c =
    let d : Device = g.F.Flash.device c.args.flash.now in
    let area : Area = c.args.on.now.area.now in
    let k : SectorFormat = g.T.SlotSectors.format_of (geometry_of d area) in
    let sectors : List (List ℕ) = sectors_of d area in
    λ start before seen. seen_counted k (g.N.Notes.noted start k.ids c.note_sector.new.notes) before sectors c.args.on.now.current c.args.place (sym c.counts.ensures.value ∙ c.if-counts.true) (c.note_sector.ensures.notes start before seen)

pub returns-else-counts : goal.returns-else-counts
returns-else-counts g c =
    let d : Device = g.F.Flash.device c.args.flash.now in
    let area : Area = c.args.on.now.area.now in
    let k : SectorFormat = g.T.SlotSectors.format_of (geometry_of d area) in
    let sectors : List (List ℕ) = sectors_of d area in
    λ start before seen. seen_passed k (g.N.Notes.noted start k.ids c.args.notes.now) before sectors c.args.on.now.current c.args.place (sym c.counts.ensures.value ∙ c.if-counts.false) seen
