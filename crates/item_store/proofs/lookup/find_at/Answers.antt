use Rattle.std.proofs.Common.{ℕ, List, sym, ◌∙◌}
use Rattle.flash_sim.specs.Device.{Device}
use Rattle.flash_map.specs.Area.{geometry_of, sectors_of}
use Rattle.item_laws.proofs.LastLemmas.{counted-last, counted-none}
use Rattle.item_store.specs.SectorFormat.{SectorFormat, slots}
use Rattle.item_store.proofs.CountSteps.{passed-over, not-passed}
use Rattle.item_store.proofs.KnownSlots.{known_in}
use Rattle.item_store.proofs.lookup.find_at.Goals as goal

pub find_in-requires-clause-known : goal.find_in-requires-clause-known
find_in-requires-clause-known g c =
    let d : Device = g.F.Flash.device c.args.flash.now in
    known_in g.T.SlotSectors.format_of d c.args.on.now.area.now c.args.on.now.tops.now c.requires.on.known c.args.place c.known_slots-known.result
    (c.known_slots-known.ensures (geometry_of d c.args.on.now.area.now))

pub returns-then-eq-clause-last : goal.returns-then-eq-clause-last
returns-then-eq-clause-last g c =
    let d : Device = g.F.Flash.device c.args.flash.now in
    let k : SectorFormat = g.T.SlotSectors.format_of (geometry_of d c.args.on.now.area.now) in
    let sectors : List (List ℕ) = sectors_of d c.args.on.now.area.now in
    counted-none (slots k) sectors c.args.on.now.current c.args.place c.args.id (passed-over k sectors c.args.on.now.current c.args.ignored c.args.place c.requires.ignores (sym c.eq.ensures ∙ c.if-eq.true))

pub returns-clause-last : goal.returns-clause-last
returns-clause-last g c =
    let d : Device = g.F.Flash.device c.args.flash.now in
    let k : SectorFormat = g.T.SlotSectors.format_of (geometry_of d c.args.on.now.area.now) in
    let sectors : List (List ℕ) = sectors_of d c.args.on.now.area.now in
    c.find_in.ensures.last ∙ counted-last (slots k) sectors c.args.on.now.current c.args.place c.args.id (not-passed k sectors c.args.on.now.current c.args.ignored c.args.place c.requires.ignores (sym c.eq.ensures ∙ c.if-eq.false))
