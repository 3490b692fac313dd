use Rattle.std.proofs.Common.{ℕ, List, ◌++◌, Option, sym, subst, ◌∙◌}
use Rattle.std.specs.Option.{option_to_list}
use Rattle.flash_sim.specs.Device.{Device}
use Rattle.flash_map.specs.declared.area.Area.{Area}
use Rattle.flash_map.specs.Area.{geometry_of, sectors_of, sector_at}
use Rattle.item_store.specs.declared.entry.Placed.{Placed}
use Rattle.item_store.specs.SectorFormat.{SectorFormat}
use Rattle.item_store.specs.Latest.{Covers}
use Rattle.item_store.proofs.IndexSteps.{covers-passed}
use Rattle.item_store.proofs.latest.index_slot.Goals as goal

pub returns-then-was_known : goal.returns-then-was_known
returns-then-was_known g c =
    let d : Device = g.F.Flash.device c.args.flash.now in
    let area : Area = c.args.on.now.area.now in
    let k : SectorFormat = g.T.SlotSectors.format_of (geometry_of d area) in
    let sectors : List (List ℕ) = sectors_of d area in
    λ later stand covers.
    covers-passed k.ids c.args.last.now c.args.seen.now c.args.place c.id_in-id.result (k.in_slot (sector_at sectors c.args.place) c.args.slot) later c.id_in-id.ensures.id
    (c.was_known.ensures (geometry_of d area) later c.id_in-id.ensures.small covers c.if-was_known.true) covers

pub index_entry-requires-clause-known : goal.index_entry-requires-clause-known
index_entry-requires-clause-known g c =
    c.in-Some.ensures.small

pub returns-in-Some : goal.returns-in-Some
returns-in-Some g c =
    let d : Device = g.F.Flash.device c.args.flash.now in
    let area : Area = c.args.on.now.area.now in
    let k : SectorFormat = g.T.SlotSectors.format_of (geometry_of d area) in
    let sectors : List (List ℕ) = sectors_of d area in
    λ later stand covers.
    subst (λ (o : Option Placed). Covers k.ids c.index_entry.new.last c.index_entry.new.seen (option_to_list o ++ later)) (sym c.in-Some.is ∙ c.entry_in.ensures.entry)
    (c.index_entry.ensures later (stand c.in-Some.placed (sym c.entry_in.ensures.entry ∙ c.in-Some.is)) covers)

pub returns-in-None : goal.returns-in-None
returns-in-None g c =
    let d : Device = g.F.Flash.device c.args.flash.now in
    let area : Area = c.args.on.now.area.now in
    let k : SectorFormat = g.T.SlotSectors.format_of (geometry_of d area) in
    let sectors : List (List ℕ) = sectors_of d area in
    λ later stand covers.
    subst (λ (o : Option Placed). Covers k.ids c.args.last.now c.args.seen.now (option_to_list o ++ later)) (sym c.in-None.is ∙ c.entry_in.ensures.entry) covers
