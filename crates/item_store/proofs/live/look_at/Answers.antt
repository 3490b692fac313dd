use Rattle.std.proofs.Common.{ℕ, List, sym, ◌∙◌}
use Rattle.std.specs.Option.{option_map}
use Rattle.item_store.proofs.LiveSteps.{live_none, live_some}
use Rattle.item_store.proofs.SeenSteps.{seen_before, seen_still}
use Rattle.flash_sim.specs.Device.{Device}
use Rattle.flash_map.specs.declared.area.Area.{Area}
use Rattle.flash_map.specs.Area.{geometry_of, sectors_of, sector_at}
use Rattle.item_store.specs.SectorFormat.{SectorFormat, placed_at}
use Rattle.item_store.proofs.live.look_at.Goals as goal

pub is_live_by-live-requires-clause-known : goal.is_live_by-live-requires-clause-known
is_live_by-live-requires-clause-known g c =
    c.in-Some.ensures.small

pub returns-in-Some-clause-live : goal.returns-in-Some-clause-live
returns-in-Some-clause-live g c =
    let d : Device = g.F.Flash.device c.args.flash.now in
    let area : Area = c.args.on.now.area.now in
    let k : SectorFormat = g.T.SlotSectors.format_of (geometry_of d area) in
    let sectors : List (List ℕ) = sectors_of d area in
    λ later stand seen.
    live_some k sectors c.args.place c.args.slot c.in-Some.placed c.is_live_by-live.result (sym c.in-Some.is ∙ c.entry_in.ensures.entry)
    (c.is_live_by-live.ensures later (stand c.in-Some.placed (sym c.entry_in.ensures.entry ∙ c.in-Some.is)) seen)

pub returns-in-Some-clause-seen : goal.returns-in-Some-clause-seen
returns-in-Some-clause-seen g c =
    let d : Device = g.F.Flash.device c.args.flash.now in
    let area : Area = c.args.on.now.area.now in
    let k : SectorFormat = g.T.SlotSectors.format_of (geometry_of d area) in
    let sectors : List (List ℕ) = sectors_of d area in
    λ later seen. seen_before k.ids c.args.seen.now c.add.new.self later c.in-Some.placed (option_map (placed_at c.args.place) (k.in_slot (sector_at sectors c.args.place) c.args.slot)) (sym c.in-Some.is ∙ c.entry_in.ensures.entry) c.in-Some.ensures.small c.add.ensures.bits c.add.ensures.mixed c.add.ensures.long seen

pub returns-in-None-clause-live : goal.returns-in-None-clause-live
returns-in-None-clause-live g c =
    let d : Device = g.F.Flash.device c.args.flash.now in
    let area : Area = c.args.on.now.area.now in
    let k : SectorFormat = g.T.SlotSectors.format_of (geometry_of d area) in
    let sectors : List (List ℕ) = sectors_of d area in
    λ later stand seen. live_none k sectors c.args.place c.args.slot (sym c.in-None.is ∙ c.entry_in.ensures.entry)

pub returns-in-None-clause-seen : goal.returns-in-None-clause-seen
returns-in-None-clause-seen g c =
    let d : Device = g.F.Flash.device c.args.flash.now in
    let area : Area = c.args.on.now.area.now in
    let k : SectorFormat = g.T.SlotSectors.format_of (geometry_of d area) in
    let sectors : List (List ℕ) = sectors_of d area in
    λ later seen. seen_still k.ids c.args.seen.now later (option_map (placed_at c.args.place) (k.in_slot (sector_at sectors c.args.place) c.args.slot)) (sym c.in-None.is ∙ c.entry_in.ensures.entry) seen
