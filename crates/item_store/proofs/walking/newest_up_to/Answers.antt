use Rattle.std.proofs.Common.{ℕ, List, length, sym, ◌∙◌}
use Rattle.std.specs.List.{flat_map}
use Rattle.item_laws.specs.Live.{counted_in}
use Rattle.item_laws.specs.RoundParts.{places_before}
use Rattle.item_laws.specs.Walk.{counted_within}
use Rattle.item_store.specs.declared.entry.Placed.{Placed}
use Rattle.item_store.proofs.OlderSteps.{newest-behind, newest-before}
use Rattle.flash_sim.specs.Device.{Device}
use Rattle.flash_map.specs.declared.area.Area.{Area}
use Rattle.flash_map.specs.Area.{geometry_of, sectors_of}
use Rattle.item_store.specs.SectorFormat.{SectorFormat, slots}
use Rattle.item_store.proofs.walking.newest_up_to.Goals as goal

pub returns-then-is_some-clause-last : goal.returns-then-is_some-clause-last
returns-then-is_some-clause-last g c =
    let d : Device = g.F.Flash.device c.args.flash.now in
    let area : Area = c.args.on.now.area.now in
    let k : SectorFormat = g.T.SlotSectors.format_of (geometry_of d area) in
    let sectors : List (List ℕ) = sectors_of d area in
    let older : List Placed = flat_map (counted_in (slots k) sectors c.args.on.now.current) (places_before (length sectors) c.args.on.now.current c.args.place) in
    let here : List Placed = counted_within (slots k) sectors c.args.on.now.current c.args.place c.args.limit in
    newest-behind older here c.newest_at-newest.result c.newest_at-newest.ensures.last (sym c.is_some.ensures ∙ c.if-is_some.true)

pub returns-clause-last : goal.returns-clause-last
returns-clause-last g c =
    let d : Device = g.F.Flash.device c.args.flash.now in
    let area : Area = c.args.on.now.area.now in
    let k : SectorFormat = g.T.SlotSectors.format_of (geometry_of d area) in
    let sectors : List (List ℕ) = sectors_of d area in
    let older : List Placed = flat_map (counted_in (slots k) sectors c.args.on.now.current) (places_before (length sectors) c.args.on.now.current c.args.place) in
    let here : List Placed = counted_within (slots k) sectors c.args.on.now.current c.args.place c.args.limit in
    newest-before older here c.newest_at-newest.result c.newest_before.result c.newest_at-newest.ensures.last (sym c.is_some.ensures ∙ c.if-is_some.false) c.newest_before.ensures.last
