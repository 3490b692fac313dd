use Rattle.std.proofs.Common.{ℕ, Bool, List, [], cond, ◌++◌, map, sym, subst, ◌∙◌}
use Rattle.flash_sim.specs.Device.{Device}
use Rattle.flash_map.specs.declared.area.Area.{Area}
use Rattle.flash_map.specs.Area.{geometry_of, sectors_of, sector_at}
use Rattle.item_store.specs.SectorFormat.{SectorFormat, placed_at, slots}
use Rattle.item_store.specs.Latest.{Covers}
use Rattle.item_store.specs.Seen.{behind}
use Rattle.item_store.proofs.Areas.{open_inside}
use Rattle.item_store.proofs.latest.index_counting.Goals as goal

pub counts-requires : goal.counts-requires
counts-requires g c =
    let d : Device = g.F.Flash.device c.args.flash.now in
    let area : Area = c.args.on.now.area.now in
    let k : SectorFormat = g.T.SlotSectors.format_of (geometry_of d area) in
    record { on = record { area = c.requires.on.area; kept = c.requires.on.kept; current = open_inside k d area c.args.on.now.current c.requires.on.area.lawful c.requires.on.current; known = c.requires.on.known } }

pub index_sector-requires-clause-counts : goal.index_sector-requires-clause-counts
index_sector-requires-clause-counts g c =
    sym c.counts.ensures.value ∙ c.if-counts.true

pub returns-then-counts : goal.returns-then-counts
returns-then-counts g c =
    c.index_sector.ensures

-- the sector has no part in the list
pub returns-else-counts : goal.returns-else-counts
returns-else-counts g c =
    let d : Device = g.F.Flash.device c.args.flash.now in
    let area : Area = c.args.on.now.area.now in
    let k : SectorFormat = g.T.SlotSectors.format_of (geometry_of d area) in
    let sectors : List (List ℕ) = sectors_of d area in
    subst (λ (t : Bool). Covers k.ids c.args.last.now c.args.seen.now (cond t (map (placed_at c.args.place) ((slots k).entries (sector_at sectors c.args.place))) [] ++ behind k sectors c.args.on.now.current c.args.place))
    (sym (sym c.counts.ensures.value ∙ c.if-counts.false)) c.requires.covers
