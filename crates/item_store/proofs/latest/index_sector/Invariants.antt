use Rattle.std.proofs.Common.{◌+◌, ◌≤◌, ◌++◌, ◌-◌, map}
use Rattle.flash_map.specs.Area.{sectors_of, sector_at}
use Rattle.item_laws.specs.Walk.{entries_from}
use Rattle.item_store.specs.SectorFormat.{placed_at, slots}
use Rattle.item_store.specs.Latest.{Covers}
use Rattle.item_store.specs.Listed.{format_on}
use Rattle.item_store.specs.Seen.{behind}
use Rattle.item_store.proofs.latest.index_sector.Given as goal

abbrev pub invariant-loop-left : goal.invariant-loop-left
invariant-loop-left g l = record {
  within : l.left ≤ (format_on g.T.SlotSectors.format_of (g.F.Flash.device l.flash) l.on.area.now).count (sector_at (sectors_of (g.F.Flash.device l.flash) l.on.area.now) l.place);
  covers : let k = format_on g.T.SlotSectors.format_of (g.F.Flash.device l.flash) l.on.area.now in let b = sector_at (sectors_of (g.F.Flash.device l.flash) l.on.area.now) l.place in
      Covers k.ids l.last l.seen (map (placed_at l.place) (entries_from (slots k) b (k.first + l.left) (k.count b - l.left)) ++ behind k (sectors_of (g.F.Flash.device l.flash) l.on.area.now) l.on.current l.place);
}

abbrev pub decreases-loop-left : goal.decreases-loop-left
decreases-loop-left g l = l.left
