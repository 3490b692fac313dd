use Rattle.std.proofs.Common.{◌≡◌, ℕ, ◌+◌, ◌<◌, ◌≤◌, false, ◌++◌, ◌-◌, map}
use Rattle.flash_map.specs.Area.{sectors_of, sector_at}
use Rattle.item_laws.specs.Walk.{entries_from}
use Rattle.item_store.specs.SectorFormat.{placed_at, slots}
use Rattle.item_store.specs.Listed.{format_on}
use Rattle.item_store.specs.Seen.{has_bit, HasSeen, behind, holds_live}
use Rattle.item_store.proofs.live.live_by.Given as goal

abbrev pub invariant-loop-left : goal.invariant-loop-left
invariant-loop-left g l = record {
  within : l.left ≤ (format_on g.T.SlotSectors.format_of (g.F.Flash.device l.flash) l.on.area.now).count (sector_at (sectors_of (g.F.Flash.device l.flash) l.on.area.now) l.place);
  seen : let k = format_on g.T.SlotSectors.format_of (g.F.Flash.device l.flash) l.on.area.now in let b = sector_at (sectors_of (g.F.Flash.device l.flash) l.on.area.now) l.place in
      HasSeen k.ids l.seen (map (placed_at l.place) (entries_from (slots k) b (k.first + l.left) (k.count b - l.left)) ++ behind k (sectors_of (g.F.Flash.device l.flash) l.on.area.now) l.on.current l.place);
  dead : (index : ℕ) → index < l.left → has_bit l.live.bits index ≡ false;
  live : (index : ℕ) → l.left ≤ index → index < (format_on g.T.SlotSectors.format_of (g.F.Flash.device l.flash) l.on.area.now).count (sector_at (sectors_of (g.F.Flash.device l.flash) l.on.area.now) l.place)
      → has_bit l.live.bits index ≡ holds_live (format_on g.T.SlotSectors.format_of (g.F.Flash.device l.flash) l.on.area.now) (sectors_of (g.F.Flash.device l.flash) l.on.area.now) l.place ((format_on g.T.SlotSectors.format_of (g.F.Flash.device l.flash) l.on.area.now).first + index);
}

abbrev pub decreases-loop-left : goal.decreases-loop-left
decreases-loop-left g l = l.left
