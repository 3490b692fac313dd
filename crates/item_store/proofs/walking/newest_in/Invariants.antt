use Rattle.std.proofs.Common.{◌≡◌, ◌≤◌, None, map}
use Rattle.std.specs.List.{last_or}
use Rattle.flash_map.specs.Area.{sectors_of, sector_at}
use Rattle.item_laws.specs.Walk.{entries_within}
use Rattle.item_store.specs.SectorFormat.{placed_at, slots}
use Rattle.item_store.specs.Listed.{format_on}
use Rattle.item_store.proofs.OlderSteps.{placed_to}
use Rattle.item_store.proofs.walking.newest_in.Given as goal

abbrev pub invariant-loop-count : goal.invariant-loop-count
invariant-loop-count g l = record {
  inside : l.count ≤ (format_on g.T.SlotSectors.format_of (g.F.Flash.device l.flash) l.area).count (sector_at (sectors_of (g.F.Flash.device l.flash) l.area) l.place);
  later : last_or None (placed_to (format_on g.T.SlotSectors.format_of (g.F.Flash.device l.flash) l.area) (sector_at (sectors_of (g.F.Flash.device l.flash) l.area) l.place) l.place l.count)
      ≡ last_or None (map (placed_at l.place) (entries_within (slots (format_on g.T.SlotSectors.format_of (g.F.Flash.device l.flash) l.area)) (sector_at (sectors_of (g.F.Flash.device l.flash) l.area) l.place) l.limit));
}

abbrev pub decreases-loop-count : goal.decreases-loop-count
decreases-loop-count g l = l.count
