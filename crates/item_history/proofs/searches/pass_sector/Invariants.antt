use Rattle.std.proofs.Common.{◌≤◌}
use Rattle.flash_map.specs.Area.{sectors_of, sector_at}
use Rattle.item_store.specs.Listed.{format_on}
use Rattle.item_history.specs.declared.searches.Search.TheVariants.{Left}
use Rattle.item_history.specs.Searches.{of_id, EndsIn}
use Rattle.item_history.proofs.SearchSteps.{behind_slots}
use Rattle.item_history.proofs.searches.pass_sector.Given as goal

abbrev pub invariant-loop-count : goal.invariant-loop-count
invariant-loop-count g l = record {
  inside : l.count ≤ (format_on g.T.SlotSectors.format_of (g.F.Flash.device l.flash) l.area).count (sector_at (sectors_of (g.F.Flash.device l.flash) l.area) l.place);
  passed : EndsIn (of_id l.id (behind_slots (format_on g.T.SlotSectors.format_of (g.F.Flash.device l.flash) l.area) (sector_at (sectors_of (g.F.Flash.device l.flash) l.area) l.place) l.place l.count)) l.n (Left l.left);
}

abbrev pub decreases-loop-count : goal.decreases-loop-count
decreases-loop-count g l = l.count
