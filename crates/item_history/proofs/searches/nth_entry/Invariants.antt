use Rattle.std.proofs.Common.{◌<◌}
use Rattle.flash_map.specs.Area.{sectors_of}
use Rattle.item_store.specs.Listed.{format_on}
use Rattle.item_store.specs.Seen.{behind}
use Rattle.item_store.proofs.CostSteps.{left}
use Rattle.item_history.specs.declared.searches.Search.TheVariants.{Left}
use Rattle.item_history.specs.Searches.{of_id, EndsIn}
use Rattle.item_history.proofs.searches.nth_entry.Given as goal

abbrev pub invariant-loop-place : goal.invariant-loop-place
invariant-loop-place g l = record {
  within : l.place < l.area.sectors;
  passed : EndsIn (of_id l.id (behind (format_on g.T.SlotSectors.format_of (g.F.Flash.device l.flash) l.area) (sectors_of (g.F.Flash.device l.flash) l.area) l.current l.place)) l.n (Left l.left);
}

abbrev pub decreases-loop-place : goal.decreases-loop-place
decreases-loop-place g l = left l.area.sectors l.current l.place
