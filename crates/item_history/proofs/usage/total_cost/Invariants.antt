use Rattle.std.proofs.Common.{◌≡◌, ◌*◌, ◌^◌, ◌≤◌}
use Rattle.std.specs.Prelude.{sum_by}
use Rattle.std.specs.List.{range_with_len}
use Rattle.flash_map.specs.Area.{sectors_of}
use Rattle.item_store.specs.Listed.{format_on}
use Rattle.item_history.proofs.UsageSteps.{sector_total}
use Rattle.item_history.proofs.usage.total_cost.Given as goal

abbrev pub invariant-loop-place : goal.invariant-loop-place
invariant-loop-place g l = record {
  so_far : l.cost ≡ sum_by (sector_total (format_on g.T.SlotSectors.format_of (g.F.Flash.device l.flash) l.area) (sectors_of (g.F.Flash.device l.flash) l.area)) (range_with_len 0 l.place);
  small : l.cost ≤ l.place * 2 ^ 33;
}
