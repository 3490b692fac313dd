use Rattle.std.proofs.Common.{◌≡◌, ◌-◌, ◌*◌, ◌^◌, ◌≤◌}
use Rattle.std.specs.Prelude.{sum_by}
use Rattle.flash_map.specs.Area.{sectors_of, sector_at}
use Rattle.item_store.specs.Listed.{format_on}
use Rattle.item_store.proofs.OlderSteps.{placed_to}
use Rattle.item_history.proofs.usage.sector_cost.Given as goal

abbrev pub invariant-loop-slot : goal.invariant-loop-slot
invariant-loop-slot g l = record {
  so_far : l.cost ≡ sum_by (λ p. (format_on g.T.SlotSectors.format_of (g.F.Flash.device l.flash) l.area).cost p.len)
      (placed_to (format_on g.T.SlotSectors.format_of (g.F.Flash.device l.flash) l.area) (sector_at (sectors_of (g.F.Flash.device l.flash) l.area) l.place) l.place (l.slot - l.first));
  small : l.cost ≤ (l.slot - l.first) * 2 ^ 18;
}
