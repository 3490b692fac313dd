use Rattle.std.proofs.Common.{◌≡◌, ◌-◌, ◌*◌, ◌^◌, ◌≤◌}
use Rattle.flash_map.specs.Area.{sectors_of}
use Rattle.item_laws.specs.PairRounds.{copies_cost}
use Rattle.item_laws.specs.Live.{live_to}
use Rattle.item_store.specs.SectorFormat.{slots}
use Rattle.item_store.specs.Listed.{format_on}
use Rattle.item_store.proofs.costs.sector_cost.Given as goal

abbrev pub invariant-loop-slot : goal.invariant-loop-slot
invariant-loop-slot g l = record {
  so_far : l.cost ≡ copies_cost (format_on g.T.SlotSectors.format_of (g.F.Flash.device l.flash) l.area).cost (live_to (slots (format_on g.T.SlotSectors.format_of (g.F.Flash.device l.flash) l.area)) (sectors_of (g.F.Flash.device l.flash) l.area) l.place (l.slot - l.first));
  small : l.cost ≤ (l.slot - l.first) * 2 ^ 18;
}
