use Rattle.std.proofs.Common.{◌≡◌, ◌+◌, ◌*◌, ◌^◌, ◌<◌, ◌≤◌, length}
use Rattle.std.specs.Prelude.{sum_by}
use Rattle.flash_map.specs.Area.{sectors_of}
use Rattle.item_laws.specs.RoundParts.{places_after}
use Rattle.item_store.specs.Listed.{format_on}
use Rattle.item_store.specs.Seen.{HasSeen, behind}
use Rattle.item_store.proofs.CostSteps.{sector_costs, left}
use Rattle.item_store.proofs.store.Store.live_cost.Given as goal

abbrev pub invariant-loop-place : goal.invariant-loop-place
invariant-loop-place g l = record {
  within : l.place < l.self.area.sectors;
  seen : HasSeen (format_on g.T.SlotSectors.format_of (g.F.Flash.device l.flash) l.self.area).ids l.seen (behind (format_on g.T.SlotSectors.format_of (g.F.Flash.device l.flash) l.self.area) (sectors_of (g.F.Flash.device l.flash) l.self.area) l.self.current l.place);
  cost : l.cost ≡ sum_by (sector_costs (format_on g.T.SlotSectors.format_of (g.F.Flash.device l.flash) l.self.area) (sectors_of (g.F.Flash.device l.flash) l.self.area)) (places_after (length (sectors_of (g.F.Flash.device l.flash) l.self.area)) l.self.current l.place);
  small : l.cost + left l.self.area.sectors l.self.current l.place * 2 ^ 33 ≤ l.self.area.sectors * 2 ^ 33;
}

abbrev pub decreases-loop-place : goal.decreases-loop-place
decreases-loop-place g l = left l.self.area.sectors l.self.current l.place
