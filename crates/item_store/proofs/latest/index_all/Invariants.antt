use Rattle.std.proofs.Common.{◌<◌}
use Rattle.flash_map.specs.Area.{sectors_of}
use Rattle.item_store.specs.Latest.{Covers}
use Rattle.item_store.specs.Listed.{format_on}
use Rattle.item_store.specs.Seen.{behind}
use Rattle.item_store.proofs.CostSteps.{left}
use Rattle.item_store.proofs.latest.index_all.Given as goal

abbrev pub invariant-loop-place : goal.invariant-loop-place
invariant-loop-place g l = record {
  within : l.place < l.on.area.now.sectors;
  covers : Covers (format_on g.T.SlotSectors.format_of (g.F.Flash.device l.flash) l.on.area.now).ids l.last l.seen (behind (format_on g.T.SlotSectors.format_of (g.F.Flash.device l.flash) l.on.area.now) (sectors_of (g.F.Flash.device l.flash) l.on.area.now) l.on.current l.place);
}

abbrev pub decreases-loop-place : goal.decreases-loop-place
decreases-loop-place g l = left l.on.area.now.sectors l.on.current l.place
