use Rattle.std.proofs.Common.{◌≡◌, ◌-◌}
use Rattle.flash_map.specs.Area.{geometry_of, sectors_of, sector_at}
use Rattle.item_store.proofs.CopyLoop.{IsCopying}
use Rattle.item_store.proofs.collecting.copy_live.Given as goal

abbrev pub invariant-loop-slot : goal.invariant-loop-slot
invariant-loop-slot g l = record {
  copying : IsCopying (g.T.SlotSectors.format_of (geometry_of (g.F.Flash.device l.initial.flash) l.area)) (g.F.Flash.device l.initial.flash) (g.F.Flash.device l.flash) l.area l.current (l.slot - l.first);
  kept : l.opened ≡ g.T.SlotSectors.kept (geometry_of (g.F.Flash.device l.initial.flash) l.area) (sector_at (sectors_of (g.F.Flash.device l.flash) l.area) l.current);
}
