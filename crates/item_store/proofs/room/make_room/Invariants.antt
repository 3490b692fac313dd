use Rattle.std.proofs.Common.{◌-◌}
use Rattle.flash_map.specs.Area.{geometry_of, sectors_of}
use Rattle.item_store.specs.Cached.{IsCacheOn}
use Rattle.item_store.specs.Written.{IsWritten}
use Rattle.item_store.proofs.RoomFacts.{IsSearching}
use Rattle.item_store.proofs.room.make_room.Given as goal

abbrev pub invariant-loop-round : goal.invariant-loop-round
invariant-loop-round g l = record {
  cached : IsCacheOn g.T.SlotSectors.format_of (g.F.Flash.device l.flash) l.area l.cache;
  searching : IsSearching g.T.SlotSectors.role g.T.SlotSectors.format_of g.T.SlotSectors.kept (g.F.Flash.device l.initial.flash) (g.F.Flash.device l.flash) l.area l.current l.opened l.len (l._round - 1);
  written : IsWritten (g.T.SlotSectors.format_of (geometry_of (g.F.Flash.device l.initial.flash) l.area)) (sectors_of (g.F.Flash.device l.initial.flash) l.area) → IsWritten (g.T.SlotSectors.format_of (geometry_of (g.F.Flash.device l.initial.flash) l.area)) (sectors_of (g.F.Flash.device l.flash) l.area);
}
