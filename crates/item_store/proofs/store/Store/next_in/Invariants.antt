use Rattle.std.proofs.Common.{◌-◌, ◌<◌}
use Rattle.std.specs.Prelude.{IfSome}
use Rattle.flash_map.specs.Area.{sectors_of, sector_at}
use Rattle.item_laws.specs.NextIds.{Follows, IsAtMost, IsLeastOf}
use Rattle.item_store.specs.Listed.{format_on, items_on}
use Rattle.item_store.proofs.NextSteps.{pairs_to}
use Rattle.item_store.proofs.store.Store.next_in.Given as goal

abbrev pub invariant-loop-slot : goal.invariant-loop-slot
invariant-loop-slot g l = record {
  some : IfSome l.next (Follows (items_on g.T.SlotSectors.format_of (g.F.Flash.device l.flash) l.self.area) l.after);
  small : IfSome l.next (λ n. n < (format_on g.T.SlotSectors.format_of (g.F.Flash.device l.flash) l.self.area).ids);
  kept : IfSome l.fn.least (IsAtMost l.next);
  least : IsLeastOf (items_on g.T.SlotSectors.format_of (g.F.Flash.device l.flash) l.self.area) l.after (pairs_to (format_on g.T.SlotSectors.format_of (g.F.Flash.device l.flash) l.self.area) (sector_at (sectors_of (g.F.Flash.device l.flash) l.self.area) l.place) (l.slot - l.first)) l.next;
}
