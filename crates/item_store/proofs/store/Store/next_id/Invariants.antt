use Rattle.std.proofs.Common.{ℕ, ◌<◌}
use Rattle.std.specs.Prelude.{IfSome}
use Rattle.flash_map.specs.Area.{sectors_of, sector_at}
use Rattle.item_laws.specs.NextIds.{Follows, IsLeastOf}
use Rattle.item_store.specs.Listed.{format_on, items_on}
use Rattle.item_store.proofs.store.Store.next_id.Given as goal

abbrev pub invariant-loop-place : goal.invariant-loop-place
invariant-loop-place g l = record {
  some : IfSome l.least (Follows (items_on g.T.SlotSectors.format_of (g.F.Flash.device l.flash) l.self.area) l.after);
  small : IfSome l.least (λ n. n < (format_on g.T.SlotSectors.format_of (g.F.Flash.device l.flash) l.self.area).ids);
  least : (j : ℕ) → j < l.place → IsLeastOf (items_on g.T.SlotSectors.format_of (g.F.Flash.device l.flash) l.self.area) l.after ((format_on g.T.SlotSectors.format_of (g.F.Flash.device l.flash) l.self.area).reading.pairs (sector_at (sectors_of (g.F.Flash.device l.flash) l.self.area) j)) l.least;
}
