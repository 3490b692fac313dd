use Rattle.std.proofs.Common.{◌≡◌, ◌+◌, ◌*◌, ◌≤◌, length}
use Rattle.std.specs.Option.{option_map}
use Rattle.flash_map.specs.Area.{sectors_of}
use Rattle.item_store.specs.Lasts.{slots_left, slots_in_all, views_left, IsAt}
use Rattle.item_store.specs.Listed.{format_on, items_on}
use Rattle.item_store.proofs.AskingSteps.{IsLeastTo, KnownBytes}
use Rattle.item_store.proofs.store.Store.next_of.Given as goal

abbrev pub invariant-loop-placed : goal.invariant-loop-placed
invariant-loop-placed g l = record {
  at : IsAt (format_on g.T.SlotSectors.format_of (g.F.Flash.device l.flash) l.self.area) (sectors_of (g.F.Flash.device l.flash) l.self.area) l.self.current l.lasts;
  views : let k = format_on g.T.SlotSectors.format_of (g.F.Flash.device l.flash) l.self.area in let sectors = sectors_of (g.F.Flash.device l.flash) l.self.area in
      l.steps + views_left k sectors l.self.current l.lasts ≤ l.fn.steps + length sectors + 2 * slots_in_all k sectors;
  from : l.lasts.least ≡ l.least;
  to : l.lasts.most ≡ l.most;
  so_far : IsLeastTo l.least l.most (items_on g.T.SlotSectors.format_of (g.F.Flash.device l.flash) l.self.area) (option_map (λ other. other.now) l.after)
      (KnownBytes g.T.SlotSectors.role g.T.SlotSectors.format_of g.T.SlotSectors.kept (g.F.Flash.device l.flash) l.self l.lasts) (option_map (λ bytes. bytes.now) l.found);
}

abbrev pub decreases-loop-placed : goal.decreases-loop-placed
decreases-loop-placed g l = slots_left l.self.area.sectors l.self.current l.lasts
