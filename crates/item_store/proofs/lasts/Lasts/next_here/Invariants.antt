use Rattle.std.proofs.Common.{◌≡◌, ◌+◌, ◌*◌, ◌≤◌}
use Rattle.flash_map.specs.Area.{sectors_of}
use Rattle.item_store.specs.declared.entry.Placed.{Placed}
use Rattle.item_store.specs.Lasts.{IsAt, SameRange, WasGiven}
use Rattle.item_store.specs.Listed.{format_on}
use Rattle.item_store.proofs.lasts.Lasts.next_here.Given as goal

abbrev pub invariant-loop-self : goal.invariant-loop-self
invariant-loop-self g l = record {
  at : IsAt (format_on g.T.SlotSectors.format_of (g.F.Flash.device l.flash) l.area) (sectors_of (g.F.Flash.device l.flash) l.area) l.current l.self;
  range : SameRange l.fn.self l.self;
  place : l.self.place ≡ l.fn.self.place;
  fewer : l.self.left ≤ l.fn.self.left;
  steps : l.steps + 2 * l.self.left ≤ l.initial.steps + 2 * l.fn.self.left;
  covered : let k = format_on g.T.SlotSectors.format_of (g.F.Flash.device l.flash) l.area in let sectors = sectors_of (g.F.Flash.device l.flash) l.area in
      (p : Placed) → WasGiven k sectors l.current l.self p → WasGiven k sectors l.current l.fn.self p;
}

abbrev pub decreases-loop-self : goal.decreases-loop-self
decreases-loop-self g l = l.self.left
