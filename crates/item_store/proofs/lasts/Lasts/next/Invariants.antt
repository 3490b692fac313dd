use Rattle.std.proofs.Common.{◌≡◌, ◌⊎◌, ◌<◌, ◌≤◌, Some, None, IfSome}
use Rattle.flash_map.specs.Area.{sectors_of}
use Rattle.item_store.specs.declared.entry.Placed.{Placed as PlacedEntry}
use Rattle.item_store.specs.Lasts.{slots_left, IsAt, SameRange, WasGiven, IsLastIn, WalksOn}
use Rattle.item_store.specs.Listed.{format_on}
use Rattle.item_store.proofs.CostSteps.{left}
use Rattle.item_store.proofs.lasts.Lasts.next.Given as goal

abbrev pub invariant-loop-found : goal.invariant-loop-found
invariant-loop-found g l = record {
  at : IsAt (format_on g.T.SlotSectors.format_of (g.F.Flash.device l.flash) l.on.area.now) (sectors_of (g.F.Flash.device l.flash) l.on.area.now) l.on.current l.self;
  range : SameRange l.fn.self l.self;
  ends : l.found ≡ None → l.self.left ≡ 0;
  next : IfSome l.found (IsLastIn (format_on g.T.SlotSectors.format_of (g.F.Flash.device l.flash) l.on.area.now) (sectors_of (g.F.Flash.device l.flash) l.on.area.now) l.fn.self);
  covered : let k = format_on g.T.SlotSectors.format_of (g.F.Flash.device l.flash) l.on.area.now in let sectors = sectors_of (g.F.Flash.device l.flash) l.on.area.now in
      (p : PlacedEntry) → WasGiven k sectors l.on.current l.self p → (Some p ≡ l.found) ⊎ WasGiven k sectors l.on.current l.fn.self p;
  fewer : IfSome l.found (λ _. slots_left l.on.area.now.sectors l.on.current l.self < slots_left l.on.area.now.sectors l.on.current l.fn.self);
  views : WalksOn (format_on g.T.SlotSectors.format_of (g.F.Flash.device l.flash) l.on.area.now) (sectors_of (g.F.Flash.device l.flash) l.on.area.now) l.on.current l.fn.self l.self l.fn.steps l.steps l.found;
  most : slots_left l.on.area.now.sectors l.on.current l.self ≤ slots_left l.on.area.now.sectors l.on.current l.fn.self;
}

abbrev pub decreases-loop-found : goal.decreases-loop-found
decreases-loop-found g l = left l.on.area.now.sectors l.on.current l.self.place
