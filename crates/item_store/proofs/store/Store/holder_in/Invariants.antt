use Rattle.std.proofs.Common.{◌≡◌, ◌+◌, ◌-◌, ◌*◌, ◌≤◌, Some}
use Rattle.std.specs.Prelude.{IfSome}
use Rattle.std.specs.FinMap.{get}
use Rattle.flash_map.specs.Area.{sectors_of, sector_at}
use Rattle.item_store.specs.Asking.{NoneIsItem}
use Rattle.item_store.specs.Holding.{held_from, held_in, holder_views, NoneHoldsIn}
use Rattle.item_store.specs.Listed.{format_on, items_on}
use Rattle.item_store.proofs.store.Store.holder_in.Given as goal

abbrev pub invariant-loop-holder : goal.invariant-loop-holder
invariant-loop-holder g l =
    let d = g.F.Flash.device l.flash in let k = format_on g.T.SlotSectors.format_of d l.self.area in
    let b = sector_at (sectors_of d l.self.area) l.place in let items = items_on g.T.SlotSectors.format_of d l.self.area in record {
      listed : l.skipped ≤ k.count b;
      none : NoneIsItem k b items l.ids l.bytes k.first (k.first + l.skipped);
      few : NoneHoldsIn k b l.ids l.bytes → l.steps ≡ l.initial.steps;
      held : l.steps + held_from k b l.ids l.bytes (k.first + l.skipped) (k.count b - l.skipped) * holder_views l.self.area.sectors ≤ l.initial.steps + held_in k b l.ids l.bytes * holder_views l.self.area.sectors;
      part : held_from k b l.ids l.bytes (k.first + l.skipped) (k.count b - l.skipped) ≤ held_in k b l.ids l.bytes;
      dead : IfSome l.dead (λ id. get items id ≡ Some l.bytes → ⊥);
    }

abbrev pub decreases-loop-holder : goal.decreases-loop-holder
decreases-loop-holder g l =
    let d = g.F.Flash.device l.flash in let k = format_on g.T.SlotSectors.format_of d l.self.area in
    k.count (sector_at (sectors_of d l.self.area) l.place) - l.skipped
