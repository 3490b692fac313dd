use Rattle.std.proofs.Common.{◌≡◌, ◌⊎◌, ℕ, ◌+◌, ◌*◌, ◌<◌, ◌≤◌, length}
use Rattle.flash_map.specs.Area.{sectors_of, sector_at}
use Rattle.item_store.specs.Asking.{NoneIsItem}
use Rattle.item_store.specs.Holding.{held_in_all, holder_views, NoneHoldsAt}
use Rattle.item_store.specs.Listed.{format_on, items_on}
use Rattle.item_store.proofs.HeldSteps.{held_here, held_before}
use Rattle.item_store.proofs.store.Store.holder_of.Given as goal

abbrev pub invariant-loop-back : goal.invariant-loop-back
invariant-loop-back g l =
    let d = g.F.Flash.device l.flash in let k = format_on g.T.SlotSectors.format_of d l.self.area in record {
      up : l.back ≤ l.self.area.sectors;
      none : (j : ℕ) → j < l.self.area.sectors → (i : ℕ) → i < l.back → (j + i ≡ l.self.current) ⊎ (j + i ≡ l.self.current + l.self.area.sectors) → let b = sector_at (sectors_of d l.self.area) j in
          NoneIsItem k b (items_on g.T.SlotSectors.format_of d l.self.area) l.ids l.bytes k.first (k.first + k.count b);
      few : NoneHoldsAt k (sectors_of d l.self.area) l.self.area.sectors l.ids l.bytes → l.steps ≤ l.initial.steps + l.back;
      held : (low : l.self.current < length (sectors_of d l.self.area)) → l.back < l.self.area.sectors → (j : ℕ) → j < l.self.area.sectors → (j + l.back ≡ l.self.current) ⊎ (j + l.back ≡ l.self.current + l.self.area.sectors) → let sectors = sectors_of d l.self.area in
          l.steps + (held_here k l.ids l.bytes sectors l.self.current low j + held_before k l.ids l.bytes sectors l.self.current low j) * holder_views l.self.area.sectors ≤ l.initial.steps + l.back + held_in_all k sectors l.ids l.bytes * holder_views l.self.area.sectors;
      most : l.steps ≤ l.initial.steps + l.back + held_in_all k (sectors_of d l.self.area) l.ids l.bytes * holder_views l.self.area.sectors;
    }
