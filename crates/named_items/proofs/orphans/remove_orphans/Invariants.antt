use Rattle.std.proofs.Common.{◌≡◌, ◌<◌, ◌∷◌, [], false, None}
use Rattle.std.specs.Prelude.{IfSome}
use Rattle.flash_map.specs.Area.{geometry_of}
use Rattle.flash_map.specs.Touches.{Touches}
use Rattle.flash_map.specs.On.{on, HoldsOn, StandsOn}
use Rattle.named_items.specs.Pairs.{settings_in, HasNoOrphans}
use Rattle.backend_api.specs.Room.{removal_units}
use Rattle.backend_api.specs.Written.{StaysWritten}
use Rattle.item_laws.specs.Items.{Items}
use Rattle.named_items.specs.Orphans.{OnlyRemoves, SpendsPerItem, OrphansIn, MayRemove}
use Rattle.named_items.specs.StoreEnds.{delete_units, next_delete}
use Rattle.named_items.specs.Seen.{SawBelow}
use Rattle.named_items.proofs.RemovedSteps.{StaysAhead}
use Rattle.named_items.proofs.SoFar.{HasNoneBefore, ids_left}
use Rattle.named_items.proofs.OrphanSteps.{StaysEach}
use Rattle.named_items.proofs.orphans.remove_orphans.Given as goal

abbrev pub invariant-loop-at : goal.invariant-loop-at
invariant-loop-at g l =
    let a = g.F.Flash.device l.initial.flash in
    let b = g.F.Flash.device l.flash in
    let own = g.S.ItemStore.mounted_on l.initial.store in
    record {
      touches : Touches (own ∷ []) a b false;
      area : g.S.ItemStore.mounted_on l.store ≡ own;
      stands : StandsOn g.S.ItemStore.mounted_on g.S.ItemStore.stands b l.store;
      describes : HoldsOn (g.S.ItemStore.describes l.index) b (g.S.ItemStore.mounted_on l.store);
      sound : on g.S.ItemStore.damage b own ≡ None;
      keeps : settings_in (g.N.IdLayout.numbering own) (on g.S.ItemStore.contents b own) ≡ settings_in (g.N.IdLayout.numbering own) (on g.S.ItemStore.contents a own);
      kept : StaysEach (g.N.IdLayout.numbering own) (on g.S.ItemStore.contents a own) (on g.S.ItemStore.contents b own);
      gone : OnlyRemoves (on g.S.ItemStore.contents a own) (on g.S.ItemStore.contents b own);
      ahead : StaysAhead (on g.S.ItemStore.contents a own) (on g.S.ItemStore.contents b own) l.at;
      same : HasNoOrphans (g.N.IdLayout.numbering own) (on g.S.ItemStore.contents a own) → b ≡ a;
      written : StaysWritten a b own;
      so_far : HasNoneBefore (g.N.IdLayout.numbering own) (on g.S.ItemStore.contents b own) l.at;
      per_item : SpendsPerItem (removal_units (geometry_of a own)) a b (on g.S.ItemStore.contents a own) (on g.S.ItemStore.contents b own);
      gone_so_far : (orphans : Items) → OrphansIn (g.N.IdLayout.numbering own) (on g.S.ItemStore.contents a own) orphans
          → MayRemove (g.N.IdLayout.numbering own) (next_delete (delete_units g.S.ItemStore.removal g.S.ItemStore.entry g.S.ItemStore.roomy a own)) (g.S.ItemStore.removal (geometry_of a own)) a b (on g.S.ItemStore.contents b own) orphans;
      saw : IfSome l.at (λ id. SawBelow (g.N.IdLayout.numbering own) (on g.S.ItemStore.contents b own) l.seen.words id);
      known : IfSome l.at (λ id. id < g.N.IdLayout.top);
    }

abbrev pub decreases-loop-at : goal.decreases-loop-at
decreases-loop-at g l = ids_left l.at
