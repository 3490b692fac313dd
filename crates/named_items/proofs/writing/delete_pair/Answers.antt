use Rattle.std.proofs.Common.{◌≡◌, refl, sym, subst, ◌∙◌, arith}
use Rattle.std.specs.Prelude.{None}
use Rattle.std.proofs.lemmas.Bool.{false≢true}
use Rattle.flash_map.specs.declared.area.Area.{Area}
use Rattle.flash_map.specs.On.{on}
use Rattle.flash_sim.specs.Device.{Device}
use Rattle.flash_map.specs.Area.{geometry_of}
use Rattle.backend_api.specs.Written.{StaysWritten}
use Rattle.named_items.specs.StoreEnds as items
use Rattle.named_items.proofs.SpendSteps.{spends-calls, one-call, calls-within}
use Rattle.named_items.proofs.writing.delete_pair.Goals as goal

pub returns-clause-at_most : goal.returns-clause-at_most
returns-clause-at_most g c =
    let a : Device = g.F.Flash.device c.args.flash.now in
    let b : Device = g.F.Flash.device c.delete.new.flash in
    let e : Device = g.F.Flash.device c.delete-2.new.flash in
    let area = g.S.ItemStore.mounted_on c.args.store.now in
    calls-within a e 2 (geometry_of a (g.S.ItemStore.mounted_on c.args.store.now)) (omega arith)
    (spends-calls a b e (g.S.ItemStore.mounted_on c.args.store.now) (g.S.ItemStore.mounted_on c.delete.new.self) 1 c.delete.ensures.touches.banks c.delete.ensures.area
    (one-call a b (items.item_units (geometry_of a (g.S.ItemStore.mounted_on c.args.store.now))) c.delete.ensures.units.at_most) c.delete-2.ensures.units.at_most)

pub returns-in_err-delete-clause-at_most : goal.returns-in_err-delete-clause-at_most
returns-in_err-delete-clause-at_most g c =
    let a : Device = g.F.Flash.device c.args.flash.now in
    let b : Device = g.F.Flash.device c.delete.new.flash in
    let k = geometry_of a (g.S.ItemStore.mounted_on c.args.store.now) in
    calls-within a b 1 k (omega arith) (one-call a b (items.item_units k) c.delete.ensures.units.at_most)

pub returns-clause-store : goal.returns-clause-store
returns-clause-store g c =
    let e : Device = g.F.Flash.device c.delete-2.new.flash in
    record {
      area = c.delete-2.ensures.area ∙ c.delete.ensures.area;
      sound = subst (λ (x : Area). on g.S.ItemStore.damage e x ≡ None) c.delete.ensures.area c.delete-2.ensures.sound;
      up = λ kept. c.delete-2.ensures.stands kept;
      down = λ lost. c.delete-2.ensures.down lost;
    }

pub returns-in_err-delete-clause-store : goal.returns-in_err-delete-clause-store
returns-in_err-delete-clause-store g c = record {
  area = c.delete.ensures.area;
  sound = c.delete.ensures.sound;
  up = λ kept. absurd (false≢true (sym kept ∙ c.from_residual.ensures.0));
  down = λ lost. c.in_err-delete.ensures.down refl;
}

pub returns-clause-written : goal.returns-clause-written
returns-clause-written g c = λ blank.
    let b : Device = g.F.Flash.device c.delete.new.flash in
    let e : Device = g.F.Flash.device c.delete-2.new.flash in
    c.delete.ensures.written (subst (λ (x : Area). StaysWritten b e x) c.delete.ensures.area c.delete-2.ensures.written blank)

pub returns-in_err-delete-clause-written : goal.returns-in_err-delete-clause-written
returns-in_err-delete-clause-written g c = c.delete.ensures.written
