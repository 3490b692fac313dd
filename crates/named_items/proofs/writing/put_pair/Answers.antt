-- Each path is a write of the value, mostly a write of the name, and in the last four goals the delete that undoes the first.
use Rattle.std.proofs.Common.{◌≡◌, ℕ, ◌∷◌, [], false, true, List, Some, None, Ok, Err, refl, sym, ap, subst, ◌∙◌, inr, arith, ◌<◌, ◌≤◌, length}
use Rattle.std.specs.FinMap.{get, insert}
use Rattle.std.proofs.lemmas.Bool.{false≢true}
use Rattle.flash_sim.specs.Device.{Device}
use Rattle.flash_map.specs.declared.area.Area.{Area}
use Rattle.flash_map.specs.declared.area.Geometry.{Geometry}
use Rattle.flash_map.specs.declared.faults.WriteFault.{WriteFault}
use Rattle.flash_map.specs.declared.faults.WriteFault.TheVariants.{NoSpace, TooLong, PowerLost}
use Rattle.flash_map.specs.Area.{geometry_of, sectors_of, value_limit}
use Rattle.flash_map.specs.Faults.{write_lost}
use Rattle.flash_map.specs.Touches.{Touches}
use Rattle.flash_map.proofs.Touches.{then}
use Rattle.item_laws.specs.Items.{Items}
use Rattle.flash_map.specs.On.{on}
use Rattle.named_items.specs.Limits.{limit-least}
use Rattle.named_items.specs.StoreEnds.{WriteEnds, DeleteEnds}
use Rattle.named_items.specs.Ends.{IsNeedOfOne, IsRefused}
use Rattle.named_items.proofs.PutSteps.{value-fails, undone, name-refused, undo-lost, moved-write, name-cut, not-over, absent-differs, valued-differs}
use Rattle.named_items.specs.StoreEnds as calls
use Rattle.named_items.proofs.SpendSteps.{one-call, spends-calls, calls-more}
use Rattle.named_items.proofs.ChangeSteps.{moved-lawful}
use Rattle.named_items.proofs.writing.put_pair.Goals as goal

pub returns-in-Err : goal.returns-in-Err
returns-in-Err g c = record {
  ends = let a : Device = g.F.Flash.device c.args.flash.now in
      let b : Device = g.F.Flash.device c.write_changed.new.flash in
      let own : Area = g.S.ItemStore.mounted_on c.args.store.now in
      let k : Geometry = geometry_of a own in
      value-fails (g.S.ItemStore.price k) (g.S.ItemStore.cap k) own.sectors (on g.S.ItemStore.contents a own) c.args.first c.args.second c.args.name.now c.args.value.now (Unit {0}) a b (on g.S.ItemStore.contents b own) c.in-Err.fault
      (λ same. ap (λ (d : Device). on g.S.ItemStore.contents d own) same) c.in-Err.ensures.ends;
  store = record {
    area = c.in-Err.ensures.area;
    sound = c.in-Err.ensures.sound;
    up = λ kept. c.in-Err.ensures.stands kept;
    down = λ lost. c.in-Err.ensures.down lost;
  };
  touches = c.in-Err.ensures.touches;
  at_most = let a : Device = g.F.Flash.device c.args.flash.now in
      let b : Device = g.F.Flash.device c.write_changed.new.flash in
      let own : Area = g.S.ItemStore.mounted_on c.args.store.now in
      calls-more a b 1 3 (calls.item_units (geometry_of a own)) (omega arith) (one-call a b (calls.item_units (geometry_of a own)) c.write_changed.ensures.at_most);
}

pub returns-in-Ok-delete : goal.returns-in-Ok-delete
returns-in-Ok-delete g c = record {
  touches = let b : Device = g.F.Flash.device c.write_changed.new.flash in
      let e : Device = g.F.Flash.device c.write_changed-2.new.flash in
      let f : Device = g.F.Flash.device c.delete.new.flash in
      then c.in-Ok.ensures.touches
      (then (subst (λ (x : Area). Touches (x ∷ []) b e false) c.in-Ok.ensures.area (subst (λ (w : WriteFault). Touches (g.S.ItemStore.mounted_on c.write_changed.new.self ∷ []) b e (write_lost {T = Unit {0}} (Err w))) c.in-Err-NoSpace.field-0-is c.in-Err-NoSpace.ensures.touches))
      (subst (λ (x : Area). Touches (x ∷ []) e f false) (c.in-Err-NoSpace.ensures.area ∙ c.in-Ok.ensures.area) c.in-Ok-delete.ensures.touches));
  ends = let a : Device = g.F.Flash.device c.args.flash.now in
      let b : Device = g.F.Flash.device c.write_changed.new.flash in
      let e : Device = g.F.Flash.device c.write_changed-2.new.flash in
      let f : Device = g.F.Flash.device c.delete.new.flash in
      let own : Area = g.S.ItemStore.mounted_on c.args.store.now in
      let k : Geometry = geometry_of a own in
      let before : Items = on g.S.ItemStore.contents a own in
      let ok : on g.S.ItemStore.contents b own ≡ insert (on g.S.ItemStore.contents a own) c.args.second c.args.value.now = c.in-Ok.ensures.ends.items in
      let second : WriteEnds {T = Unit {0}} (g.S.ItemStore.price k) (g.S.ItemStore.cap k) own.sectors b e (on g.S.ItemStore.contents b own) (on g.S.ItemStore.contents e own) c.args.first c.bytes.result.now (Err (NoSpace c.in-Err-NoSpace.need c.in-Err-NoSpace.live)) =
      moved-write g.S.ItemStore.contents g.S.ItemStore.price g.S.ItemStore.cap own (g.S.ItemStore.mounted_on c.write_changed.new.self) c.in-Ok.ensures.area a b e c.in-Ok.ensures.touches.banks (Unit {0}) c.args.first c.bytes.result.now (Err (NoSpace c.in-Err-NoSpace.need c.in-Err-NoSpace.live))
      (subst (λ (w : WriteFault). WriteEnds {T = Unit {0}} (g.S.ItemStore.price (geometry_of b (g.S.ItemStore.mounted_on c.write_changed.new.self))) (g.S.ItemStore.cap (geometry_of b (g.S.ItemStore.mounted_on c.write_changed.new.self))) (g.S.ItemStore.mounted_on c.write_changed.new.self).sectors b e (on g.S.ItemStore.contents b (g.S.ItemStore.mounted_on c.write_changed.new.self)) (on g.S.ItemStore.contents e (g.S.ItemStore.mounted_on c.write_changed.new.self)) c.args.first c.bytes.result.now (Err w)) c.in-Err-NoSpace.field-0-is c.in-Err-NoSpace.ensures.ends) in
      let there : on g.S.ItemStore.contents e own ≡ insert (on g.S.ItemStore.contents a own) c.args.second c.args.value.now = second.items ∙ c.in-Ok.ensures.ends.items in (
        undone (g.S.ItemStore.price k) (g.S.ItemStore.cap k) own.sectors before c.args.first c.args.second c.args.name.now c.args.value.now c.requires.free.1 (on g.S.ItemStore.contents e own) there (on g.S.ItemStore.contents f own)
            (subst (λ (x : Area). DeleteEnds {T = Unit {0}} e f (on g.S.ItemStore.contents e x) (on g.S.ItemStore.contents f x) c.args.second (Ok tt)) (c.in-Err-NoSpace.ensures.area ∙ c.in-Ok.ensures.area) c.in-Ok-delete.ensures.ends).items,
        subst (λ (n : List ℕ). IsRefused (g.S.ItemStore.price k) (g.S.ItemStore.cap k) own.sectors (on g.S.ItemStore.contents a own) n c.args.value.now) c.bytes.ensures.value (name-refused (g.S.ItemStore.price k) (g.S.ItemStore.cap k) own.sectors before c.args.first c.args.second c.bytes.result.now c.args.value.now c.requires.free.1 (on g.S.ItemStore.contents b own) ok second.full),
        subst (λ (n : List ℕ). IsNeedOfOne (g.S.ItemStore.price k) c.in-Err-NoSpace.need n c.args.value.now) c.bytes.ensures.value (inr second.needs),
      );
  at_most = let a : Device = g.F.Flash.device c.args.flash.now in
      let b : Device = g.F.Flash.device c.write_changed.new.flash in
      let e : Device = g.F.Flash.device c.write_changed-2.new.flash in
      let own : Area = g.S.ItemStore.mounted_on c.args.store.now in
      let one = one-call a b (calls.item_units (geometry_of a own)) c.write_changed.ensures.at_most in
      let two = spends-calls a b e own (g.S.ItemStore.mounted_on c.write_changed.new.self) 1 c.write_changed.ensures.touches.banks c.write_changed.ensures.area one c.write_changed-2.ensures.at_most in
      let f : Device = g.F.Flash.device c.delete.new.flash in
      spends-calls a e f own (g.S.ItemStore.mounted_on c.write_changed-2.new.self) 2 (c.write_changed-2.ensures.touches.banks ∙ c.write_changed.ensures.touches.banks) (c.write_changed-2.ensures.area ∙ c.write_changed.ensures.area) two c.delete.ensures.units.at_most;
  store = record {
    area = c.delete.ensures.area ∙ c.write_changed-2.ensures.area ∙ c.write_changed.ensures.area;
    sound = subst (λ (x : Area). on g.S.ItemStore.damage (g.F.Flash.device c.delete.new.flash) x ≡ None) (c.write_changed-2.ensures.area ∙ c.write_changed.ensures.area) c.delete.ensures.sound;
    up = λ kept. c.in-Ok-delete.ensures.stands refl;
    down = λ lost. absurd (false≢true lost);
  };
}

pub returns-in-Err-delete : goal.returns-in-Err-delete
returns-in-Err-delete g c = record {
  touches = let b : Device = g.F.Flash.device c.write_changed.new.flash in
      let e : Device = g.F.Flash.device c.write_changed-2.new.flash in
      let f : Device = g.F.Flash.device c.delete.new.flash in
      then c.in-Ok.ensures.touches
      (then (subst (λ (x : Area). Touches (x ∷ []) b e false) c.in-Ok.ensures.area (subst (λ (w : WriteFault). Touches (g.S.ItemStore.mounted_on c.write_changed.new.self ∷ []) b e (write_lost {T = Unit {0}} (Err w))) c.in-Err-NoSpace.field-0-is c.in-Err-NoSpace.ensures.touches))
      (subst (λ (x : Area). Touches (x ∷ []) e f true) (c.in-Err-NoSpace.ensures.area ∙ c.in-Ok.ensures.area) c.in-Err-delete.ensures.touches));
  ends = let a : Device = g.F.Flash.device c.args.flash.now in
      let b : Device = g.F.Flash.device c.write_changed.new.flash in
      let e : Device = g.F.Flash.device c.write_changed-2.new.flash in
      let f : Device = g.F.Flash.device c.delete.new.flash in
      let own : Area = g.S.ItemStore.mounted_on c.args.store.now in
      let k : Geometry = geometry_of a own in
      let before : Items = on g.S.ItemStore.contents a own in
      let ok : on g.S.ItemStore.contents b own ≡ insert (on g.S.ItemStore.contents a own) c.args.second c.args.value.now = c.in-Ok.ensures.ends.items in
      let second : WriteEnds {T = Unit {0}} (g.S.ItemStore.price k) (g.S.ItemStore.cap k) own.sectors b e (on g.S.ItemStore.contents b own) (on g.S.ItemStore.contents e own) c.args.first c.bytes.result.now (Err (NoSpace c.in-Err-NoSpace.need c.in-Err-NoSpace.live)) =
      moved-write g.S.ItemStore.contents g.S.ItemStore.price g.S.ItemStore.cap own (g.S.ItemStore.mounted_on c.write_changed.new.self) c.in-Ok.ensures.area a b e c.in-Ok.ensures.touches.banks (Unit {0}) c.args.first c.bytes.result.now (Err (NoSpace c.in-Err-NoSpace.need c.in-Err-NoSpace.live))
      (subst (λ (w : WriteFault). WriteEnds {T = Unit {0}} (g.S.ItemStore.price (geometry_of b (g.S.ItemStore.mounted_on c.write_changed.new.self))) (g.S.ItemStore.cap (geometry_of b (g.S.ItemStore.mounted_on c.write_changed.new.self))) (g.S.ItemStore.mounted_on c.write_changed.new.self).sectors b e (on g.S.ItemStore.contents b (g.S.ItemStore.mounted_on c.write_changed.new.self)) (on g.S.ItemStore.contents e (g.S.ItemStore.mounted_on c.write_changed.new.self)) c.args.first c.bytes.result.now (Err w)) c.in-Err-NoSpace.field-0-is c.in-Err-NoSpace.ensures.ends) in
      let there : on g.S.ItemStore.contents e own ≡ insert (on g.S.ItemStore.contents a own) c.args.second c.args.value.now = second.items ∙ c.in-Ok.ensures.ends.items in
      undo-lost (g.S.ItemStore.price k) (g.S.ItemStore.cap k) own.sectors before c.args.first c.args.second c.args.name.now c.args.value.now c.requires.free.1 (on g.S.ItemStore.contents e own) there (Unit {0}) (Unit {0}) e f (on g.S.ItemStore.contents f own) c.in-Err-delete.field-0
      (subst (λ (x : Area). DeleteEnds {T = Unit {0}} e f (on g.S.ItemStore.contents e x) (on g.S.ItemStore.contents f x) c.args.second (Err c.in-Err-delete.field-0)) (c.in-Err-NoSpace.ensures.area ∙ c.in-Ok.ensures.area) c.in-Err-delete.ensures.ends);
  at_most = let a : Device = g.F.Flash.device c.args.flash.now in
      let b : Device = g.F.Flash.device c.write_changed.new.flash in
      let e : Device = g.F.Flash.device c.write_changed-2.new.flash in
      let own : Area = g.S.ItemStore.mounted_on c.args.store.now in
      let one = one-call a b (calls.item_units (geometry_of a own)) c.write_changed.ensures.at_most in
      let two = spends-calls a b e own (g.S.ItemStore.mounted_on c.write_changed.new.self) 1 c.write_changed.ensures.touches.banks c.write_changed.ensures.area one c.write_changed-2.ensures.at_most in
      let f : Device = g.F.Flash.device c.delete.new.flash in
      spends-calls a e f own (g.S.ItemStore.mounted_on c.write_changed-2.new.self) 2 (c.write_changed-2.ensures.touches.banks ∙ c.write_changed.ensures.touches.banks) (c.write_changed-2.ensures.area ∙ c.write_changed.ensures.area) two c.delete.ensures.units.at_most;
  store = record {
    area = c.delete.ensures.area ∙ c.write_changed-2.ensures.area ∙ c.write_changed.ensures.area;
    sound = subst (λ (x : Area). on g.S.ItemStore.damage (g.F.Flash.device c.delete.new.flash) x ≡ None) (c.write_changed-2.ensures.area ∙ c.write_changed.ensures.area) c.delete.ensures.sound;
    up = λ kept. absurd (false≢true (sym kept));
    down = λ lost. c.in-Err-delete.ensures.down refl;
  };
}

pub returns-in-Ok-write_changed : goal.returns-in-Ok-write_changed
returns-in-Ok-write_changed g c = record {
  at_most = let a : Device = g.F.Flash.device c.args.flash.now in
      let b : Device = g.F.Flash.device c.write_changed.new.flash in
      let e : Device = g.F.Flash.device c.write_changed-2.new.flash in
      let own : Area = g.S.ItemStore.mounted_on c.args.store.now in
      let one = one-call a b (calls.item_units (geometry_of a own)) c.write_changed.ensures.at_most in
      let two = spends-calls a b e own (g.S.ItemStore.mounted_on c.write_changed.new.self) 1 c.write_changed.ensures.touches.banks c.write_changed.ensures.area one c.write_changed-2.ensures.at_most in
      calls-more a e 2 3 (calls.item_units (geometry_of a own)) (omega arith) two;
  store = record {
    area = c.write_changed-2.ensures.area ∙ c.write_changed.ensures.area;
    sound = subst (λ (x : Area). on g.S.ItemStore.damage (g.F.Flash.device c.write_changed-2.new.flash) x ≡ None) (c.write_changed.ensures.area) c.write_changed-2.ensures.sound;
    up = λ kept. c.in-Ok-write_changed.ensures.stands kept;
    down = λ lost. absurd (false≢true lost);
  };
  touches = let b : Device = g.F.Flash.device c.write_changed.new.flash in
      let e : Device = g.F.Flash.device c.write_changed-2.new.flash in
      then c.in-Ok.ensures.touches (subst (λ (x : Area). Touches (x ∷ []) b e false) c.in-Ok.ensures.area c.in-Ok-write_changed.ensures.touches);
  ends = let a : Device = g.F.Flash.device c.args.flash.now in
      let b : Device = g.F.Flash.device c.write_changed.new.flash in
      let e : Device = g.F.Flash.device c.write_changed-2.new.flash in
      let own : Area = g.S.ItemStore.mounted_on c.args.store.now in
      let k : Geometry = geometry_of a own in
      let ok : on g.S.ItemStore.contents b own ≡ insert (on g.S.ItemStore.contents a own) c.args.second c.args.value.now = c.in-Ok.ensures.ends.items in
      let second : WriteEnds {T = Unit {0}} (g.S.ItemStore.price k) (g.S.ItemStore.cap k) own.sectors b e (on g.S.ItemStore.contents b own) (on g.S.ItemStore.contents e own) c.args.first c.bytes.result.now (Ok tt) = moved-write g.S.ItemStore.contents g.S.ItemStore.price g.S.ItemStore.cap own (g.S.ItemStore.mounted_on c.write_changed.new.self) c.in-Ok.ensures.area a b e c.in-Ok.ensures.touches.banks (Unit {0}) c.args.first c.bytes.result.now (Ok tt) c.in-Ok-write_changed.ensures.ends in
      subst (λ (n : List ℕ). on g.S.ItemStore.contents e own ≡ insert (insert (on g.S.ItemStore.contents a own) c.args.second c.args.value.now) c.args.first n) c.bytes.ensures.value
      (second.items ∙ ap (λ (m : Items). insert m c.args.first c.bytes.result.now) ok);
}

pub returns-in-Err-PowerLost : goal.returns-in-Err-PowerLost
returns-in-Err-PowerLost g c = record {
  at_most = let a : Device = g.F.Flash.device c.args.flash.now in
      let b : Device = g.F.Flash.device c.write_changed.new.flash in
      let e : Device = g.F.Flash.device c.write_changed-2.new.flash in
      let own : Area = g.S.ItemStore.mounted_on c.args.store.now in
      let one = one-call a b (calls.item_units (geometry_of a own)) c.write_changed.ensures.at_most in
      let two = spends-calls a b e own (g.S.ItemStore.mounted_on c.write_changed.new.self) 1 c.write_changed.ensures.touches.banks c.write_changed.ensures.area one c.write_changed-2.ensures.at_most in
      calls-more a e 2 3 (calls.item_units (geometry_of a own)) (omega arith) two;
  store = record {
    area = c.write_changed-2.ensures.area ∙ c.write_changed.ensures.area;
    sound = subst (λ (x : Area). on g.S.ItemStore.damage (g.F.Flash.device c.write_changed-2.new.flash) x ≡ None) (c.write_changed.ensures.area) c.write_changed-2.ensures.sound;
    up = λ kept. absurd (false≢true (sym kept));
    down = λ lost. c.in-Err-PowerLost.ensures.down (ap (λ (w : WriteFault). write_lost {T = Unit {0}} (Err w)) c.in-Err-PowerLost.field-0-is);
  };
  touches = let b : Device = g.F.Flash.device c.write_changed.new.flash in
      let e : Device = g.F.Flash.device c.write_changed-2.new.flash in
      then c.in-Ok.ensures.touches (subst (λ (x : Area). Touches (x ∷ []) b e true) c.in-Ok.ensures.area (subst (λ (w : WriteFault). Touches (g.S.ItemStore.mounted_on c.write_changed.new.self ∷ []) b e (write_lost {T = Unit {0}} (Err w))) c.in-Err-PowerLost.field-0-is c.in-Err-PowerLost.ensures.touches));
  ends = let a : Device = g.F.Flash.device c.args.flash.now in
      let b : Device = g.F.Flash.device c.write_changed.new.flash in
      let e : Device = g.F.Flash.device c.write_changed-2.new.flash in
      let own : Area = g.S.ItemStore.mounted_on c.args.store.now in
      let k : Geometry = geometry_of a own in
      let ok : on g.S.ItemStore.contents b own ≡ insert (on g.S.ItemStore.contents a own) c.args.second c.args.value.now = c.in-Ok.ensures.ends.items in
      let second : WriteEnds {T = Unit {0}} (g.S.ItemStore.price k) (g.S.ItemStore.cap k) own.sectors b e (on g.S.ItemStore.contents b own) (on g.S.ItemStore.contents e own) c.args.first c.bytes.result.now (Err PowerLost) =
      moved-write g.S.ItemStore.contents g.S.ItemStore.price g.S.ItemStore.cap own (g.S.ItemStore.mounted_on c.write_changed.new.self) c.in-Ok.ensures.area a b e c.in-Ok.ensures.touches.banks (Unit {0}) c.args.first c.bytes.result.now (Err PowerLost)
      (subst (λ (w : WriteFault). WriteEnds {T = Unit {0}} (g.S.ItemStore.price (geometry_of b (g.S.ItemStore.mounted_on c.write_changed.new.self))) (g.S.ItemStore.cap (geometry_of b (g.S.ItemStore.mounted_on c.write_changed.new.self))) (g.S.ItemStore.mounted_on c.write_changed.new.self).sectors b e (on g.S.ItemStore.contents b (g.S.ItemStore.mounted_on c.write_changed.new.self)) (on g.S.ItemStore.contents e (g.S.ItemStore.mounted_on c.write_changed.new.self)) c.args.first c.bytes.result.now (Err w)) c.in-Err-PowerLost.field-0-is c.in-Err-PowerLost.ensures.ends) in
      name-cut (on g.S.ItemStore.contents a own) (on g.S.ItemStore.contents b own) (on g.S.ItemStore.contents e own) c.args.first c.args.second c.bytes.result.now c.args.name.now c.args.value.now ok c.bytes.ensures.value second.items;
}

-- ---- the store

pub write_changed-requires : goal.write_changed-requires
write_changed-requires g c = record {
  lawful = c.requires.lawful;
  stands = c.requires.stands;
  known = c.requires.second;
  some = c.requires.some;
  differs = λ same. absent-differs (on g.S.ItemStore.contents (g.F.Flash.device c.args.flash.now) (g.S.ItemStore.mounted_on c.args.store.now)) c.args.second c.args.value.now c.requires.free.1 same;
}

pub write_changed-requires-2 : goal.write_changed-requires-2
write_changed-requires-2 g c = record {
  lawful = moved-lawful (g.S.ItemStore.mounted_on c.args.store.now) (g.S.ItemStore.mounted_on c.write_changed.new.self) (c.write_changed.ensures.area) (g.F.Flash.device c.args.flash.now) (g.F.Flash.device c.write_changed.new.flash) (c.write_changed.ensures.touches.banks) c.requires.lawful;
  stands = c.in-Ok.ensures.stands refl;
  known = c.requires.first;
  some = subst (λ (n : List ℕ). 0 < length n) (sym c.bytes.ensures.value) c.bytes.ensures.name.some;
  differs = let own : Area = g.S.ItemStore.mounted_on c.args.store.now in
      let a : Device = g.F.Flash.device c.args.flash.now in
      let b : Device = g.F.Flash.device c.write_changed.new.flash in
      subst (λ (x : Area). get (on g.S.ItemStore.contents b x) c.args.first ≡ Some c.bytes.result.now → ⊥) (sym c.in-Ok.ensures.area)
      (valued-differs (on g.S.ItemStore.contents a own) (on g.S.ItemStore.contents b own) c.args.first c.args.second c.args.value.now c.bytes.result.now c.requires.apart c.requires.free.0 c.in-Ok.ensures.ends.items);
}

pub delete-requires : goal.delete-requires
delete-requires g c = record {
  lawful = moved-lawful (g.S.ItemStore.mounted_on c.args.store.now) (g.S.ItemStore.mounted_on c.write_changed-2.new.self) (c.write_changed-2.ensures.area ∙ c.write_changed.ensures.area) (g.F.Flash.device c.args.flash.now) (g.F.Flash.device c.write_changed-2.new.flash) (c.write_changed-2.ensures.touches.banks ∙ c.write_changed.ensures.touches.banks) c.requires.lawful;
  stands = c.in-Err-NoSpace.ensures.stands (ap (λ (w : WriteFault). write_lost {T = Unit {0}} (Err w)) c.in-Err-NoSpace.field-0-is);
  known = c.requires.second;
}

pub unreachable-requires : goal.unreachable-requires
unreachable-requires g c =
    let a : Device = g.F.Flash.device c.args.flash.now in
    let b : Device = g.F.Flash.device c.write_changed.new.flash in
    let e : Device = g.F.Flash.device c.write_changed-2.new.flash in
    let own : Area = g.S.ItemStore.mounted_on c.args.store.now in
    let k : Geometry = geometry_of a own in
    let second : WriteEnds {T = Unit {0}} (g.S.ItemStore.price k) (g.S.ItemStore.cap k) own.sectors b e (on g.S.ItemStore.contents b own) (on g.S.ItemStore.contents e own) c.args.first c.bytes.result.now (Err TooLong) =
    moved-write g.S.ItemStore.contents g.S.ItemStore.price g.S.ItemStore.cap own (g.S.ItemStore.mounted_on c.write_changed.new.self) c.in-Ok.ensures.area a b e c.in-Ok.ensures.touches.banks (Unit {0}) c.args.first c.bytes.result.now (Err TooLong)
    (subst (λ (w : WriteFault). WriteEnds {T = Unit {0}} (g.S.ItemStore.price (geometry_of b (g.S.ItemStore.mounted_on c.write_changed.new.self))) (g.S.ItemStore.cap (geometry_of b (g.S.ItemStore.mounted_on c.write_changed.new.self))) (g.S.ItemStore.mounted_on c.write_changed.new.self).sectors b e (on g.S.ItemStore.contents b (g.S.ItemStore.mounted_on c.write_changed.new.self)) (on g.S.ItemStore.contents e (g.S.ItemStore.mounted_on c.write_changed.new.self)) c.args.first c.bytes.result.now (Err w)) c.in-Err-TooLong.field-0-is c.in-Err-TooLong.ensures.ends) in
    let serves = g.met.S.ItemStore.stands_serves c.args.store.now k (sectors_of a own) c.requires.stands in
    let text : length c.bytes.result.now ≤ 64 = subst (λ (n : List ℕ). length n ≤ 64) (sym c.bytes.ensures.value) c.bytes.ensures.name.short in
    let short : length c.bytes.result.now ≤ value_limit own = (let least : 256 ≤ value_limit own = limit-least own in omega (arith, text, least)) in
    not-over (g.S.ItemStore.cap k) (g.S.ItemStore.price k (length c.bytes.result.now)) (g.met.S.ItemStore.fits a own (length c.bytes.result.now) c.requires.lawful serves short) second.0
