use Rattle.std.proofs.Common.{◌≡◌, ℕ, ◌+◌, ◌<◌, ◌≤◌, ◌∷◌, [], length, true, false, Some, Err, sym, ap, subst, ◌∙◌, refl, inl, arith, Bool}
use Rattle.std.specs.FinMap.{get}
use Rattle.std.proofs.lemmas.Bool.{false≢true}
use Rattle.flash_sim.specs.Device.{Device}
use Rattle.flash_map.specs.declared.area.Area.{Area}
use Rattle.flash_map.specs.declared.area.Geometry.{Geometry}
use Rattle.flash_map.specs.declared.faults.WriteFault.{WriteFault}
use Rattle.flash_map.specs.Area.{geometry_of}
use Rattle.flash_map.specs.Faults.{write_lost}
use Rattle.item_laws.specs.Items.{Items}
use Rattle.backend_api.specs.declared.backend.SetFault.{SetFault}
use Rattle.backend_api.specs.Ends.{SetEnds, set_lost}
use Rattle.flash_map.specs.On.{on}
use Rattle.named_items.specs.StoreEnds as ends
use Rattle.named_items.specs.Leaving.{SetLeavesItems}
use Rattle.named_items.specs.Numbering.{Numbering}
use Rattle.named_items.specs.Pairs.{is_pair, settings_in, AltersOnly, HasNoOrphans}
use Rattle.named_items.specs.Putting.{room_in, IsPut}
use Rattle.named_items.proofs.ChangeSteps.{moved-clean, moved-lawful, moved-cost, moved-price, change-clean, change-done, change-refused, change-cut, change-orphans, change-few, stored-holds}
use Rattle.named_items.proofs.LeavingSteps.{one-cut, changes}
use Rattle.named_items.proofs.LookupSteps.{at-passes, at-known}
use Rattle.named_items.proofs.OtherSteps.{write-alters}
use Rattle.named_items.proofs.SpendSteps.{spends-some}
use Rattle.flash_map.specs.Touches.{Touches}
use Rattle.named_items.specs.Orphans.{HasOrphans}
use Rattle.named_items.proofs.putting.change_value.Goals as goal

pub overflow_add-first : goal.overflow_add-first
overflow_add-first g c =
    let d : Device = g.F.Flash.device c.args.flash.now in
    let own : Area = g.S.ItemStore.mounted_on c.args.store.now in
    let n : Numbering = g.N.IdLayout.numbering own in
    let k : Geometry = geometry_of d own in
    let before : Items = on g.S.ItemStore.contents d own in
    let low : c.args.first + n.step < g.N.IdLayout.top = at-known n before c.args.name.now c.args.first c.requires.at g.N.IdLayout.top (g.met.N.IdLayout.within own) in
    let same : n.step ≡ c.step.result = c.step.ensures own in
    omega (arith, low, same, g.met.N.IdLayout.top_small)

pub write_changed-requires : goal.write_changed-requires
write_changed-requires g c = record {
  known = let d : Device = g.F.Flash.device c.args.flash.now in
      let own : Area = g.S.ItemStore.mounted_on c.args.store.now in
      let n : Numbering = g.N.IdLayout.numbering own in
      let k : Geometry = geometry_of d own in
      let before : Items = on g.S.ItemStore.contents d own in
      let low : c.args.first + n.step < g.N.IdLayout.top = at-known n before c.args.name.now c.args.first c.requires.at g.N.IdLayout.top (g.met.N.IdLayout.within own) in
      subst (λ (step : ℕ). g.S.ItemStore.is_id (c.args.first + step)) (c.step.ensures own) (c.requires.ids.all (c.args.first + n.step) low);
  lawful = c.requires.here.lawful;
  stands = c.requires.here.up;
  some = c.requires.value.some;
  differs = let own : Area = g.S.ItemStore.mounted_on c.args.store.now in
      let before : Items = on g.S.ItemStore.contents (g.F.Flash.device c.args.flash.now) own in
      subst (λ (step : ℕ). get before (c.args.first + step) ≡ Some c.args.value.now → ⊥) (c.step.ensures own) c.requires.differs;
}

pub refused-requires : goal.refused-requires
refused-requires g c = record {
  here = let d : Device = g.F.Flash.device c.args.flash.now in
      let e : Device = g.F.Flash.device c.write_changed.new.flash in
      let own : Area = g.S.ItemStore.mounted_on c.args.store.now in
      let n : Numbering = g.N.IdLayout.numbering own in
      let k : Geometry = geometry_of d own in
      let before : Items = on g.S.ItemStore.contents d own in
      let after : Items = on g.S.ItemStore.contents e own in
      let finds : ends.FindsNoSpace (g.S.ItemStore.price k) (g.S.ItemStore.cap k) own.sectors before after (c.args.first + n.step) c.args.value.now c.in-Err-NoSpace.field-0-0 c.in-Err-NoSpace.field-0-1 =
      subst (λ (w : WriteFault). ends.WriteEnds {T = Unit {0}} (g.S.ItemStore.price k) (g.S.ItemStore.cap k) own.sectors d e before after (c.args.first + n.step) c.args.value.now (Err w)) c.in-Err-NoSpace.field-0-is
      (subst (λ (step : ℕ). ends.WriteEnds {T = Unit {0}} (g.S.ItemStore.price k) (g.S.ItemStore.cap k) own.sectors d e before after (c.args.first + step) c.args.value.now (Err c.in-Err-NoSpace.field-0)) (sym (c.step.ensures own)) c.in-Err-NoSpace.ensures.ends) in
      record {
        lawful = moved-lawful own (g.S.ItemStore.mounted_on c.write_changed.new.self) c.write_changed.ensures.area d e c.write_changed.ensures.touches.banks c.requires.here.lawful;
        up = c.in-Err-NoSpace.ensures.stands (ap (λ (w : WriteFault). write_lost {T = Unit {0}} (Err w)) c.in-Err-NoSpace.field-0-is);
        clean = moved-clean g.N.IdLayout.numbering g.N.IdLayout.counted g.N.IdLayout.too_many g.S.ItemStore.contents own (g.S.ItemStore.mounted_on c.write_changed.new.self) c.write_changed.ensures.area e (subst (HasNoOrphans n) (sym finds.items) c.requires.here.clean);
      };
  ids = c.requires.ids;
}

pub returns-in-Ok : goal.returns-in-Ok
returns-in-Ok g c = record {
  store = record {
    area = c.write_changed.ensures.area;
    sound = c.write_changed.ensures.sound;
    up = λ kept. c.in-Ok.ensures.stands kept;
    down = λ lost. absurd (false≢true lost);
  };
  ends = let d : Device = g.F.Flash.device c.args.flash.now in
      let e : Device = g.F.Flash.device c.write_changed.new.flash in
      let own : Area = g.S.ItemStore.mounted_on c.args.store.now in
      let n : Numbering = g.N.IdLayout.numbering own in
      let k : Geometry = geometry_of d own in
      let before : Items = on g.S.ItemStore.contents d own in
      let after : Items = on g.S.ItemStore.contents e own in
      let pair : is_pair n c.args.first c.args.name.now c.args.value.now ≡ true = at-passes n before c.args.name.now c.args.first c.requires.at c.args.value.now c.requires.value.some (subst (λ (most : ℕ). length c.args.value.now ≤ most) (sym (g.met.N.IdLayout.longest own)) c.requires.value.short) in
      let writes : ends.Writes (g.S.ItemStore.price k) (g.S.ItemStore.cap k) d e before after (c.args.first + n.step) c.args.value.now =
      subst (λ (step : ℕ). ends.Writes (g.S.ItemStore.price k) (g.S.ItemStore.cap k) d e before after (c.args.first + step) c.args.value.now) (sym (c.step.ensures own)) c.in-Ok.ensures.ends in
      record {
        ends = change-done n (g.met.N.IdLayout.is_numbering own) g.N.IdLayout.counted g.N.IdLayout.too_many (g.met.N.IdLayout.count_cost own) g.met.N.IdLayout.stored_few before c.requires.here.clean c.args.name.now c.args.value.now c.args.first (c.args.first + n.step) c.requires.at pair refl (g.S.ItemStore.price k) (g.S.ItemStore.cap k) own.sectors d e after writes.items writes.equal
            (λ changed. spends-some g.S.ItemStore.contents d e own (own ∷ []) (write_lost c.write_changed.result) c.write_changed.ensures.touches (λ same. changed (ap (settings_in n) same)));
        cut = λ lost. absurd {A = IsPut (settings_in n before) (settings_in n after) c.args.name.now c.args.value.now} (false≢true lost);
        few = λ lost. absurd {A = HasOrphans n after 1} (false≢true lost);
        clean = λ kept. subst (HasNoOrphans n) (sym writes.items) (change-clean n (g.met.N.IdLayout.is_numbering own) g.N.IdLayout.counted g.N.IdLayout.too_many (g.met.N.IdLayout.count_cost own) g.met.N.IdLayout.stored_few before c.requires.here.clean c.args.name.now c.args.value.now c.args.first (c.args.first + n.step) c.requires.at pair refl);
      };
  items = let d : Device = g.F.Flash.device c.args.flash.now in
      let e : Device = g.F.Flash.device c.write_changed.new.flash in
      let own : Area = g.S.ItemStore.mounted_on c.args.store.now in
      let n : Numbering = g.N.IdLayout.numbering own in
      let k : Geometry = geometry_of d own in
      let before : Items = on g.S.ItemStore.contents d own in
      let after : Items = on g.S.ItemStore.contents e own in
      let writes : ends.Writes (g.S.ItemStore.price k) (g.S.ItemStore.cap k) d e before after (c.args.first + n.step) c.args.value.now =
      subst (λ (step : ℕ). ends.Writes (g.S.ItemStore.price k) (g.S.ItemStore.cap k) d e before after (c.args.first + step) c.args.value.now) (sym (c.step.ensures own)) c.in-Ok.ensures.ends in
      ((c.args.first + n.step, c.args.value.now) ∷ [], changes n before c.args.name.now c.args.value.now c.args.first c.requires.at, writes.items);
  others = let d : Device = g.F.Flash.device c.args.flash.now in
      let e : Device = g.F.Flash.device c.write_changed.new.flash in
      let own : Area = g.S.ItemStore.mounted_on c.args.store.now in
      let n : Numbering = g.N.IdLayout.numbering own in
      let k : Geometry = geometry_of d own in
      let before : Items = on g.S.ItemStore.contents d own in
      let after : Items = on g.S.ItemStore.contents e own in
      subst (λ (step : ℕ). AltersOnly before after (c.args.first + step)) (sym (c.step.ensures own))
      (write-alters (g.S.ItemStore.price k) (g.S.ItemStore.cap k) own.sectors d e before after (c.args.first + c.step.result) c.args.value.now c.write_changed.result (λ same. ap (λ (x : Device). on g.S.ItemStore.contents x own) same) c.write_changed.ensures.ends);
  touches = c.in-Ok.ensures.touches;
  at_most = c.write_changed.ensures.at_most;
}

pub returns-in-Err-PowerLost : goal.returns-in-Err-PowerLost
returns-in-Err-PowerLost g c = record {
  store = record {
    area = c.write_changed.ensures.area;
    sound = c.write_changed.ensures.sound;
    up = λ kept. absurd (false≢true (sym kept));
    down = λ lost. c.in-Err-PowerLost.ensures.down (ap (λ (w : WriteFault). write_lost {T = Unit {0}} (Err w)) c.in-Err-PowerLost.field-0-is);
  };
  ends = let d : Device = g.F.Flash.device c.args.flash.now in
      let e : Device = g.F.Flash.device c.write_changed.new.flash in
      let own : Area = g.S.ItemStore.mounted_on c.args.store.now in
      let n : Numbering = g.N.IdLayout.numbering own in
      let k : Geometry = geometry_of d own in
      let before : Items = on g.S.ItemStore.contents d own in
      let after : Items = on g.S.ItemStore.contents e own in
      let pair : is_pair n c.args.first c.args.name.now c.args.value.now ≡ true = at-passes n before c.args.name.now c.args.first c.requires.at c.args.value.now c.requires.value.some (subst (λ (most : ℕ). length c.args.value.now ≤ most) (sym (g.met.N.IdLayout.longest own)) c.requires.value.short) in
      let stops : ends.StopsWriting (g.S.ItemStore.price k) (g.S.ItemStore.cap k) before after (c.args.first + n.step) c.args.value.now =
      subst (λ (w : WriteFault). ends.WriteEnds {T = Unit {0}} (g.S.ItemStore.price k) (g.S.ItemStore.cap k) own.sectors d e before after (c.args.first + n.step) c.args.value.now (Err w)) c.in-Err-PowerLost.field-0-is
      (subst (λ (step : ℕ). ends.WriteEnds {T = Unit {0}} (g.S.ItemStore.price k) (g.S.ItemStore.cap k) own.sectors d e before after (c.args.first + step) c.args.value.now (Err c.in-Err-PowerLost.field-0)) (sym (c.step.ensures own)) c.in-Err-PowerLost.ensures.ends) in
      record {
        ends = (change-few n (g.met.N.IdLayout.is_numbering own) g.N.IdLayout.counted g.N.IdLayout.too_many (g.met.N.IdLayout.count_cost own) g.met.N.IdLayout.stored_few before c.requires.here.clean c.args.name.now c.args.value.now c.args.first (c.args.first + n.step) c.requires.at pair refl, λ is. stops.other (stored-holds n (g.met.N.IdLayout.is_numbering own) g.N.IdLayout.counted g.N.IdLayout.too_many (g.met.N.IdLayout.count_cost own) g.met.N.IdLayout.stored_few before c.requires.here.clean c.args.name.now c.args.value.now c.args.first (c.args.first + n.step) c.requires.at pair refl is));
        cut = λ lost. change-cut n (g.met.N.IdLayout.is_numbering own) g.N.IdLayout.counted g.N.IdLayout.too_many (g.met.N.IdLayout.count_cost own) g.met.N.IdLayout.stored_few before c.requires.here.clean c.args.name.now c.args.value.now c.args.first (c.args.first + n.step) c.requires.at pair refl (g.S.ItemStore.price k) (g.S.ItemStore.cap k) own.sectors d e after stops;
        few = λ lost. change-orphans n (g.met.N.IdLayout.is_numbering own) g.N.IdLayout.counted g.N.IdLayout.too_many (g.met.N.IdLayout.count_cost own) g.met.N.IdLayout.stored_few before c.requires.here.clean c.args.name.now c.args.value.now c.args.first (c.args.first + n.step) c.requires.at pair refl (g.S.ItemStore.price k) (g.S.ItemStore.cap k) own.sectors d e after stops;
        clean = λ kept. absurd {A = HasNoOrphans n after} (false≢true (sym kept));
      };
  items = let d : Device = g.F.Flash.device c.args.flash.now in
      let e : Device = g.F.Flash.device c.write_changed.new.flash in
      let own : Area = g.S.ItemStore.mounted_on c.args.store.now in
      let n : Numbering = g.N.IdLayout.numbering own in
      let k : Geometry = geometry_of d own in
      let before : Items = on g.S.ItemStore.contents d own in
      let after : Items = on g.S.ItemStore.contents e own in
      let stops : ends.StopsWriting (g.S.ItemStore.price k) (g.S.ItemStore.cap k) before after (c.args.first + n.step) c.args.value.now =
      subst (λ (w : WriteFault). ends.WriteEnds {T = Unit {0}} (g.S.ItemStore.price k) (g.S.ItemStore.cap k) own.sectors d e before after (c.args.first + n.step) c.args.value.now (Err w)) c.in-Err-PowerLost.field-0-is
      (subst (λ (step : ℕ). ends.WriteEnds {T = Unit {0}} (g.S.ItemStore.price k) (g.S.ItemStore.cap k) own.sectors d e before after (c.args.first + step) c.args.value.now (Err c.in-Err-PowerLost.field-0)) (sym (c.step.ensures own)) c.in-Err-PowerLost.ensures.ends) in
      ((c.args.first + n.step, c.args.value.now) ∷ [], changes n before c.args.name.now c.args.value.now c.args.first c.requires.at, one-cut before after (c.args.first + n.step) c.args.value.now stops.items);
  others = let d : Device = g.F.Flash.device c.args.flash.now in
      let e : Device = g.F.Flash.device c.write_changed.new.flash in
      let own : Area = g.S.ItemStore.mounted_on c.args.store.now in
      let n : Numbering = g.N.IdLayout.numbering own in
      let k : Geometry = geometry_of d own in
      let before : Items = on g.S.ItemStore.contents d own in
      let after : Items = on g.S.ItemStore.contents e own in
      subst (λ (step : ℕ). AltersOnly before after (c.args.first + step)) (sym (c.step.ensures own))
      (write-alters (g.S.ItemStore.price k) (g.S.ItemStore.cap k) own.sectors d e before after (c.args.first + c.step.result) c.args.value.now c.write_changed.result (λ same. ap (λ (x : Device). on g.S.ItemStore.contents x own) same) c.write_changed.ensures.ends);
  touches = subst (λ (w : WriteFault). Touches (g.S.ItemStore.mounted_on c.args.store.now ∷ []) (g.F.Flash.device c.args.flash.now) (g.F.Flash.device c.write_changed.new.flash) (write_lost {T = Unit {0}} (Err w))) c.in-Err-PowerLost.field-0-is c.in-Err-PowerLost.ensures.touches;
  at_most = c.write_changed.ensures.at_most;
}

pub returns-in-Err-NoSpace : goal.returns-in-Err-NoSpace
returns-in-Err-NoSpace g c = record {
  store = let still : set_lost {T = Unit {0}} (Err c.refused.result) ≡ false = ap (λ (w : SetFault). set_lost {T = Unit {0}} (Err w)) c.refused.ensures in
      record {
        area = c.write_changed.ensures.area;
        sound = c.write_changed.ensures.sound;
        up = λ kept. c.in-Err-NoSpace.ensures.stands (ap (λ (w : WriteFault). write_lost {T = Unit {0}} (Err w)) c.in-Err-NoSpace.field-0-is);
        down = λ lost. absurd (false≢true (sym still ∙ lost));
      };
  ends = let d : Device = g.F.Flash.device c.args.flash.now in
      let e : Device = g.F.Flash.device c.write_changed.new.flash in
      let own : Area = g.S.ItemStore.mounted_on c.args.store.now in
      let n : Numbering = g.N.IdLayout.numbering own in
      let k : Geometry = geometry_of d own in
      let before : Items = on g.S.ItemStore.contents d own in
      let after : Items = on g.S.ItemStore.contents e own in
      let pair : is_pair n c.args.first c.args.name.now c.args.value.now ≡ true = at-passes n before c.args.name.now c.args.first c.requires.at c.args.value.now c.requires.value.some (subst (λ (most : ℕ). length c.args.value.now ≤ most) (sym (g.met.N.IdLayout.longest own)) c.requires.value.short) in
      let finds : ends.FindsNoSpace (g.S.ItemStore.price k) (g.S.ItemStore.cap k) own.sectors before after (c.args.first + n.step) c.args.value.now c.in-Err-NoSpace.field-0-0 c.in-Err-NoSpace.field-0-1 =
      subst (λ (w : WriteFault). ends.WriteEnds {T = Unit {0}} (g.S.ItemStore.price k) (g.S.ItemStore.cap k) own.sectors d e before after (c.args.first + n.step) c.args.value.now (Err w)) c.in-Err-NoSpace.field-0-is
      (subst (λ (step : ℕ). ends.WriteEnds {T = Unit {0}} (g.S.ItemStore.price k) (g.S.ItemStore.cap k) own.sectors d e before after (c.args.first + step) c.args.value.now (Err c.in-Err-NoSpace.field-0)) (sym (c.step.ensures own)) c.in-Err-NoSpace.ensures.ends) in
      let still : set_lost {T = Unit {0}} (Err c.refused.result) ≡ false = ap (λ (w : SetFault). set_lost {T = Unit {0}} (Err w)) c.refused.ensures in
      let other : Area = g.S.ItemStore.mounted_on c.write_changed.new.self in
      record {
        ends = subst (λ (w : SetFault). SetEnds {T = Unit {0}} (room_in g.N.IdLayout.counted g.N.IdLayout.too_many g.S.ItemStore.price g.S.ItemStore.cap k) own.sectors d e (settings_in n before) (settings_in n after) c.args.name.now c.args.value.now (Err w)) (sym c.refused.ensures)
            (change-refused n (g.met.N.IdLayout.is_numbering own) g.N.IdLayout.counted g.N.IdLayout.too_many (g.met.N.IdLayout.count_cost own) g.met.N.IdLayout.stored_few before c.requires.here.clean c.args.name.now c.args.value.now c.args.first (c.args.first + n.step) c.requires.at pair refl (g.S.ItemStore.price k) (g.S.ItemStore.cap k) own.sectors d e after c.in-Err-NoSpace.field-0-0 c.in-Err-NoSpace.field-0-1 finds
            c.price_of-need.result ((room_in g.N.IdLayout.counted g.N.IdLayout.too_many g.S.ItemStore.price g.S.ItemStore.cap (geometry_of e other)).cost (settings_in (g.N.IdLayout.numbering other) (on g.S.ItemStore.contents e other)))
            (c.price_of-need.ensures.value ∙ moved-price g.N.IdLayout.numbering g.N.IdLayout.counted g.N.IdLayout.too_many g.S.ItemStore.contents own other c.write_changed.ensures.area g.S.ItemStore.price d e (length c.args.value.now) c.write_changed.ensures.touches.banks)
            (moved-cost g.N.IdLayout.numbering g.N.IdLayout.counted g.N.IdLayout.too_many g.S.ItemStore.contents own other c.write_changed.ensures.area g.S.ItemStore.price g.S.ItemStore.cap d e (settings_in n before) c.write_changed.ensures.touches.banks (ap (settings_in n) finds.items)));
        cut = λ lost. absurd {A = IsPut (settings_in n before) (settings_in n after) c.args.name.now c.args.value.now} (false≢true (sym still ∙ lost));
        few = λ lost. absurd {A = HasOrphans n after 1} (false≢true (sym still ∙ lost));
        clean = λ kept. subst (HasNoOrphans n) (sym finds.items) c.requires.here.clean;
      };
  items = let d : Device = g.F.Flash.device c.args.flash.now in
      let e : Device = g.F.Flash.device c.write_changed.new.flash in
      let own : Area = g.S.ItemStore.mounted_on c.args.store.now in
      let n : Numbering = g.N.IdLayout.numbering own in
      let k : Geometry = geometry_of d own in
      let before : Items = on g.S.ItemStore.contents d own in
      let after : Items = on g.S.ItemStore.contents e own in
      let finds : ends.FindsNoSpace (g.S.ItemStore.price k) (g.S.ItemStore.cap k) own.sectors before after (c.args.first + n.step) c.args.value.now c.in-Err-NoSpace.field-0-0 c.in-Err-NoSpace.field-0-1 =
      subst (λ (w : WriteFault). ends.WriteEnds {T = Unit {0}} (g.S.ItemStore.price k) (g.S.ItemStore.cap k) own.sectors d e before after (c.args.first + n.step) c.args.value.now (Err w)) c.in-Err-NoSpace.field-0-is
      (subst (λ (step : ℕ). ends.WriteEnds {T = Unit {0}} (g.S.ItemStore.price k) (g.S.ItemStore.cap k) own.sectors d e before after (c.args.first + step) c.args.value.now (Err c.in-Err-NoSpace.field-0)) (sym (c.step.ensures own)) c.in-Err-NoSpace.ensures.ends) in
      subst (λ (w : SetFault). SetLeavesItems {T = Unit {0}} n before after c.args.name.now c.args.value.now (Err w)) (sym c.refused.ensures) (inl finds.items);
  others = let d : Device = g.F.Flash.device c.args.flash.now in
      let e : Device = g.F.Flash.device c.write_changed.new.flash in
      let own : Area = g.S.ItemStore.mounted_on c.args.store.now in
      let n : Numbering = g.N.IdLayout.numbering own in
      let k : Geometry = geometry_of d own in
      let before : Items = on g.S.ItemStore.contents d own in
      let after : Items = on g.S.ItemStore.contents e own in
      subst (λ (step : ℕ). AltersOnly before after (c.args.first + step)) (sym (c.step.ensures own))
      (write-alters (g.S.ItemStore.price k) (g.S.ItemStore.cap k) own.sectors d e before after (c.args.first + c.step.result) c.args.value.now c.write_changed.result (λ same. ap (λ (x : Device). on g.S.ItemStore.contents x own) same) c.write_changed.ensures.ends);
  touches = let still : set_lost {T = Unit {0}} (Err c.refused.result) ≡ false = ap (λ (w : SetFault). set_lost {T = Unit {0}} (Err w)) c.refused.ensures in
      subst (λ (lost : Bool). Touches (g.S.ItemStore.mounted_on c.args.store.now ∷ []) (g.F.Flash.device c.args.flash.now) (g.F.Flash.device c.write_changed.new.flash) lost) (sym still) (subst (λ (w : WriteFault). Touches (g.S.ItemStore.mounted_on c.args.store.now ∷ []) (g.F.Flash.device c.args.flash.now) (g.F.Flash.device c.write_changed.new.flash) (write_lost {T = Unit {0}} (Err w))) c.in-Err-NoSpace.field-0-is c.in-Err-NoSpace.ensures.touches);
  at_most = c.write_changed.ensures.at_most;
}
