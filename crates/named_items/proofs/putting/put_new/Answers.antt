use Rattle.std.proofs.Common.{◌≡◌, ℕ, ◌+◌, ◌<◌, ◌≤◌, ◌∷◌, [], length, true, false, Ok, Err, refl, sym, ap, subst, ◌∙◌, arith, Bool}
use Rattle.std.proofs.lemmas.Bool.{false≢true}
use Rattle.flash_sim.specs.Device.{Device}
use Rattle.flash_map.specs.declared.area.Area.{Area}
use Rattle.flash_map.specs.declared.area.Geometry.{Geometry}
use Rattle.flash_map.specs.declared.faults.WriteFault.{WriteFault}
use Rattle.flash_map.specs.declared.faults.WriteFault.TheVariants.{TooLong}
use Rattle.flash_map.specs.Area.{geometry_of, sectors_of}
use Rattle.flash_map.specs.Faults.{write_lost}
use Rattle.item_laws.specs.Items.{Items}
use Rattle.backend_api.specs.declared.backend.SetFault.{SetFault}
use Rattle.backend_api.specs.Ends.{SetEnds, set_lost}
use Rattle.flash_map.specs.On.{on}
use Rattle.named_items.specs.Leaving.{pair_at_id, MakesPuts}
use Rattle.named_items.specs.Numbering.{Numbering}
use Rattle.named_items.specs.Pairs.{is_pair, settings_in, HasNoOrphans}
use Rattle.named_items.specs.Ends.{AltersTwo, IsFree, PutsPair}
use Rattle.named_items.specs.Putting.{room_in, IsPut}
use Rattle.named_items.proofs.ChangeSteps.{moved-clean, moved-lawful, moved-cost}
use Rattle.named_items.proofs.LeavingSteps.{pair-cut}
use Rattle.named_items.proofs.LookupSteps.{all-pass, inside-known}
use Rattle.named_items.proofs.NewSteps.{not-stored, new-done, new-clean, new-cut, new-orphans, new-refused}
use Rattle.named_items.proofs.OtherSteps.{puts-alters}
use Rattle.named_items.proofs.PutSteps.{not-over}
use Rattle.named_items.proofs.SpendSteps.{spends-some}
use Rattle.flash_map.specs.Touches.{Touches}
use Rattle.named_items.specs.Orphans.{HasOrphans}
use Rattle.named_items.proofs.putting.put_new.Goals as goal

pub overflow_add-first : goal.overflow_add-first
overflow_add-first g c =
    let d : Device = g.F.Flash.device c.args.flash.now in
    let own : Area = g.S.ItemStore.mounted_on c.args.store.now in
    let n : Numbering = g.N.IdLayout.numbering own in
    let k : Geometry = geometry_of d own in
    let before : Items = on g.S.ItemStore.contents d own in
    let low : c.args.first + n.step < g.N.IdLayout.top = inside-known n before c.args.first c.requires.candidate.inside g.N.IdLayout.top (g.met.N.IdLayout.within own) in
    let same : n.step ≡ c.step.result = c.step.ensures own in
    omega (arith, low, same, g.met.N.IdLayout.top_small)

pub put_pair-requires : goal.put_pair-requires
put_pair-requires g c = record {
  first = let d : Device = g.F.Flash.device c.args.flash.now in
      let own : Area = g.S.ItemStore.mounted_on c.args.store.now in
      let n : Numbering = g.N.IdLayout.numbering own in
      let k : Geometry = geometry_of d own in
      let before : Items = on g.S.ItemStore.contents d own in
      let low : c.args.first + n.step < g.N.IdLayout.top = inside-known n before c.args.first c.requires.candidate.inside g.N.IdLayout.top (g.met.N.IdLayout.within own) in
      c.requires.ids.all c.args.first (omega (arith, low));
  second = let d : Device = g.F.Flash.device c.args.flash.now in
      let own : Area = g.S.ItemStore.mounted_on c.args.store.now in
      let n : Numbering = g.N.IdLayout.numbering own in
      let k : Geometry = geometry_of d own in
      let before : Items = on g.S.ItemStore.contents d own in
      let low : c.args.first + n.step < g.N.IdLayout.top = inside-known n before c.args.first c.requires.candidate.inside g.N.IdLayout.top (g.met.N.IdLayout.within own) in
      subst (λ (step : ℕ). g.S.ItemStore.is_id (c.args.first + step)) (c.step.ensures own) (c.requires.ids.all (c.args.first + n.step) low);
  apart = let own : Area = g.S.ItemStore.mounted_on c.args.store.now in
      let n : Numbering = g.N.IdLayout.numbering own in
      let above : 0 < n.step = (g.met.N.IdLayout.is_numbering own).apart in
      let same : n.step ≡ c.step.result = c.step.ensures own in
      λ (e : c.args.first ≡ c.args.first + c.step.result). absurd (omega (arith, above, same, e));
  free = let own : Area = g.S.ItemStore.mounted_on c.args.store.now in
      let before : Items = on g.S.ItemStore.contents (g.F.Flash.device c.args.flash.now) own in
      subst (λ (step : ℕ). IsFree before c.args.first (c.args.first + step)) (c.step.ensures own) c.requires.candidate.free;
  lawful = c.requires.here.lawful;
  stands = c.requires.here.up;
  some = c.requires.value.some;
}

pub refused-requires : goal.refused-requires
refused-requires g c = record {
  here = let d : Device = g.F.Flash.device c.args.flash.now in
      let e : Device = g.F.Flash.device c.put_pair.new.flash in
      let own : Area = g.S.ItemStore.mounted_on c.args.store.now in
      let n : Numbering = g.N.IdLayout.numbering own in
      let k : Geometry = geometry_of d own in
      let before : Items = on g.S.ItemStore.contents d own in
      let after : Items = on g.S.ItemStore.contents e own in
      let puts = subst (λ (w : WriteFault). PutsPair {T = Unit {0}} (g.S.ItemStore.price k) (g.S.ItemStore.cap k) own.sectors before after c.args.first (c.args.first + n.step) c.args.name.now c.args.value.now (Err w)) c.in-Err-NoSpace.field-0-is
      (subst (λ (step : ℕ). PutsPair {T = Unit {0}} (g.S.ItemStore.price k) (g.S.ItemStore.cap k) own.sectors before after c.args.first (c.args.first + step) c.args.name.now c.args.value.now (Err c.in-Err-NoSpace.field-0)) (sym (c.step.ensures own)) c.in-Err-NoSpace.ensures.ends) in
      record {
        lawful = moved-lawful own (g.S.ItemStore.mounted_on c.put_pair.new.store) c.put_pair.ensures.store.area d e c.put_pair.ensures.touches.banks c.requires.here.lawful;
        up = c.in-Err-NoSpace.ensures.store.up (ap (λ (w : WriteFault). write_lost {T = Unit {0}} (Err w)) c.in-Err-NoSpace.field-0-is);
        clean = moved-clean g.N.IdLayout.numbering g.N.IdLayout.counted g.N.IdLayout.too_many g.S.ItemStore.contents own (g.S.ItemStore.mounted_on c.put_pair.new.store) c.put_pair.ensures.store.area e (subst (HasNoOrphans n) (sym puts.0) c.requires.here.clean);
      };
  ids = c.requires.ids;
}

pub returns-in-Ok : goal.returns-in-Ok
returns-in-Ok g c = record {
  store = record {
    area = c.put_pair.ensures.store.area;
    sound = c.put_pair.ensures.store.sound;
    up = λ kept. c.in-Ok.ensures.store.up kept;
    down = λ lost. absurd (false≢true lost);
  };
  ends = let d : Device = g.F.Flash.device c.args.flash.now in
      let e : Device = g.F.Flash.device c.put_pair.new.flash in
      let own : Area = g.S.ItemStore.mounted_on c.args.store.now in
      let n : Numbering = g.N.IdLayout.numbering own in
      let k : Geometry = geometry_of d own in
      let before : Items = on g.S.ItemStore.contents d own in
      let after : Items = on g.S.ItemStore.contents e own in
      let pair : is_pair n c.args.first c.args.name.now c.args.value.now ≡ true = all-pass n c.args.first c.args.name.now c.args.value.now c.price_of_pair-need.ensures.name c.requires.candidate.candidate c.requires.value.some (subst (λ (most : ℕ). length c.args.value.now ≤ most) (sym (g.met.N.IdLayout.longest own)) c.requires.value.short) in
      let puts = subst (λ (step : ℕ). PutsPair {T = Unit {0}} (g.S.ItemStore.price k) (g.S.ItemStore.cap k) own.sectors before after c.args.first (c.args.first + step) c.args.name.now c.args.value.now (Ok tt)) (sym (c.step.ensures own)) c.in-Ok.ensures.ends in
      record {
        ends = new-done n (g.met.N.IdLayout.is_numbering own) g.N.IdLayout.counted g.N.IdLayout.too_many (g.met.N.IdLayout.count_cost own) before c.requires.here.clean c.args.name.now c.args.value.now c.requires.candidate.absent c.args.first (c.args.first + n.step) c.requires.candidate.inside c.requires.candidate.free pair c.requires.candidate.few refl (g.S.ItemStore.price k) (g.S.ItemStore.cap k) d e after puts
            (λ changed. spends-some g.S.ItemStore.contents d e own (own ∷ []) (write_lost c.put_pair.result) c.put_pair.ensures.touches (λ same. changed (ap (settings_in n) same)));
        cut = λ lost. absurd {A = IsPut (settings_in n before) (settings_in n after) c.args.name.now c.args.value.now} (false≢true lost);
        few = λ lost. absurd {A = HasOrphans n after 1} (false≢true lost);
        clean = λ kept. new-clean n (g.met.N.IdLayout.is_numbering own) g.N.IdLayout.counted g.N.IdLayout.too_many (g.met.N.IdLayout.count_cost own) before c.requires.here.clean c.args.name.now c.args.value.now c.requires.candidate.absent c.args.first (c.args.first + n.step) c.requires.candidate.inside c.requires.candidate.free pair c.requires.candidate.few refl after puts;
      };
  items = let d : Device = g.F.Flash.device c.args.flash.now in
      let e : Device = g.F.Flash.device c.put_pair.new.flash in
      let own : Area = g.S.ItemStore.mounted_on c.args.store.now in
      let n : Numbering = g.N.IdLayout.numbering own in
      let k : Geometry = geometry_of d own in
      let before : Items = on g.S.ItemStore.contents d own in
      let after : Items = on g.S.ItemStore.contents e own in
      let puts = subst (λ (step : ℕ). PutsPair {T = Unit {0}} (g.S.ItemStore.price k) (g.S.ItemStore.cap k) own.sectors before after c.args.first (c.args.first + step) c.args.name.now c.args.value.now (Ok tt)) (sym (c.step.ensures own)) c.in-Ok.ensures.ends in
      puts;
  others = let d : Device = g.F.Flash.device c.args.flash.now in
      let e : Device = g.F.Flash.device c.put_pair.new.flash in
      let own : Area = g.S.ItemStore.mounted_on c.args.store.now in
      let n : Numbering = g.N.IdLayout.numbering own in
      let k : Geometry = geometry_of d own in
      let before : Items = on g.S.ItemStore.contents d own in
      let after : Items = on g.S.ItemStore.contents e own in
      subst (λ (step : ℕ). AltersTwo before after c.args.first (c.args.first + step)) (sym (c.step.ensures own))
      (puts-alters (g.S.ItemStore.price k) (g.S.ItemStore.cap k) own.sectors before after c.args.first (c.args.first + c.step.result) c.args.name.now c.args.value.now c.put_pair.result c.put_pair.ensures.ends);
  touches = c.in-Ok.ensures.touches;
  at_most = c.put_pair.ensures.at_most;
}

pub returns-in-Err-PowerLost : goal.returns-in-Err-PowerLost
returns-in-Err-PowerLost g c = record {
  store = record {
    area = c.put_pair.ensures.store.area;
    sound = c.put_pair.ensures.store.sound;
    up = λ kept. absurd (false≢true (sym kept));
    down = λ lost. c.in-Err-PowerLost.ensures.store.down (ap (λ (w : WriteFault). write_lost {T = Unit {0}} (Err w)) c.in-Err-PowerLost.field-0-is);
  };
  ends = let d : Device = g.F.Flash.device c.args.flash.now in
      let e : Device = g.F.Flash.device c.put_pair.new.flash in
      let own : Area = g.S.ItemStore.mounted_on c.args.store.now in
      let n : Numbering = g.N.IdLayout.numbering own in
      let k : Geometry = geometry_of d own in
      let before : Items = on g.S.ItemStore.contents d own in
      let after : Items = on g.S.ItemStore.contents e own in
      let pair : is_pair n c.args.first c.args.name.now c.args.value.now ≡ true = all-pass n c.args.first c.args.name.now c.args.value.now c.price_of_pair-need.ensures.name c.requires.candidate.candidate c.requires.value.some (subst (λ (most : ℕ). length c.args.value.now ≤ most) (sym (g.met.N.IdLayout.longest own)) c.requires.value.short) in
      let puts = subst (λ (w : WriteFault). PutsPair {T = Unit {0}} (g.S.ItemStore.price k) (g.S.ItemStore.cap k) own.sectors before after c.args.first (c.args.first + n.step) c.args.name.now c.args.value.now (Err w)) c.in-Err-PowerLost.field-0-is
      (subst (λ (step : ℕ). PutsPair {T = Unit {0}} (g.S.ItemStore.price k) (g.S.ItemStore.cap k) own.sectors before after c.args.first (c.args.first + step) c.args.name.now c.args.value.now (Err c.in-Err-PowerLost.field-0)) (sym (c.step.ensures own)) c.in-Err-PowerLost.ensures.ends) in
      record {
        ends = (c.requires.candidate.few, not-stored n (g.met.N.IdLayout.is_numbering own) g.N.IdLayout.counted g.N.IdLayout.too_many (g.met.N.IdLayout.count_cost own) before c.requires.here.clean c.args.name.now c.args.value.now c.requires.candidate.absent);
        cut = λ lost. new-cut n (g.met.N.IdLayout.is_numbering own) g.N.IdLayout.counted g.N.IdLayout.too_many (g.met.N.IdLayout.count_cost own) before c.requires.here.clean c.args.name.now c.args.value.now c.requires.candidate.absent c.args.first (c.args.first + n.step) c.requires.candidate.inside c.requires.candidate.free pair c.requires.candidate.few refl after puts;
        few = λ lost. new-orphans n (g.met.N.IdLayout.is_numbering own) g.N.IdLayout.counted g.N.IdLayout.too_many (g.met.N.IdLayout.count_cost own) before c.requires.here.clean c.args.name.now c.args.value.now c.requires.candidate.absent c.args.first (c.args.first + n.step) c.requires.candidate.inside c.requires.candidate.free pair c.requires.candidate.few refl after puts;
        clean = λ kept. absurd {A = HasNoOrphans n after} (false≢true (sym kept));
      };
  items = let d : Device = g.F.Flash.device c.args.flash.now in
      let e : Device = g.F.Flash.device c.put_pair.new.flash in
      let own : Area = g.S.ItemStore.mounted_on c.args.store.now in
      let n : Numbering = g.N.IdLayout.numbering own in
      let k : Geometry = geometry_of d own in
      let before : Items = on g.S.ItemStore.contents d own in
      let after : Items = on g.S.ItemStore.contents e own in
      let puts = subst (λ (w : WriteFault). PutsPair {T = Unit {0}} (g.S.ItemStore.price k) (g.S.ItemStore.cap k) own.sectors before after c.args.first (c.args.first + n.step) c.args.name.now c.args.value.now (Err w)) c.in-Err-PowerLost.field-0-is
      (subst (λ (step : ℕ). PutsPair {T = Unit {0}} (g.S.ItemStore.price k) (g.S.ItemStore.cap k) own.sectors before after c.args.first (c.args.first + step) c.args.name.now c.args.value.now (Err c.in-Err-PowerLost.field-0)) (sym (c.step.ensures own)) c.in-Err-PowerLost.ensures.ends) in
      pair-cut n before c.args.name.now c.args.value.now after c.args.first (c.args.first + n.step) refl puts;
  others = let d : Device = g.F.Flash.device c.args.flash.now in
      let e : Device = g.F.Flash.device c.put_pair.new.flash in
      let own : Area = g.S.ItemStore.mounted_on c.args.store.now in
      let n : Numbering = g.N.IdLayout.numbering own in
      let k : Geometry = geometry_of d own in
      let before : Items = on g.S.ItemStore.contents d own in
      let after : Items = on g.S.ItemStore.contents e own in
      subst (λ (step : ℕ). AltersTwo before after c.args.first (c.args.first + step)) (sym (c.step.ensures own))
      (puts-alters (g.S.ItemStore.price k) (g.S.ItemStore.cap k) own.sectors before after c.args.first (c.args.first + c.step.result) c.args.name.now c.args.value.now c.put_pair.result c.put_pair.ensures.ends);
  touches = subst (λ (w : WriteFault). Touches (g.S.ItemStore.mounted_on c.args.store.now ∷ []) (g.F.Flash.device c.args.flash.now) (g.F.Flash.device c.put_pair.new.flash) (write_lost {T = Unit {0}} (Err w))) c.in-Err-PowerLost.field-0-is c.in-Err-PowerLost.ensures.touches;
  at_most = c.put_pair.ensures.at_most;
}

pub returns-in-Err-NoSpace : goal.returns-in-Err-NoSpace
returns-in-Err-NoSpace g c = record {
  store = let still : set_lost {T = Unit {0}} (Err c.refused.result) ≡ false = ap (λ (w : SetFault). set_lost {T = Unit {0}} (Err w)) c.refused.ensures in
      record {
        area = c.put_pair.ensures.store.area;
        sound = c.put_pair.ensures.store.sound;
        up = λ kept. c.in-Err-NoSpace.ensures.store.up (ap (λ (w : WriteFault). write_lost {T = Unit {0}} (Err w)) c.in-Err-NoSpace.field-0-is);
        down = λ lost. absurd (false≢true (sym still ∙ lost));
      };
  ends = let d : Device = g.F.Flash.device c.args.flash.now in
      let e : Device = g.F.Flash.device c.put_pair.new.flash in
      let own : Area = g.S.ItemStore.mounted_on c.args.store.now in
      let n : Numbering = g.N.IdLayout.numbering own in
      let k : Geometry = geometry_of d own in
      let before : Items = on g.S.ItemStore.contents d own in
      let after : Items = on g.S.ItemStore.contents e own in
      let pair : is_pair n c.args.first c.args.name.now c.args.value.now ≡ true = all-pass n c.args.first c.args.name.now c.args.value.now c.price_of_pair-need.ensures.name c.requires.candidate.candidate c.requires.value.some (subst (λ (most : ℕ). length c.args.value.now ≤ most) (sym (g.met.N.IdLayout.longest own)) c.requires.value.short) in
      let puts = subst (λ (w : WriteFault). PutsPair {T = Unit {0}} (g.S.ItemStore.price k) (g.S.ItemStore.cap k) own.sectors before after c.args.first (c.args.first + n.step) c.args.name.now c.args.value.now (Err w)) c.in-Err-NoSpace.field-0-is
      (subst (λ (step : ℕ). PutsPair {T = Unit {0}} (g.S.ItemStore.price k) (g.S.ItemStore.cap k) own.sectors before after c.args.first (c.args.first + step) c.args.name.now c.args.value.now (Err c.in-Err-NoSpace.field-0)) (sym (c.step.ensures own)) c.in-Err-NoSpace.ensures.ends) in
      let still : set_lost {T = Unit {0}} (Err c.refused.result) ≡ false = ap (λ (w : SetFault). set_lost {T = Unit {0}} (Err w)) c.refused.ensures in
      let other : Area = g.S.ItemStore.mounted_on c.put_pair.new.store in
      record {
        ends = subst (λ (w : SetFault). SetEnds {T = Unit {0}} (room_in g.N.IdLayout.counted g.N.IdLayout.too_many g.S.ItemStore.price g.S.ItemStore.cap k) own.sectors d e (settings_in n before) (settings_in n after) c.args.name.now c.args.value.now (Err w)) (sym c.refused.ensures)
            (new-refused n (g.met.N.IdLayout.is_numbering own) g.N.IdLayout.counted g.N.IdLayout.too_many (g.met.N.IdLayout.count_cost own) before c.requires.here.clean c.args.name.now c.args.value.now c.requires.candidate.absent c.args.first (c.args.first + n.step) c.requires.candidate.inside c.requires.candidate.free pair c.requires.candidate.few refl (g.S.ItemStore.price k) (g.S.ItemStore.cap k) own.sectors after puts.0 puts.1
            c.price_of_pair-need.result ((room_in g.N.IdLayout.counted g.N.IdLayout.too_many g.S.ItemStore.price g.S.ItemStore.cap (geometry_of e other)).cost (settings_in (g.N.IdLayout.numbering other) (on g.S.ItemStore.contents e other))) c.price_of_pair-need.ensures.value
            (moved-cost g.N.IdLayout.numbering g.N.IdLayout.counted g.N.IdLayout.too_many g.S.ItemStore.contents own other c.put_pair.ensures.store.area g.S.ItemStore.price g.S.ItemStore.cap d e (settings_in n before) c.put_pair.ensures.touches.banks (ap (settings_in n) puts.0)));
        cut = λ lost. absurd {A = IsPut (settings_in n before) (settings_in n after) c.args.name.now c.args.value.now} (false≢true (sym still ∙ lost));
        few = λ lost. absurd {A = HasOrphans n after 1} (false≢true (sym still ∙ lost));
        clean = λ kept. subst (HasNoOrphans n) (sym puts.0) c.requires.here.clean;
      };
  items = let d : Device = g.F.Flash.device c.args.flash.now in
      let e : Device = g.F.Flash.device c.put_pair.new.flash in
      let own : Area = g.S.ItemStore.mounted_on c.args.store.now in
      let n : Numbering = g.N.IdLayout.numbering own in
      let k : Geometry = geometry_of d own in
      let before : Items = on g.S.ItemStore.contents d own in
      let after : Items = on g.S.ItemStore.contents e own in
      let puts = subst (λ (w : WriteFault). PutsPair {T = Unit {0}} (g.S.ItemStore.price k) (g.S.ItemStore.cap k) own.sectors before after c.args.first (c.args.first + n.step) c.args.name.now c.args.value.now (Err w)) c.in-Err-NoSpace.field-0-is
      (subst (λ (step : ℕ). PutsPair {T = Unit {0}} (g.S.ItemStore.price k) (g.S.ItemStore.cap k) own.sectors before after c.args.first (c.args.first + step) c.args.name.now c.args.value.now (Err c.in-Err-NoSpace.field-0)) (sym (c.step.ensures own)) c.in-Err-NoSpace.ensures.ends) in
      subst (λ (w : SetFault). MakesPuts {T = Unit {0}} before after (pair_at_id n c.args.first c.args.name.now c.args.value.now) (Err w)) (sym c.refused.ensures) puts.0;
  others = let d : Device = g.F.Flash.device c.args.flash.now in
      let e : Device = g.F.Flash.device c.put_pair.new.flash in
      let own : Area = g.S.ItemStore.mounted_on c.args.store.now in
      let n : Numbering = g.N.IdLayout.numbering own in
      let k : Geometry = geometry_of d own in
      let before : Items = on g.S.ItemStore.contents d own in
      let after : Items = on g.S.ItemStore.contents e own in
      subst (λ (step : ℕ). AltersTwo before after c.args.first (c.args.first + step)) (sym (c.step.ensures own))
      (puts-alters (g.S.ItemStore.price k) (g.S.ItemStore.cap k) own.sectors before after c.args.first (c.args.first + c.step.result) c.args.name.now c.args.value.now c.put_pair.result c.put_pair.ensures.ends);
  touches = let still : set_lost {T = Unit {0}} (Err c.refused.result) ≡ false = ap (λ (w : SetFault). set_lost {T = Unit {0}} (Err w)) c.refused.ensures in
      subst (λ (lost : Bool). Touches (g.S.ItemStore.mounted_on c.args.store.now ∷ []) (g.F.Flash.device c.args.flash.now) (g.F.Flash.device c.put_pair.new.flash) lost) (sym still) (subst (λ (w : WriteFault). Touches (g.S.ItemStore.mounted_on c.args.store.now ∷ []) (g.F.Flash.device c.args.flash.now) (g.F.Flash.device c.put_pair.new.flash) (write_lost {T = Unit {0}} (Err w))) c.in-Err-NoSpace.field-0-is c.in-Err-NoSpace.ensures.touches);
  at_most = c.put_pair.ensures.at_most;
}

pub price_of_pair-need-requires : goal.price_of_pair-need-requires
price_of_pair-need-requires g c = record { lawful = c.requires.here.lawful; stands = c.requires.here.up; short = c.requires.value.short }

pub unreachable-requires : goal.unreachable-requires
unreachable-requires g c =
    let d : Device = g.F.Flash.device c.args.flash.now in
    let e : Device = g.F.Flash.device c.put_pair.new.flash in
    let own : Area = g.S.ItemStore.mounted_on c.args.store.now in
    let k : Geometry = geometry_of d own in
    let puts : PutsPair {T = Unit {0}} (g.S.ItemStore.price k) (g.S.ItemStore.cap k) own.sectors (on g.S.ItemStore.contents d own) (on g.S.ItemStore.contents e own) c.args.first (c.args.first + c.step.result) c.args.name.now c.args.value.now (Err TooLong) =
    subst (λ (w : WriteFault). PutsPair {T = Unit {0}} (g.S.ItemStore.price k) (g.S.ItemStore.cap k) own.sectors (on g.S.ItemStore.contents d own) (on g.S.ItemStore.contents e own) c.args.first (c.args.first + c.step.result) c.args.name.now c.args.value.now (Err w)) c.in-Err-TooLong.field-0-is c.in-Err-TooLong.ensures.ends in
    let serves = g.met.S.ItemStore.stands_serves c.args.store.now k (sectors_of d own) c.requires.here.up in
    not-over (g.S.ItemStore.cap k) (g.S.ItemStore.price k (length c.args.value.now)) (g.met.S.ItemStore.fits d own (length c.args.value.now) c.requires.here.lawful serves c.requires.value.short) puts.1
