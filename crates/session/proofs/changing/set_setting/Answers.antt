-- each end of the call makes its answer
use Rattle.session.proofs.OwesLemmas.{dark-boot}
use Rattle.std.proofs.Common.{◌≡◌, ◌≤◌, length, ℕ, ◌-◌, List, ◌∷◌, [], Result, Ok, Err, ap, subst, sym, ◌∙◌, None}
use Rattle.flash_sim.specs.declared.flash.Bank.{Bank}
use Rattle.flash_map.specs.Lawful.{IsLawfulFor}
use Rattle.settings_core.specs.declared.writing.SaveFault.{SaveFault}
use Rattle.settings_core.specs.declared.writing.SaveFault.TheVariants.{NoSpace, TooManyNames, PowerLost}
use Rattle.settings_core.specs.Carrying.{command_of, save_lost}
use Rattle.script_lines.specs.declared.line.Line.TheVariants.{Set}
use Rattle.script_lines.specs.declared.answer.Answer.TheVariants.{Done, NoSpace as Full, TooMany, Lost}
use Rattle.session_table.specs.Bench.{geometry_in}
use Rattle.session.proofs.LineLemmas.{CarriedAt, ended, reported_at, set_by_ok, set_by_many, set_by_full, set_by_lost}
use Rattle.flash_map.specs.declared.area.Area.{Area}
use Rattle.flash_map.specs.On.{on}
use Rattle.session.specs.OnMap.{active_area}
use Rattle.flash_map.specs.Area.{geometry_of, value_limit}
use Rattle.session.proofs.ActiveArea.{active-lawful, active-served}
use Rattle.session.proofs.ActiveAreas.{active_beside}
use Rattle.session.proofs.ReadyLemmas.{stays_off, stays_up}
use Rattle.session.proofs.changing.set_setting.Goals as goal

pub spells_another-requires : goal.spells_another-requires
spells_another-requires g c = record {
  lawful = subst (λ (banks : List Bank). IsLawfulFor banks c.args.area.now) (sym c.save_one-end.ensures.touches.banks)
      (subst (λ (a : Area). IsLawfulFor (g.B.Flash.device c.args.bench.now).banks a) (sym c.requires.here.active) (active-lawful g.K.Backend.serves c.args.map.now (g.B.Flash.device c.args.bench.now) c.requires.map));
  serves = subst (λ (banks : List Bank). g.K.Backend.serves c.args.area.now (geometry_in banks c.args.area.now)) (sym c.save_one-end.ensures.touches.banks)
      (subst (λ (a : Area). g.K.Backend.serves a (geometry_of (g.B.Flash.device c.args.bench.now) a)) (sym c.requires.here.active) (active-served g.K.Backend.serves c.args.map.now (g.B.Flash.device c.args.bench.now) c.requires.map));
}

pub returns-in-Ok : goal.returns-in-Ok
returns-in-Ok g c = record {
  done =
      let old = g.B.Flash.device c.args.bench.now in
      let new = g.B.Flash.device c.save_one-end.new.flash in
      let up = g.K.Backend.runs c.args.settings.now.backend in
      let bytes = c.as_slice.result.now in
      let here = ended g.K.Backend.contents g.K.Backend.room g.K.Backend.chance g.K.Backend.tears old new (command_of c.args.name.now bytes ∷ []) up (g.K.Backend.mounted_on c.args.settings.now.backend) (active_area c.args.map.now old) c.save_one-end.result (Ok c.in-Ok.field-0) (c.requires.here.mounted ∙ c.requires.here.active) c.in-Ok.is
      (record { touches = c.save_one-end.ensures.touches; at_most = c.save_one-end.ensures.at_most; count = c.save_one-end.ensures.ends.0; ends = c.save_one-end.ensures.ends.1 }) in
      let stays = active_beside g.K.Backend.serves c.args.map.now old new c.requires.map (g.met.B.Flash.is_lawful c.args.bench.now) (g.met.B.Flash.is_lawful c.save_one-end.new.flash) here.touches.banks here.touches.outside in
      λ registry pool. subst (λ (value : List ℕ). CarriedAt g.K.Backend.contents g.K.Backend.room g.K.Backend.chance g.K.Backend.tears registry pool c.args.map.now (Set c.args.name.now value) (Done (c.spent.result - c.spent-before.result)) old new) c.as_slice.ensures
      (set_by_ok g.K.Backend.contents g.K.Backend.room g.K.Backend.chance g.K.Backend.tears registry pool c.args.map.now c.args.name.now bytes old new c.requires.here.powered stays up c.spent-before.result c.spent.result c.spent-before.ensures c.spent.ensures c.in-Ok.field-0 here);
  left = dark-boot g.K.Backend.owes g.K.Backend.boot_units (g.B.Flash.device c.args.bench.now) (g.B.Flash.device c.save_one-end.new.flash) (g.K.Backend.mounted_on c.args.settings.now.backend) (g.K.Backend.mounted_on c.save_one-end.new.self.backend) c.args.area.now _ c.requires.here.powered c.save_one-end.ensures.touches c.save_one-end.ensures.area c.requires.here.mounted c.save_one-end.ensures.owes;
  sound = subst (λ (a : Area). on g.K.Backend.damage (g.B.Flash.device c.save_one-end.new.flash) a ≡ None) c.requires.here.mounted (c.save_one-end.ensures.sound c.requires.here.up);
  stays = stays_up g.K.Backend.mounted_on g.K.Backend.stands g.K.Backend.runs c.args.map.now (g.B.Flash.device c.args.bench.now) (g.B.Flash.device c.save_one-end.new.flash) c.args.area.now c.args.settings.now.backend c.save_one-end.new.self.backend c.requires.here c.save_one-end.ensures.area c.save_one-end.ensures.stands (c.save_one-end.ensures.up (ap (λ (r : Result (Unit {0}) SaveFault). save_lost r) c.in-Ok.is));
}

pub returns-in-Err-NoSpace : goal.returns-in-Err-NoSpace
returns-in-Err-NoSpace g c =
    let which : c.in-Err-NoSpace.field-0 ≡ NoSpace c.in-Err-NoSpace.need c.in-Err-NoSpace.live = rw c.in-Err-NoSpace.is at c.in-Err-NoSpace.field-0-is in
    record {
      done =
          let old = g.B.Flash.device c.args.bench.now in
          let new = g.B.Flash.device c.save_one-end.new.flash in
          let up = g.K.Backend.runs c.args.settings.now.backend in
          let bytes = c.as_slice.result.now in
          let end : c.save_one-end.result ≡ Err (NoSpace c.in-Err-NoSpace.need c.in-Err-NoSpace.live) = c.in-Err-NoSpace.is ∙ ap (λ (fault : SaveFault). Err fault) which in
          let here = ended g.K.Backend.contents g.K.Backend.room g.K.Backend.chance g.K.Backend.tears old new (command_of c.args.name.now bytes ∷ []) up (g.K.Backend.mounted_on c.args.settings.now.backend) (active_area c.args.map.now old) c.save_one-end.result (Err (NoSpace c.in-Err-NoSpace.need c.in-Err-NoSpace.live)) (c.requires.here.mounted ∙ c.requires.here.active) end
          (record { touches = c.save_one-end.ensures.touches; at_most = c.save_one-end.ensures.at_most; count = c.save_one-end.ensures.ends.0; ends = c.save_one-end.ensures.ends.1 }) in
          let stays = active_beside g.K.Backend.serves c.args.map.now old new c.requires.map (g.met.B.Flash.is_lawful c.args.bench.now) (g.met.B.Flash.is_lawful c.save_one-end.new.flash) here.touches.banks here.touches.outside in
          λ registry pool. subst (λ (value : List ℕ). CarriedAt g.K.Backend.contents g.K.Backend.room g.K.Backend.chance g.K.Backend.tears registry pool c.args.map.now (Set c.args.name.now value) (Full (c.spent.result - c.spent-before.result) c.in-Err-NoSpace.need c.in-Err-NoSpace.live) old new) c.as_slice.ensures
          (set_by_full g.K.Backend.contents g.K.Backend.room g.K.Backend.chance g.K.Backend.tears registry pool c.args.map.now c.args.name.now bytes old new c.requires.here.powered stays up c.spent-before.result c.spent.result c.spent-before.ensures c.spent.ensures c.in-Err-NoSpace.need c.in-Err-NoSpace.live here);
      left = dark-boot g.K.Backend.owes g.K.Backend.boot_units (g.B.Flash.device c.args.bench.now) (g.B.Flash.device c.save_one-end.new.flash) (g.K.Backend.mounted_on c.args.settings.now.backend) (g.K.Backend.mounted_on c.save_one-end.new.self.backend) c.args.area.now _ c.requires.here.powered c.save_one-end.ensures.touches c.save_one-end.ensures.area c.requires.here.mounted c.save_one-end.ensures.owes;
      sound = subst (λ (a : Area). on g.K.Backend.damage (g.B.Flash.device c.save_one-end.new.flash) a ≡ None) c.requires.here.mounted (c.save_one-end.ensures.sound c.requires.here.up);
      stays = stays_up g.K.Backend.mounted_on g.K.Backend.stands g.K.Backend.runs c.args.map.now (g.B.Flash.device c.args.bench.now) (g.B.Flash.device c.save_one-end.new.flash) c.args.area.now c.args.settings.now.backend c.save_one-end.new.self.backend c.requires.here c.save_one-end.ensures.area c.save_one-end.ensures.stands (c.save_one-end.ensures.up (ap (λ (r : Result (Unit {0}) SaveFault). save_lost r) (c.in-Err-NoSpace.is ∙ ap (λ (fault : SaveFault). Err fault) which)));
    }

pub returns-in-Err-TooManyNames : goal.returns-in-Err-TooManyNames
returns-in-Err-TooManyNames g c =
    let which : c.in-Err-TooManyNames.field-0 ≡ TooManyNames = rw c.in-Err-TooManyNames.is at c.in-Err-TooManyNames.field-0-is in
    record {
      done =
          let old = g.B.Flash.device c.args.bench.now in
          let new = g.B.Flash.device c.save_one-end.new.flash in
          let up = g.K.Backend.runs c.args.settings.now.backend in
          let bytes = c.as_slice.result.now in
          let end : c.save_one-end.result ≡ Err (TooManyNames) = c.in-Err-TooManyNames.is ∙ ap (λ (fault : SaveFault). Err fault) which in
          let here = ended g.K.Backend.contents g.K.Backend.room g.K.Backend.chance g.K.Backend.tears old new (command_of c.args.name.now bytes ∷ []) up (g.K.Backend.mounted_on c.args.settings.now.backend) (active_area c.args.map.now old) c.save_one-end.result (Err TooManyNames) (c.requires.here.mounted ∙ c.requires.here.active) end
          (record { touches = c.save_one-end.ensures.touches; at_most = c.save_one-end.ensures.at_most; count = c.save_one-end.ensures.ends.0; ends = c.save_one-end.ensures.ends.1 }) in
          let stays = active_beside g.K.Backend.serves c.args.map.now old new c.requires.map (g.met.B.Flash.is_lawful c.args.bench.now) (g.met.B.Flash.is_lawful c.save_one-end.new.flash) here.touches.banks here.touches.outside in
          λ registry pool. subst (λ (value : List ℕ). CarriedAt g.K.Backend.contents g.K.Backend.room g.K.Backend.chance g.K.Backend.tears registry pool c.args.map.now (Set c.args.name.now value) (TooMany (c.spent.result - c.spent-before.result)) old new) c.as_slice.ensures
          (set_by_many g.K.Backend.contents g.K.Backend.room g.K.Backend.chance g.K.Backend.tears registry pool c.args.map.now c.args.name.now bytes old new c.requires.here.powered stays up c.spent-before.result c.spent.result c.spent-before.ensures c.spent.ensures here);
      left = dark-boot g.K.Backend.owes g.K.Backend.boot_units (g.B.Flash.device c.args.bench.now) (g.B.Flash.device c.save_one-end.new.flash) (g.K.Backend.mounted_on c.args.settings.now.backend) (g.K.Backend.mounted_on c.save_one-end.new.self.backend) c.args.area.now _ c.requires.here.powered c.save_one-end.ensures.touches c.save_one-end.ensures.area c.requires.here.mounted c.save_one-end.ensures.owes;
      sound = subst (λ (a : Area). on g.K.Backend.damage (g.B.Flash.device c.save_one-end.new.flash) a ≡ None) c.requires.here.mounted (c.save_one-end.ensures.sound c.requires.here.up);
      stays = stays_up g.K.Backend.mounted_on g.K.Backend.stands g.K.Backend.runs c.args.map.now (g.B.Flash.device c.args.bench.now) (g.B.Flash.device c.save_one-end.new.flash) c.args.area.now c.args.settings.now.backend c.save_one-end.new.self.backend c.requires.here c.save_one-end.ensures.area c.save_one-end.ensures.stands (c.save_one-end.ensures.up (ap (λ (r : Result (Unit {0}) SaveFault). save_lost r) (c.in-Err-TooManyNames.is ∙ ap (λ (fault : SaveFault). Err fault) which)));
    }

pub returns-in-Err-PowerLost : goal.returns-in-Err-PowerLost
returns-in-Err-PowerLost g c =
    let which : c.in-Err-PowerLost.field-0 ≡ PowerLost = rw c.in-Err-PowerLost.is at c.in-Err-PowerLost.field-0-is in
    record {
      done =
          let old = g.B.Flash.device c.args.bench.now in
          let new = g.B.Flash.device c.save_one-end.new.flash in
          let up = g.K.Backend.runs c.args.settings.now.backend in
          let bytes = c.as_slice.result.now in
          let end : c.save_one-end.result ≡ Err (PowerLost) = c.in-Err-PowerLost.is ∙ ap (λ (fault : SaveFault). Err fault) which in
          let here = ended g.K.Backend.contents g.K.Backend.room g.K.Backend.chance g.K.Backend.tears old new (command_of c.args.name.now bytes ∷ []) up (g.K.Backend.mounted_on c.args.settings.now.backend) (active_area c.args.map.now old) c.save_one-end.result (Err PowerLost) (c.requires.here.mounted ∙ c.requires.here.active) end
          (record { touches = c.save_one-end.ensures.touches; at_most = c.save_one-end.ensures.at_most; count = c.save_one-end.ensures.ends.0; ends = c.save_one-end.ensures.ends.1 }) in
          let stays = active_beside g.K.Backend.serves c.args.map.now old new c.requires.map (g.met.B.Flash.is_lawful c.args.bench.now) (g.met.B.Flash.is_lawful c.save_one-end.new.flash) here.touches.banks here.touches.outside in
          let reports = reported_at g.K.Backend.chance new c.args.area.now (active_area c.args.map.now old) c.spells_another.result c.requires.here.active c.spells_another.ensures in
          λ registry pool. subst (λ (value : List ℕ). CarriedAt g.K.Backend.contents g.K.Backend.room g.K.Backend.chance g.K.Backend.tears registry pool c.args.map.now (Set c.args.name.now value) (Lost (c.spent.result - c.spent-before.result) c.spells_another.result) old new) c.as_slice.ensures
          (set_by_lost g.K.Backend.contents g.K.Backend.room g.K.Backend.chance g.K.Backend.tears registry pool c.args.map.now c.args.name.now bytes old new c.requires.here.powered stays up c.spent-before.result c.spent.result c.spent-before.ensures c.spent.ensures c.spells_another.result reports here);
      left = dark-boot g.K.Backend.owes g.K.Backend.boot_units (g.B.Flash.device c.args.bench.now) (g.B.Flash.device c.save_one-end.new.flash) (g.K.Backend.mounted_on c.args.settings.now.backend) (g.K.Backend.mounted_on c.save_one-end.new.self.backend) c.args.area.now _ c.requires.here.powered c.save_one-end.ensures.touches c.save_one-end.ensures.area c.requires.here.mounted c.save_one-end.ensures.owes;
      sound = subst (λ (a : Area). on g.K.Backend.damage (g.B.Flash.device c.save_one-end.new.flash) a ≡ None) c.requires.here.mounted (c.save_one-end.ensures.sound c.requires.here.up);
      stays = stays_off g.K.Backend.mounted_on g.K.Backend.stands g.K.Backend.runs c.args.map.now (g.B.Flash.device c.args.bench.now) (g.B.Flash.device c.save_one-end.new.flash) c.args.area.now c.args.settings.now.backend c.save_one-end.new.self.backend c.requires.here c.save_one-end.ensures.area c.save_one-end.ensures.stands _ (ap (λ (r : Result (Unit {0}) SaveFault). save_lost r) (c.in-Err-PowerLost.is ∙ ap (λ (fault : SaveFault). Err fault) which)) c.save_one-end.ensures.touches;
    }

pub save_one-end-requires : goal.save_one-end-requires
save_one-end-requires g c = record {
  lawful = subst (λ (a : Area). IsLawfulFor (g.B.Flash.device c.args.bench.now).banks a) (sym (c.requires.here.mounted ∙ c.requires.here.active)) (active-lawful g.K.Backend.serves c.args.map.now (g.B.Flash.device c.args.bench.now) c.requires.map);
  short = subst (λ (value : List ℕ). length value ≤ value_limit (g.K.Backend.mounted_on c.args.settings.now.backend)) (sym c.as_slice.ensures)
      (subst (λ (a : Area). length c.args.value.now ≤ value_limit a) (sym c.requires.here.mounted) c.requires.short);
  stands = λ up. c.requires.here.standing;
}
