-- each end of the call makes its answer
use Rattle.session.proofs.OwesLemmas.{dark-boot}
use Rattle.std.proofs.Common.{◌≡◌, ◌∷◌, [], List, Ok, Err, ap, subst, sym, ◌∙◌, None}
use Rattle.std.specs.Prelude.{Result}
use Rattle.flash_sim.specs.declared.flash.Bank.{Bank}
use Rattle.flash_map.specs.Lawful.{IsLawfulFor}
use Rattle.backend_api.specs.Commands.{Del}
use Rattle.settings_core.specs.declared.writing.SaveFault.TheVariants.{PowerLost}
use Rattle.settings_core.specs.declared.writing.DeleteFault.{DeleteFault}
use Rattle.settings_core.specs.declared.writing.DeleteFault.TheVariants.{PowerLost as DeleteLost}
use Rattle.settings_core.specs.Carrying.{as_save, save_lost}
use Rattle.session_table.specs.Bench.{geometry_in}
use Rattle.session.proofs.LineLemmas.{ended, reported_at, delete_by_ok, delete_by_lost}
use Rattle.flash_map.specs.declared.area.Area.{Area}
use Rattle.flash_map.specs.On.{on}
use Rattle.session.specs.OnMap.{active_area}
use Rattle.flash_map.specs.Area.{geometry_of}
use Rattle.session.proofs.ActiveArea.{active-lawful, active-served}
use Rattle.session.proofs.ActiveAreas.{active_beside}
use Rattle.session.proofs.ReadyLemmas.{stays_off, stays_up}
use Rattle.session.proofs.changing.delete_setting.Goals as goal

pub spells_another-requires : goal.spells_another-requires
spells_another-requires g c = record {
  lawful = subst (λ (banks : List Bank). IsLawfulFor banks c.args.area.now) (sym c.delete-end.ensures.touches.banks)
      (subst (λ (a : Area). IsLawfulFor (g.B.Flash.device c.args.bench.now).banks a) (sym c.requires.here.active) (active-lawful g.K.Backend.serves c.args.map.now (g.B.Flash.device c.args.bench.now) c.requires.map));
  serves = subst (λ (banks : List Bank). g.K.Backend.serves c.args.area.now (geometry_in banks c.args.area.now)) (sym c.delete-end.ensures.touches.banks)
      (subst (λ (a : Area). g.K.Backend.serves a (geometry_of (g.B.Flash.device c.args.bench.now) a)) (sym c.requires.here.active) (active-served g.K.Backend.serves c.args.map.now (g.B.Flash.device c.args.bench.now) c.requires.map));
}

pub returns-in-Ok : goal.returns-in-Ok
returns-in-Ok g c = record {
  done =
      let old = g.B.Flash.device c.args.bench.now in
      let new = g.B.Flash.device c.delete-end.new.flash in
      let up = g.K.Backend.runs c.args.settings.now.backend in
      let end : as_save c.delete-end.result ≡ Ok c.in-Ok.field-0 = ap (λ (r : Result (Unit {0}) DeleteFault). as_save r) c.in-Ok.is in
      let here = ended g.K.Backend.contents g.K.Backend.room g.K.Backend.chance g.K.Backend.tears old new (Del c.args.name.now ∷ []) up (g.K.Backend.mounted_on c.args.settings.now.backend) (active_area c.args.map.now old) (as_save c.delete-end.result) (Ok c.in-Ok.field-0) (c.requires.here.mounted ∙ c.requires.here.active) end
      (record { touches = c.delete-end.ensures.touches; at_most = c.delete-end.ensures.at_most; count = c.delete-end.ensures.ends.0; ends = c.delete-end.ensures.ends.1 }) in
      let stays = active_beside g.K.Backend.serves c.args.map.now old new c.requires.map (g.met.B.Flash.is_lawful c.args.bench.now) (g.met.B.Flash.is_lawful c.delete-end.new.flash) here.touches.banks here.touches.outside in
      λ registry pool. delete_by_ok g.K.Backend.contents g.K.Backend.room g.K.Backend.chance g.K.Backend.tears registry pool c.args.map.now c.args.name.now old new c.requires.here.powered stays up c.spent-before.result c.spent.result c.spent-before.ensures c.spent.ensures c.in-Ok.field-0 here;
  left = dark-boot g.K.Backend.owes g.K.Backend.boot_units (g.B.Flash.device c.args.bench.now) (g.B.Flash.device c.delete-end.new.flash) (g.K.Backend.mounted_on c.args.settings.now.backend) (g.K.Backend.mounted_on c.delete-end.new.self.backend) c.args.area.now _ c.requires.here.powered c.delete-end.ensures.touches c.delete-end.ensures.area c.requires.here.mounted c.delete-end.ensures.owes;
  sound = subst (λ (a : Area). on g.K.Backend.damage (g.B.Flash.device c.delete-end.new.flash) a ≡ None) c.requires.here.mounted (c.delete-end.ensures.sound c.requires.here.up);
  stays = stays_up g.K.Backend.mounted_on g.K.Backend.stands g.K.Backend.runs c.args.map.now (g.B.Flash.device c.args.bench.now) (g.B.Flash.device c.delete-end.new.flash) c.args.area.now c.args.settings.now.backend c.delete-end.new.self.backend c.requires.here c.delete-end.ensures.area c.delete-end.ensures.stands (c.delete-end.ensures.up (ap (λ (r : Result (Unit {0}) DeleteFault). save_lost (as_save r)) c.in-Ok.is));
}

pub returns-in-Err-PowerLost : goal.returns-in-Err-PowerLost
returns-in-Err-PowerLost g c =
    let which : c.in-Err-PowerLost.field-0 ≡ DeleteLost = rw c.in-Err-PowerLost.is at c.in-Err-PowerLost.field-0-is in
    record {
      done =
          let old = g.B.Flash.device c.args.bench.now in
          let new = g.B.Flash.device c.delete-end.new.flash in
          let up = g.K.Backend.runs c.args.settings.now.backend in
          let end : as_save c.delete-end.result ≡ Err PowerLost = ap (λ (r : Result (Unit {0}) DeleteFault). as_save r) (c.in-Err-PowerLost.is ∙ ap (λ (fault : DeleteFault). Err fault) which) in
          let here = ended g.K.Backend.contents g.K.Backend.room g.K.Backend.chance g.K.Backend.tears old new (Del c.args.name.now ∷ []) up (g.K.Backend.mounted_on c.args.settings.now.backend) (active_area c.args.map.now old) (as_save c.delete-end.result) (Err PowerLost) (c.requires.here.mounted ∙ c.requires.here.active) end
          (record { touches = c.delete-end.ensures.touches; at_most = c.delete-end.ensures.at_most; count = c.delete-end.ensures.ends.0; ends = c.delete-end.ensures.ends.1 }) in
          let stays = active_beside g.K.Backend.serves c.args.map.now old new c.requires.map (g.met.B.Flash.is_lawful c.args.bench.now) (g.met.B.Flash.is_lawful c.delete-end.new.flash) here.touches.banks here.touches.outside in
          let reports = reported_at g.K.Backend.chance new c.args.area.now (active_area c.args.map.now old) c.spells_another.result c.requires.here.active c.spells_another.ensures in
          λ registry pool. delete_by_lost g.K.Backend.contents g.K.Backend.room g.K.Backend.chance g.K.Backend.tears registry pool c.args.map.now c.args.name.now old new c.requires.here.powered stays up c.spent-before.result c.spent.result c.spent-before.ensures c.spent.ensures c.spells_another.result reports here;
      left = dark-boot g.K.Backend.owes g.K.Backend.boot_units (g.B.Flash.device c.args.bench.now) (g.B.Flash.device c.delete-end.new.flash) (g.K.Backend.mounted_on c.args.settings.now.backend) (g.K.Backend.mounted_on c.delete-end.new.self.backend) c.args.area.now _ c.requires.here.powered c.delete-end.ensures.touches c.delete-end.ensures.area c.requires.here.mounted c.delete-end.ensures.owes;
      sound = subst (λ (a : Area). on g.K.Backend.damage (g.B.Flash.device c.delete-end.new.flash) a ≡ None) c.requires.here.mounted (c.delete-end.ensures.sound c.requires.here.up);
      stays = stays_off g.K.Backend.mounted_on g.K.Backend.stands g.K.Backend.runs c.args.map.now (g.B.Flash.device c.args.bench.now) (g.B.Flash.device c.delete-end.new.flash) c.args.area.now c.args.settings.now.backend c.delete-end.new.self.backend c.requires.here c.delete-end.ensures.area c.delete-end.ensures.stands _ (ap (λ (r : Result (Unit {0}) DeleteFault). save_lost (as_save r)) (c.in-Err-PowerLost.is ∙ ap (λ (fault : DeleteFault). Err fault) which)) c.delete-end.ensures.touches;
    }

pub delete-end-requires : goal.delete-end-requires
delete-end-requires g c = record {
  lawful = subst (λ (a : Area). IsLawfulFor (g.B.Flash.device c.args.bench.now).banks a) (sym (c.requires.here.mounted ∙ c.requires.here.active)) (active-lawful g.K.Backend.serves c.args.map.now (g.B.Flash.device c.args.bench.now) c.requires.map);
  stands = λ up. c.requires.here.standing;
}
