-- each end of the call makes its answer
use Rattle.session.proofs.OwesLemmas.{dark-boot}
use Rattle.std.proofs.Common.{◌≡◌, ℕ, ◌-◌, List, ◌∷◌, [], Option, None, Result, Ok, Err, ap, subst, sym, ◌∙◌}
use Rattle.std.specs.Prelude.{option_map}
use Rattle.flash_sim.specs.declared.flash.Bank.{Bank}
use Rattle.flash_map.specs.declared.area.Area.{Area}
use Rattle.flash_map.specs.Area.{geometry_of, value_limit}
use Rattle.flash_map.specs.Lawful.{IsLawfulFor}
use Rattle.flash_map.specs.On.{on}
use Rattle.flash_map.specs.Touches.{Touches}
use Rattle.backend_api.specs.Commands.{puts_of}
use Rattle.handlers.specs.Registry.{registered}
use Rattle.settings_core.specs.Carrying.{save_lost}
use Rattle.settings_core.specs.Saving.{AreLawful, exported}
use Rattle.settings_core.specs.declared.writing.SaveFault.{SaveFault}
use Rattle.settings_core.specs.declared.writing.SaveFault.TheVariants.{NoSpace, TooManyNames, PowerLost}
use Rattle.script_lines.specs.declared.line.Line.TheVariants.{Save}
use Rattle.script_lines.specs.declared.answer.Answer.TheVariants.{Lost, Saved}
use Rattle.script_lines.specs.declared.answer.SaveEnd.TheVariants.{Whole, NoSpace as NoRoom, TooMany}
use Rattle.session.specs.OnMap.{DoneWithin, active_area, meanings, moment}
use Rattle.session_table.specs.Bench.{geometry_in}
use Rattle.session.proofs.ActiveArea.{active-lawful, active-limit, active-served, active-stays}
use Rattle.session.proofs.ReadyLemmas.{stays_off, stays_up}
use Rattle.session.proofs.SaveLemmas.{ended, units-are, saved-whole, saved-many, saved-full, saved-lost}
use Rattle.session.proofs.handling.save_settings.Goals as goal

pub save-saved-requires : goal.save-saved-requires
save-saved-requires g c =
    let d = g.B.Flash.device c.args.bench.now in
    record {
      lawful = subst (λ (a : Area). IsLawfulFor d.banks a) (sym (c.requires.here.mounted ∙ c.requires.here.active)) (active-lawful g.K.Backend.serves c.args.map.now d c.requires.map);
      settings =
          let hs = registered (λ b. (goal.Handler-dyn g (b.vtable, b.value)).state b.value) c.args.registry.now in
          subst (λ (limit : ℕ). AreLawful limit hs) (sym (ap value_limit (c.requires.here.mounted ∙ c.requires.here.active) ∙ active-limit g.K.Backend.serves c.args.map.now d c.requires.map)) c.requires.registry;
      stands = λ up. c.requires.here.standing;
    }

pub spells_another-requires : goal.spells_another-requires
spells_another-requires g c = record {
  lawful =
      let d = g.B.Flash.device c.args.bench.now in
      subst (λ (banks : List Bank). IsLawfulFor banks c.args.area.now) (sym c.save-saved.ensures.touches.banks)
      (subst (λ (a : Area). IsLawfulFor d.banks a) (sym c.requires.here.active) (active-lawful g.K.Backend.serves c.args.map.now d c.requires.map));
  serves = subst (λ (banks : List Bank). g.K.Backend.serves c.args.area.now (geometry_in banks c.args.area.now)) (sym c.save-saved.ensures.touches.banks)
      (subst (λ (a : Area). g.K.Backend.serves a (geometry_of (g.B.Flash.device c.args.bench.now) a)) (sym c.requires.here.active) (active-served g.K.Backend.serves c.args.map.now (g.B.Flash.device c.args.bench.now) c.requires.map));
}

pub returns-in-Ok : goal.returns-in-Ok
returns-in-Ok g c = record {
  done =
      let old = g.B.Flash.device c.args.bench.now in
      let new = g.B.Flash.device c.save-saved.new.flash in
      let hs = registered (λ b. (goal.Handler-dyn g (b.vtable, b.value)).state b.value) c.args.registry.now in
      let asked = option_map (λ name. name.now) c.as_ref.result in
      let areas = c.args.map.now in
      let at : g.K.Backend.mounted_on c.args.settings.now.backend ≡ active_area areas old = c.requires.here.mounted ∙ c.requires.here.active in
      let touches : Touches (active_area areas old ∷ []) old new (save_lost c.save-saved.result.end) = subst (λ (a : Area). Touches (a ∷ []) old new (save_lost c.save-saved.result.end)) at c.save-saved.ensures.touches in
      let stays = active-stays g.K.Backend.serves areas old c.requires.map new (save_lost c.save-saved.result.end) (g.met.B.Flash.is_lawful c.args.bench.now) (g.met.B.Flash.is_lawful c.save-saved.new.flash) touches in
      let up = g.K.Backend.runs c.args.settings.now.backend in
      let units = c.spent.result - c.spent-before.result in
      let spent = units-are c.spent-before.result c.spent.result old.spent new.spent c.spent-before.ensures c.spent.ensures in
      let here = ended g.K.Backend.contents g.K.Backend.room g.K.Backend.chance g.K.Backend.tears old new (puts_of (exported asked hs)) c.save-saved.result.pairs up (g.K.Backend.mounted_on c.args.settings.now.backend) (active_area areas old) c.save-saved.result.end (Ok c.in-Ok.field-0) at c.in-Ok.is
      (record { touches = c.save-saved.ensures.touches; at_most = c.save-saved.ensures.at_most; count = c.save-saved.ensures.ends.0; ends = c.save-saved.ensures.ends.1; pairs_are = c.save-saved.ensures.ends.2 }) in
      λ pool. subst (λ (subtree : Option (List ℕ)). DoneWithin (meanings g.K.Backend.contents g.K.Backend.room g.K.Backend.chance g.K.Backend.tears) areas (Save subtree) (Saved c.save-saved.result.pairs units Whole) (moment old hs pool) (moment new hs pool)) c.as_ref.ensures.value
      (saved-whole g.K.Backend.contents g.K.Backend.room g.K.Backend.chance g.K.Backend.tears areas hs pool asked old new c.requires.here.powered stays up c.save-saved.result.pairs units spent c.in-Ok.field-0 here);
  stays = stays_up g.K.Backend.mounted_on g.K.Backend.stands g.K.Backend.runs c.args.map.now (g.B.Flash.device c.args.bench.now) (g.B.Flash.device c.save-saved.new.flash) c.args.area.now c.args.settings.now.backend c.save-saved.new.self.backend c.requires.here c.save-saved.ensures.area c.save-saved.ensures.stands (c.save-saved.ensures.up (ap (λ (r : Result (Unit {0}) SaveFault). save_lost r) c.in-Ok.is));
  left = dark-boot g.K.Backend.owes g.K.Backend.boot_units (g.B.Flash.device c.args.bench.now) (g.B.Flash.device c.save-saved.new.flash) (g.K.Backend.mounted_on c.args.settings.now.backend) (g.K.Backend.mounted_on c.save-saved.new.self.backend) c.args.area.now _ c.requires.here.powered c.save-saved.ensures.touches c.save-saved.ensures.area c.requires.here.mounted c.save-saved.ensures.owes;
  sound = subst (λ (a : Area). on g.K.Backend.damage (g.B.Flash.device c.save-saved.new.flash) a ≡ None) c.requires.here.mounted (c.save-saved.ensures.sound c.requires.here.up);
}

pub returns-in-Err-NoSpace : goal.returns-in-Err-NoSpace
returns-in-Err-NoSpace g c = record {
  done =
      let old = g.B.Flash.device c.args.bench.now in
      let new = g.B.Flash.device c.save-saved.new.flash in
      let hs = registered (λ b. (goal.Handler-dyn g (b.vtable, b.value)).state b.value) c.args.registry.now in
      let asked = option_map (λ name. name.now) c.as_ref.result in
      let areas = c.args.map.now in
      let at : g.K.Backend.mounted_on c.args.settings.now.backend ≡ active_area areas old = c.requires.here.mounted ∙ c.requires.here.active in
      let touches : Touches (active_area areas old ∷ []) old new (save_lost c.save-saved.result.end) = subst (λ (a : Area). Touches (a ∷ []) old new (save_lost c.save-saved.result.end)) at c.save-saved.ensures.touches in
      let stays = active-stays g.K.Backend.serves areas old c.requires.map new (save_lost c.save-saved.result.end) (g.met.B.Flash.is_lawful c.args.bench.now) (g.met.B.Flash.is_lawful c.save-saved.new.flash) touches in
      let up = g.K.Backend.runs c.args.settings.now.backend in
      let units = c.spent.result - c.spent-before.result in
      let spent = units-are c.spent-before.result c.spent.result old.spent new.spent c.spent-before.ensures c.spent.ensures in
      let which : c.in-Err-NoSpace.field-0 ≡ (NoSpace c.in-Err-NoSpace.need c.in-Err-NoSpace.live) = rw c.in-Err-NoSpace.is at c.in-Err-NoSpace.field-0-is in
      let end : c.save-saved.result.end ≡ Err (NoSpace c.in-Err-NoSpace.need c.in-Err-NoSpace.live) = c.in-Err-NoSpace.is ∙ ap (λ (fault : SaveFault). Err fault) which in
      let here = ended g.K.Backend.contents g.K.Backend.room g.K.Backend.chance g.K.Backend.tears old new (puts_of (exported asked hs)) c.save-saved.result.pairs up (g.K.Backend.mounted_on c.args.settings.now.backend) (active_area areas old) c.save-saved.result.end (Err (NoSpace c.in-Err-NoSpace.need c.in-Err-NoSpace.live)) at end
      (record { touches = c.save-saved.ensures.touches; at_most = c.save-saved.ensures.at_most; count = c.save-saved.ensures.ends.0; ends = c.save-saved.ensures.ends.1; pairs_are = c.save-saved.ensures.ends.2 }) in
      λ pool. subst (λ (subtree : Option (List ℕ)). DoneWithin (meanings g.K.Backend.contents g.K.Backend.room g.K.Backend.chance g.K.Backend.tears) areas (Save subtree) (Saved c.save-saved.result.pairs units (NoRoom c.in-Err-NoSpace.need c.in-Err-NoSpace.live)) (moment old hs pool) (moment new hs pool)) c.as_ref.ensures.value
      (saved-full g.K.Backend.contents g.K.Backend.room g.K.Backend.chance g.K.Backend.tears areas hs pool asked old new c.requires.here.powered stays up c.save-saved.result.pairs units spent c.in-Err-NoSpace.need c.in-Err-NoSpace.live here);
  stays =
      let which : c.in-Err-NoSpace.field-0 ≡ NoSpace c.in-Err-NoSpace.need c.in-Err-NoSpace.live = rw c.in-Err-NoSpace.is at c.in-Err-NoSpace.field-0-is in
      stays_up g.K.Backend.mounted_on g.K.Backend.stands g.K.Backend.runs c.args.map.now (g.B.Flash.device c.args.bench.now) (g.B.Flash.device c.save-saved.new.flash) c.args.area.now c.args.settings.now.backend c.save-saved.new.self.backend c.requires.here c.save-saved.ensures.area c.save-saved.ensures.stands (c.save-saved.ensures.up (ap (λ (r : Result (Unit {0}) SaveFault). save_lost r) (c.in-Err-NoSpace.is ∙ ap (λ (fault : SaveFault). Err fault) which)));
  left = dark-boot g.K.Backend.owes g.K.Backend.boot_units (g.B.Flash.device c.args.bench.now) (g.B.Flash.device c.save-saved.new.flash) (g.K.Backend.mounted_on c.args.settings.now.backend) (g.K.Backend.mounted_on c.save-saved.new.self.backend) c.args.area.now _ c.requires.here.powered c.save-saved.ensures.touches c.save-saved.ensures.area c.requires.here.mounted c.save-saved.ensures.owes;
  sound = subst (λ (a : Area). on g.K.Backend.damage (g.B.Flash.device c.save-saved.new.flash) a ≡ None) c.requires.here.mounted (c.save-saved.ensures.sound c.requires.here.up);
}

pub returns-in-Err-TooManyNames : goal.returns-in-Err-TooManyNames
returns-in-Err-TooManyNames g c =
    let which : c.in-Err-TooManyNames.field-0 ≡ TooManyNames = rw c.in-Err-TooManyNames.is at c.in-Err-TooManyNames.field-0-is in
    record {
      done =
          let old = g.B.Flash.device c.args.bench.now in
          let new = g.B.Flash.device c.save-saved.new.flash in
          let hs = registered (λ b. (goal.Handler-dyn g (b.vtable, b.value)).state b.value) c.args.registry.now in
          let asked = option_map (λ name. name.now) c.as_ref.result in
          let areas = c.args.map.now in
          let at : g.K.Backend.mounted_on c.args.settings.now.backend ≡ active_area areas old = c.requires.here.mounted ∙ c.requires.here.active in
          let touches : Touches (active_area areas old ∷ []) old new (save_lost c.save-saved.result.end) = subst (λ (a : Area). Touches (a ∷ []) old new (save_lost c.save-saved.result.end)) at c.save-saved.ensures.touches in
          let stays = active-stays g.K.Backend.serves areas old c.requires.map new (save_lost c.save-saved.result.end) (g.met.B.Flash.is_lawful c.args.bench.now) (g.met.B.Flash.is_lawful c.save-saved.new.flash) touches in
          let up = g.K.Backend.runs c.args.settings.now.backend in
          let units = c.spent.result - c.spent-before.result in
          let spent = units-are c.spent-before.result c.spent.result old.spent new.spent c.spent-before.ensures c.spent.ensures in
          let end : c.save-saved.result.end ≡ Err TooManyNames = c.in-Err-TooManyNames.is ∙ ap (λ (fault : SaveFault). Err fault) which in
          let here = ended g.K.Backend.contents g.K.Backend.room g.K.Backend.chance g.K.Backend.tears old new (puts_of (exported asked hs)) c.save-saved.result.pairs up (g.K.Backend.mounted_on c.args.settings.now.backend) (active_area areas old) c.save-saved.result.end (Err TooManyNames) at end
          (record { touches = c.save-saved.ensures.touches; at_most = c.save-saved.ensures.at_most; count = c.save-saved.ensures.ends.0; ends = c.save-saved.ensures.ends.1; pairs_are = c.save-saved.ensures.ends.2 }) in
          λ pool. subst (λ (subtree : Option (List ℕ)). DoneWithin (meanings g.K.Backend.contents g.K.Backend.room g.K.Backend.chance g.K.Backend.tears) areas (Save subtree) (Saved c.save-saved.result.pairs units TooMany) (moment old hs pool) (moment new hs pool)) c.as_ref.ensures.value
          (saved-many g.K.Backend.contents g.K.Backend.room g.K.Backend.chance g.K.Backend.tears areas hs pool asked old new c.requires.here.powered stays up c.save-saved.result.pairs units spent here);
      stays = stays_up g.K.Backend.mounted_on g.K.Backend.stands g.K.Backend.runs c.args.map.now (g.B.Flash.device c.args.bench.now) (g.B.Flash.device c.save-saved.new.flash) c.args.area.now c.args.settings.now.backend c.save-saved.new.self.backend c.requires.here c.save-saved.ensures.area c.save-saved.ensures.stands (c.save-saved.ensures.up (ap (λ (r : Result (Unit {0}) SaveFault). save_lost r) (c.in-Err-TooManyNames.is ∙ ap (λ (fault : SaveFault). Err fault) which)));
      left = dark-boot g.K.Backend.owes g.K.Backend.boot_units (g.B.Flash.device c.args.bench.now) (g.B.Flash.device c.save-saved.new.flash) (g.K.Backend.mounted_on c.args.settings.now.backend) (g.K.Backend.mounted_on c.save-saved.new.self.backend) c.args.area.now _ c.requires.here.powered c.save-saved.ensures.touches c.save-saved.ensures.area c.requires.here.mounted c.save-saved.ensures.owes;
      sound = subst (λ (a : Area). on g.K.Backend.damage (g.B.Flash.device c.save-saved.new.flash) a ≡ None) c.requires.here.mounted (c.save-saved.ensures.sound c.requires.here.up);
    }

pub returns-in-Err-PowerLost : goal.returns-in-Err-PowerLost
returns-in-Err-PowerLost g c =
    let which : c.in-Err-PowerLost.field-0 ≡ PowerLost = rw c.in-Err-PowerLost.is at c.in-Err-PowerLost.field-0-is in
    record {
      done =
          let old = g.B.Flash.device c.args.bench.now in
          let new = g.B.Flash.device c.save-saved.new.flash in
          let hs = registered (λ b. (goal.Handler-dyn g (b.vtable, b.value)).state b.value) c.args.registry.now in
          let asked = option_map (λ name. name.now) c.as_ref.result in
          let areas = c.args.map.now in
          let at : g.K.Backend.mounted_on c.args.settings.now.backend ≡ active_area areas old = c.requires.here.mounted ∙ c.requires.here.active in
          let touches : Touches (active_area areas old ∷ []) old new (save_lost c.save-saved.result.end) = subst (λ (a : Area). Touches (a ∷ []) old new (save_lost c.save-saved.result.end)) at c.save-saved.ensures.touches in
          let stays = active-stays g.K.Backend.serves areas old c.requires.map new (save_lost c.save-saved.result.end) (g.met.B.Flash.is_lawful c.args.bench.now) (g.met.B.Flash.is_lawful c.save-saved.new.flash) touches in
          let up = g.K.Backend.runs c.args.settings.now.backend in
          let units = c.spent.result - c.spent-before.result in
          let spent = units-are c.spent-before.result c.spent.result old.spent new.spent c.spent-before.ensures c.spent.ensures in
          let end : c.save-saved.result.end ≡ Err PowerLost = c.in-Err-PowerLost.is ∙ ap (λ (fault : SaveFault). Err fault) which in
          let here = ended g.K.Backend.contents g.K.Backend.room g.K.Backend.chance g.K.Backend.tears old new (puts_of (exported asked hs)) c.save-saved.result.pairs up (g.K.Backend.mounted_on c.args.settings.now.backend) (active_area areas old) c.save-saved.result.end (Err PowerLost) at end
          (record { touches = c.save-saved.ensures.touches; at_most = c.save-saved.ensures.at_most; count = c.save-saved.ensures.ends.0; ends = c.save-saved.ensures.ends.1; pairs_are = c.save-saved.ensures.ends.2 }) in
          λ pool. subst (λ (subtree : Option (List ℕ)). DoneWithin (meanings g.K.Backend.contents g.K.Backend.room g.K.Backend.chance g.K.Backend.tears) areas (Save subtree) (Lost units c.spells_another.result) (moment old hs pool) (moment new hs pool)) c.as_ref.ensures.value
          (saved-lost g.K.Backend.contents g.K.Backend.room g.K.Backend.chance g.K.Backend.tears areas hs pool asked old new c.requires.here.powered stays up c.save-saved.result.pairs units spent c.spells_another.result (λ loss last. c.spells_another.ensures loss last ∙ ap (λ (a : Area). on g.K.Backend.chance new a loss) c.requires.here.active) here);
      stays = stays_off g.K.Backend.mounted_on g.K.Backend.stands g.K.Backend.runs c.args.map.now (g.B.Flash.device c.args.bench.now) (g.B.Flash.device c.save-saved.new.flash) c.args.area.now c.args.settings.now.backend c.save-saved.new.self.backend c.requires.here c.save-saved.ensures.area c.save-saved.ensures.stands _ (ap (λ (r : Result (Unit {0}) SaveFault). save_lost r) (c.in-Err-PowerLost.is ∙ ap (λ (fault : SaveFault). Err fault) which)) c.save-saved.ensures.touches;
      left = dark-boot g.K.Backend.owes g.K.Backend.boot_units (g.B.Flash.device c.args.bench.now) (g.B.Flash.device c.save-saved.new.flash) (g.K.Backend.mounted_on c.args.settings.now.backend) (g.K.Backend.mounted_on c.save-saved.new.self.backend) c.args.area.now _ c.requires.here.powered c.save-saved.ensures.touches c.save-saved.ensures.area c.requires.here.mounted c.save-saved.ensures.owes;
      sound = subst (λ (a : Area). on g.K.Backend.damage (g.B.Flash.device c.save-saved.new.flash) a ≡ None) c.requires.here.mounted (c.save-saved.ensures.sound c.requires.here.up);
    }
