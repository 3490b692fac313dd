use Rattle.std.proofs.Common.{◌∷◌, [], Bool, false, true, Err, refl, sym, ap, subst, ◌∙◌, true≢false}
use Rattle.flash_sim.specs.Device.{Device}
use Rattle.flash_map.specs.Area.{geometry_of, sectors_of}
use Rattle.flash_map.specs.Touches.{Touches}
use Rattle.flash_map.proofs.Touches.{untouched}
use Rattle.backend_api.specs.Commands.Command.{Put}
use Rattle.flash_map.specs.On.{on}
use Rattle.settings_core.specs.Carrying.{due_units, CarryEndsOn, save_lost}
use Rattle.settings_core.specs.declared.writing.SaveFault.{SaveFault}
use Rattle.settings_core.proofs.CallLemmas.{leaves_boot, spends_nothing}
use Rattle.settings_core.proofs.CarryLemmas.{idle_ends, set_done, set_refused, fault_lost}
use Rattle.settings_core.proofs.UnitLemmas.{one_due}
use Rattle.settings_core.proofs.writing.put.Goals as goal

pub returns-then-is_stored : goal.returns-then-is_stored
returns-then-is_stored g c = record {
  ends = let area = g.K.Backend.mounted_on c.args.backend.now in
      let d = g.F.Flash.device c.args.flash.now in
      idle_ends (g.K.Backend.room area (geometry_of d area)) area.sectors (on g.K.Backend.chance d area) (g.K.Backend.tears area (geometry_of d area)) d d _ _ false (Put c.args.name.now c.args.value.now)
      (sym c.is_stored.ensures ∙ c.if-is_stored.true) (λ same. refl) refl;
  touches = untouched (g.K.Backend.mounted_on c.args.backend.now ∷ []) (g.F.Flash.device c.args.flash.now);
  area = refl;
  at_most = let area = g.K.Backend.mounted_on c.args.backend.now in
      let d = g.F.Flash.device c.args.flash.now in
      spends_nothing d (due_units (geometry_of d area) (on g.K.Backend.contents d area) (Put c.args.name.now c.args.value.now ∷ []));
  sound = let area = g.K.Backend.mounted_on c.args.backend.now in
      let d = g.F.Flash.device c.args.flash.now in
      g.met.K.Backend.stands_reads c.args.backend.now (geometry_of d area) (sectors_of d area) c.requires.stands;
  stands = λ kept. c.requires.stands;
  owes = λ lost. absurd (true≢false (sym lost));
  down = λ lost. absurd (true≢false (sym lost));
}

pub returns-in-Ok : goal.returns-in-Ok
returns-in-Ok g c = record {
  ends = let area = g.K.Backend.mounted_on c.args.backend.now in
      let d = g.F.Flash.device c.args.flash.now in
      let e = g.F.Flash.device c.set.new.flash in
      set_done (g.K.Backend.room area (geometry_of d area)) area.sectors (on g.K.Backend.chance e area) (g.K.Backend.tears area (geometry_of d area)) d e (on g.K.Backend.contents d area) (on g.K.Backend.contents e area) true c.args.name.now c.args.value.now
      (sym c.is_stored.ensures ∙ c.if-is_stored.false) c.in-Ok.ensures.ends;
  touches = c.in-Ok.ensures.touches;
  area = c.in-Ok.ensures.area;
  at_most = let area = g.K.Backend.mounted_on c.args.backend.now in
      let d = g.F.Flash.device c.args.flash.now in
      one_due d (g.F.Flash.device c.set.new.flash) (geometry_of d area) (on g.K.Backend.contents d area) (Put c.args.name.now c.args.value.now) (sym c.is_stored.ensures ∙ c.if-is_stored.false) c.in-Ok.ensures.units.at_most;
  sound = c.in-Ok.ensures.sound;
  stands = c.in-Ok.ensures.stands;
  owes = λ lost. absurd (true≢false (sym lost));
  down = λ lost. absurd (true≢false (sym lost));
}

pub returns-in-Err : goal.returns-in-Err
returns-in-Err g c = record {
  touches = subst (λ lost. Touches (g.K.Backend.mounted_on c.args.backend.now ∷ []) (g.F.Flash.device c.args.flash.now) (g.F.Flash.device c.set.new.flash) lost) (sym (ap (λ (f : SaveFault). save_lost {T = Bool} (Err f)) c.fault_of.ensures ∙ fault_lost Bool (Unit {0}) c.in-Err.fault)) c.in-Err.ensures.touches;
  ends = let area = g.K.Backend.mounted_on c.args.backend.now in
      let d = g.F.Flash.device c.args.flash.now in
      let e = g.F.Flash.device c.set.new.flash in
      subst (λ (f : SaveFault). CarryEndsOn {T = Bool} g.K.Backend.room g.K.Backend.contents g.K.Backend.chance g.K.Backend.tears true area d e (Put c.args.name.now c.args.value.now ∷ []) 0 (Err f)) (sym c.fault_of.ensures)
      (set_refused (g.K.Backend.room area (geometry_of d area)) area.sectors (on g.K.Backend.chance e area) (g.K.Backend.tears area (geometry_of d area)) d e (on g.K.Backend.contents d area) (on g.K.Backend.contents e area) Bool c.args.name.now c.args.value.now c.in-Err.fault
      (sym c.is_stored.ensures ∙ c.if-is_stored.false) c.in-Err.ensures.ends c.in-Err.ensures.cut (λ same. ap (λ (x : Device). on g.K.Backend.contents x area) same));
  area = c.in-Err.ensures.area;
  at_most = let area = g.K.Backend.mounted_on c.args.backend.now in
      let d = g.F.Flash.device c.args.flash.now in
      one_due d (g.F.Flash.device c.set.new.flash) (geometry_of d area) (on g.K.Backend.contents d area) (Put c.args.name.now c.args.value.now) (sym c.is_stored.ensures ∙ c.if-is_stored.false) c.in-Err.ensures.units.at_most;
  sound = c.in-Err.ensures.sound;
  stands = λ kept. c.in-Err.ensures.stands (sym (ap (λ (f : SaveFault). save_lost {T = Bool} (Err f)) c.fault_of.ensures ∙ fault_lost Bool (Unit {0}) c.in-Err.fault) ∙ kept);
  owes = λ lost.
      let area = g.K.Backend.mounted_on c.args.backend.now in
      leaves_boot g.K.Backend.owes g.K.Backend.boot_units (g.F.Flash.device c.args.flash.now) (g.F.Flash.device c.set.new.flash) area (g.K.Backend.mounted_on c.set.new.self) c.in-Err.ensures.touches.banks c.in-Err.ensures.area
      (c.in-Err.ensures.units.owes (sym (ap (λ (f : SaveFault). save_lost {T = Bool} (Err f)) c.fault_of.ensures ∙ fault_lost Bool (Unit {0}) c.in-Err.fault) ∙ lost));
  down = λ lost. c.in-Err.ensures.down (sym (ap (λ (f : SaveFault). save_lost {T = Bool} (Err f)) c.fault_of.ensures ∙ fault_lost Bool (Unit {0}) c.in-Err.fault) ∙ lost);
}

pub is_stored-requires : goal.is_stored-requires
is_stored-requires g c = record {
  lawful = c.requires.lawful;
  stands = c.requires.stands;
}

pub set-requires : goal.set-requires
set-requires g c = record {
  lawful = c.requires.lawful;
  stands = c.requires.stands;
  some = c.requires.some;
  short = c.requires.short;
}
