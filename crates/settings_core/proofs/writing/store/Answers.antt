use Rattle.std.proofs.Common.{◌≡◌, List, [], ◌∷◌, true, false, Err, sym, ap, subst, ◌∙◌, true≢false}
use Rattle.flash_sim.specs.Device.{Device}
use Rattle.flash_sim.specs.declared.flash.Bank.{Bank}
use Rattle.flash_map.specs.Area.{geometry_of}
use Rattle.flash_map.specs.Lawful.{IsLawfulFor}
use Rattle.flash_map.specs.Touches.{Touches}
use Rattle.backend_api.specs.Commands.Command.{Put}
use Rattle.backend_api.specs.Ends.{SetEnds, set_lost}
use Rattle.backend_api.specs.declared.backend.SetFault.{SetFault}
use Rattle.backend_api.specs.declared.backend.SetFault.TheVariants.{NoSpace as SetNoSpace, TooManyNames as SetTooMany, PowerLost as SetLost}
use Rattle.flash_map.specs.On.{on}
use Rattle.settings_core.specs.Carrying.{is_idle}
use Rattle.settings_core.proofs.CallLemmas.{leaves_boot}
use Rattle.settings_core.proofs.CarryLemmas.{idle_ends, set_ends, set_full, set_cut, set_refused}
use Rattle.settings_core.proofs.writing.store.Goals as goal

pub returns-in-Ok : goal.returns-in-Ok
returns-in-Ok g c = record {
  ends = let area = g.K.Backend.mounted_on c.args.backend.now in
      let d : Device = g.F.Flash.device c.args.flash.now in
      let e : Device = g.F.Flash.device c.set.new.flash in
      set_ends (g.K.Backend.room area (geometry_of d area)) area.sectors (on g.K.Backend.chance e area) (g.K.Backend.tears area (geometry_of d area)) d e (on g.K.Backend.contents d area) (on g.K.Backend.contents e area) (tt {0}) c.args.name.now c.args.value.now
      (λ same. ap (λ (x : Device). on g.K.Backend.contents x area) same) c.in-Ok.ensures.ends;
  touches = c.in-Ok.ensures.touches;
  area = c.in-Ok.ensures.area;
  at_most = c.in-Ok.ensures.units.at_most;
  sound = c.in-Ok.ensures.sound;
  stands = c.in-Ok.ensures.stands;
  owes = λ lost. absurd (true≢false (sym lost));
  down = λ lost. absurd (true≢false (sym lost));
}

pub returns-then-is_stored : goal.returns-then-is_stored
returns-then-is_stored g c = record {
  ends = let area = g.K.Backend.mounted_on c.args.backend.now in
      let d : Device = g.F.Flash.device c.args.flash.now in
      let e : Device = g.F.Flash.device c.set.new.flash in
      let ends : SetEnds {T = Unit {0}} (g.K.Backend.room area (geometry_of d area)) area.sectors d e (on g.K.Backend.contents d area) (on g.K.Backend.contents e area) c.args.name.now c.args.value.now (Err SetTooMany) = rw c.in-Err-TooManyNames.field-0-is at c.in-Err-TooManyNames.ensures.ends in
      let same : e ≡ d = ends.1 in
      let there : is_idle (on g.K.Backend.contents e (g.K.Backend.mounted_on c.set.new.self)) (Put c.args.name.now c.args.value.now) ≡ true = sym c.is_stored.ensures ∙ c.if-is_stored.true in
      let own : is_idle (on g.K.Backend.contents d area) (Put c.args.name.now c.args.value.now) ≡ true =
      subst (λ (x : Device). is_idle (on g.K.Backend.contents x area) (Put c.args.name.now c.args.value.now) ≡ true) same
      (subst (λ a. is_idle (on g.K.Backend.contents e a) (Put c.args.name.now c.args.value.now) ≡ true) c.in-Err-TooManyNames.ensures.area there) in (
        0,
        idle_ends (g.K.Backend.room area (geometry_of d area)) area.sectors (on g.K.Backend.chance e area) (g.K.Backend.tears area (geometry_of d area)) d e (on g.K.Backend.contents d area) (on g.K.Backend.contents e area) (tt {0}) (Put c.args.name.now c.args.value.now)
            own (λ same. ap (λ (x : Device). on g.K.Backend.contents x area) same) same,
      );
  touches = subst (λ lost. Touches (g.K.Backend.mounted_on c.args.backend.now ∷ []) (g.F.Flash.device c.args.flash.now) (g.F.Flash.device c.set.new.flash) lost) (ap (λ (f : SetFault). set_lost {T = Unit {0}} (Err f)) c.in-Err-TooManyNames.field-0-is) c.in-Err-TooManyNames.ensures.touches;
  area = c.in-Err-TooManyNames.ensures.area;
  at_most = c.in-Err-TooManyNames.ensures.units.at_most;
  sound = c.in-Err-TooManyNames.ensures.sound;
  stands = λ kept. c.in-Err-TooManyNames.ensures.stands (ap (λ (f : SetFault). set_lost {T = Unit {0}} (Err f)) c.in-Err-TooManyNames.field-0-is);
  owes = λ lost. absurd (true≢false (sym lost));
  down = λ lost. absurd (true≢false (sym lost));
}

pub returns-else-is_stored : goal.returns-else-is_stored
returns-else-is_stored g c = record {
  ends = let area = g.K.Backend.mounted_on c.args.backend.now in
      let d : Device = g.F.Flash.device c.args.flash.now in
      let e : Device = g.F.Flash.device c.set.new.flash in
      let ends : SetEnds {T = Unit {0}} (g.K.Backend.room area (geometry_of d area)) area.sectors d e (on g.K.Backend.contents d area) (on g.K.Backend.contents e area) c.args.name.now c.args.value.now (Err SetTooMany) = rw c.in-Err-TooManyNames.field-0-is at c.in-Err-TooManyNames.ensures.ends in
      let same : e ≡ d = ends.1 in
      let other : is_idle (on g.K.Backend.contents e (g.K.Backend.mounted_on c.set.new.self)) (Put c.args.name.now c.args.value.now) ≡ false = sym c.is_stored.ensures ∙ c.if-is_stored.false in
      let own : is_idle (on g.K.Backend.contents d area) (Put c.args.name.now c.args.value.now) ≡ false =
      subst (λ (x : Device). is_idle (on g.K.Backend.contents x area) (Put c.args.name.now c.args.value.now) ≡ false) same
      (subst (λ a. is_idle (on g.K.Backend.contents e a) (Put c.args.name.now c.args.value.now) ≡ false) c.in-Err-TooManyNames.ensures.area other) in (
        0,
        set_refused (g.K.Backend.room area (geometry_of d area)) area.sectors (on g.K.Backend.chance e area) (g.K.Backend.tears area (geometry_of d area)) d e (on g.K.Backend.contents d area) (on g.K.Backend.contents e area) (Unit {0}) c.args.name.now c.args.value.now SetTooMany
            own ends (λ on lost. absurd (true≢false (sym lost))) (λ same. ap (λ (x : Device). on g.K.Backend.contents x area) same),
      );
  touches = subst (λ lost. Touches (g.K.Backend.mounted_on c.args.backend.now ∷ []) (g.F.Flash.device c.args.flash.now) (g.F.Flash.device c.set.new.flash) lost) (ap (λ (f : SetFault). set_lost {T = Unit {0}} (Err f)) c.in-Err-TooManyNames.field-0-is) c.in-Err-TooManyNames.ensures.touches;
  area = c.in-Err-TooManyNames.ensures.area;
  at_most = c.in-Err-TooManyNames.ensures.units.at_most;
  sound = c.in-Err-TooManyNames.ensures.sound;
  stands = λ kept. c.in-Err-TooManyNames.ensures.stands (ap (λ (f : SetFault). set_lost {T = Unit {0}} (Err f)) c.in-Err-TooManyNames.field-0-is);
  owes = λ lost. absurd (true≢false (sym lost));
  down = λ lost. absurd (true≢false (sym lost));
}

pub returns-in-Err-NoSpace : goal.returns-in-Err-NoSpace
returns-in-Err-NoSpace g c = record {
  ends = let area = g.K.Backend.mounted_on c.args.backend.now in
      let d : Device = g.F.Flash.device c.args.flash.now in
      let e : Device = g.F.Flash.device c.set.new.flash in
      let ends : SetEnds {T = Unit {0}} (g.K.Backend.room area (geometry_of d area)) area.sectors d e (on g.K.Backend.contents d area) (on g.K.Backend.contents e area) c.args.name.now c.args.value.now (Err (SetNoSpace c.in-Err-NoSpace.need c.in-Err-NoSpace.live)) = rw c.in-Err-NoSpace.field-0-is at c.in-Err-NoSpace.ensures.ends in
      set_full (g.K.Backend.room area (geometry_of d area)) area.sectors (on g.K.Backend.chance e area) (g.K.Backend.tears area (geometry_of d area)) d e (on g.K.Backend.contents d area) (on g.K.Backend.contents e area) (Unit {0}) c.args.name.now c.args.value.now
      c.in-Err-NoSpace.need c.in-Err-NoSpace.live ends (λ same. ap (λ (x : Device). on g.K.Backend.contents x area) same);
  touches = subst (λ lost. Touches (g.K.Backend.mounted_on c.args.backend.now ∷ []) (g.F.Flash.device c.args.flash.now) (g.F.Flash.device c.set.new.flash) lost) (ap (λ (f : SetFault). set_lost {T = Unit {0}} (Err f)) c.in-Err-NoSpace.field-0-is) c.in-Err-NoSpace.ensures.touches;
  area = c.in-Err-NoSpace.ensures.area;
  at_most = c.in-Err-NoSpace.ensures.units.at_most;
  sound = c.in-Err-NoSpace.ensures.sound;
  stands = λ kept. c.in-Err-NoSpace.ensures.stands (ap (λ (f : SetFault). set_lost {T = Unit {0}} (Err f)) c.in-Err-NoSpace.field-0-is);
  owes = λ lost. absurd (true≢false (sym lost));
  down = λ lost. absurd (true≢false (sym lost));
}

pub returns-in-Err-PowerLost : goal.returns-in-Err-PowerLost
returns-in-Err-PowerLost g c = record {
  ends = let area = g.K.Backend.mounted_on c.args.backend.now in
      let d : Device = g.F.Flash.device c.args.flash.now in
      let e : Device = g.F.Flash.device c.set.new.flash in
      let ends : SetEnds {T = Unit {0}} (g.K.Backend.room area (geometry_of d area)) area.sectors d e (on g.K.Backend.contents d area) (on g.K.Backend.contents e area) c.args.name.now c.args.value.now (Err SetLost) = rw c.in-Err-PowerLost.field-0-is at c.in-Err-PowerLost.ensures.ends in
      set_cut (g.K.Backend.room area (geometry_of d area)) area.sectors (on g.K.Backend.chance e area) (g.K.Backend.tears area (geometry_of d area)) d e (on g.K.Backend.contents d area) (on g.K.Backend.contents e area) (Unit {0}) c.args.name.now c.args.value.now
      ends (λ on. c.in-Err-PowerLost.ensures.cut on (ap (λ (f : SetFault). set_lost {T = Unit {0}} (Err f)) c.in-Err-PowerLost.field-0-is)) (λ same. ap (λ (x : Device). on g.K.Backend.contents x area) same);
  touches = subst (λ lost. Touches (g.K.Backend.mounted_on c.args.backend.now ∷ []) (g.F.Flash.device c.args.flash.now) (g.F.Flash.device c.set.new.flash) lost) (ap (λ (f : SetFault). set_lost {T = Unit {0}} (Err f)) c.in-Err-PowerLost.field-0-is) c.in-Err-PowerLost.ensures.touches;
  area = c.in-Err-PowerLost.ensures.area;
  at_most = c.in-Err-PowerLost.ensures.units.at_most;
  sound = c.in-Err-PowerLost.ensures.sound;
  stands = λ kept. absurd (true≢false kept);
  owes = λ lost.
      let area = g.K.Backend.mounted_on c.args.backend.now in
      leaves_boot g.K.Backend.owes g.K.Backend.boot_units (g.F.Flash.device c.args.flash.now) (g.F.Flash.device c.set.new.flash) area (g.K.Backend.mounted_on c.set.new.self) c.in-Err-PowerLost.ensures.touches.banks c.in-Err-PowerLost.ensures.area
      (c.in-Err-PowerLost.ensures.units.owes (ap (λ (f : SetFault). set_lost {T = Unit {0}} (Err f)) c.in-Err-PowerLost.field-0-is));
  down = λ lost. c.in-Err-PowerLost.ensures.down (ap (λ (f : SetFault). set_lost {T = Unit {0}} (Err f)) c.in-Err-PowerLost.field-0-is);
}

pub set-requires : goal.set-requires
set-requires g c = record {
  lawful = c.requires.lawful;
  stands = c.requires.stands;
  some = c.requires.some;
  short = c.requires.short;
}

pub is_stored-requires : goal.is_stored-requires
is_stored-requires g c = record {
  lawful = let d : Device = g.F.Flash.device c.args.flash.now in
      let e : Device = g.F.Flash.device c.set.new.flash in
      subst (λ a. IsLawfulFor e.banks a) (sym c.in-Err-TooManyNames.ensures.area)
      (subst (λ (banks : List Bank). IsLawfulFor banks (g.K.Backend.mounted_on c.args.backend.now)) (sym c.in-Err-TooManyNames.ensures.touches.banks) c.requires.lawful);
  stands = c.in-Err-TooManyNames.ensures.stands (ap (λ (f : SetFault). set_lost {T = Unit {0}} (Err f)) c.in-Err-TooManyNames.field-0-is);
}
