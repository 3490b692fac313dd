use Rattle.std.specs.Prelude.{None}
use Rattle.std.specs.FinMap.{insert}
use Rattle.std.proofs.Common.{◌≡◌, ◌≤◌, ◌∙◌, List, length, [], ◌∷◌, Err, true, false, refl, sym, ap, subst}
use Rattle.std.proofs.lemmas.Bool.{false≢true}
use Rattle.flash_sim.specs.declared.flash.Bank.{Bank}
use Rattle.flash_map.specs.Area.{geometry_of, value_limit}
use Rattle.flash_map.specs.On.{on}
use Rattle.flash_map.specs.Touches.{Touches}
use Rattle.flash_map.specs.declared.area.Area.{Area}
use Rattle.flash_map.specs.Lawful.{IsLawfulFor}
use Rattle.backend_api.specs.Boot.{CommandUnits}
use Rattle.backend_api.specs.Ends.{SetEndsOn, set_lost}
use Rattle.backend_api.specs.Map.{IsStored}
use Rattle.backend_api.specs.Room.{command_units}
use Rattle.backend_api.specs.declared.backend.SetFault.{SetFault}
use Rattle.mirror.specs.Mirrored.{IsDone}
use Rattle.mirror.specs.Room.{too_many_on}
use Rattle.mirror.proofs.sides.put.Goals as goal

pub set-requires-clause-lawful : goal.set-requires-clause-lawful
set-requires-clause-lawful g c = subst (λ (x : Area). IsLawfulFor (g.F.Flash.device c.args.flash.now).banks x) (sym c.requires.stands.here) c.requires.stands.lawful

pub set-requires-clause-short : goal.set-requires-clause-short
set-requires-clause-short g c = subst (λ (x : Area). length c.args.value.now ≤ value_limit x) (sym c.requires.stands.here) c.requires.short

pub set-requires-clause-stands : goal.set-requires-clause-stands
set-requires-clause-stands g c = c.requires.stands.up

pub set-requires-clause-some : goal.set-requires-clause-some
set-requires-clause-some g c = c.requires.some

pub returns-in-Ok-clause-touches : goal.returns-in-Ok-clause-touches
returns-in-Ok-clause-touches g c =
    let d = g.F.Flash.device c.args.flash.now in
    let e = g.F.Flash.device c.set.new.flash in
    subst (λ (x : Area). Touches (x ∷ []) d e false) c.requires.stands.here c.in-Ok.ensures.touches

pub returns-in-Ok-clause-same : goal.returns-in-Ok-clause-same
returns-in-Ok-clause-same g c = record { area = refl; place = refl }

pub returns-in-Ok-clause-ends : goal.returns-in-Ok-clause-ends
returns-in-Ok-clause-ends g c =
    let d = g.F.Flash.device c.args.flash.now in
    let e = g.F.Flash.device c.set.new.flash in
    let contents = g.K.Backend.contents in
    let ends = c.in-Ok.ensures.ends in
    subst (λ (x : Area). IsDone contents d e x (IsStored (on contents d x) c.args.name.now c.args.value.now) (insert (on contents d x) c.args.name.now c.args.value.now)) c.requires.stands.here
    (record { settings = ends.settings; idle = ends.same; spends = ends.spends })

pub returns-in-Ok-clause-units : goal.returns-in-Ok-clause-units
returns-in-Ok-clause-units g c =
    let d = g.F.Flash.device c.args.flash.now in
    let e = g.F.Flash.device c.set.new.flash in
    subst (λ (x : Area). CommandUnits g.K.Backend.owes (g.K.Backend.boot_units x (geometry_of d x)) (command_units (geometry_of d x)) d e x false) c.requires.stands.here c.in-Ok.ensures.units

pub returns-in-Ok-clause-sound : goal.returns-in-Ok-clause-sound
returns-in-Ok-clause-sound g c =
    let e = g.F.Flash.device c.set.new.flash in
    subst (λ (x : Area). on g.K.Backend.damage e x ≡ None) c.requires.stands.here c.in-Ok.ensures.sound

pub returns-in-Ok-clause-stands : goal.returns-in-Ok-clause-stands
returns-in-Ok-clause-stands g c = λ _. record {
  lawful = subst (λ (banks : List Bank). IsLawfulFor banks c.args.side.now.area) (sym c.in-Ok.ensures.touches.banks) c.requires.stands.lawful;
  role = c.requires.stands.role;
  here = c.in-Ok.ensures.area ∙ c.requires.stands.here;
  up = c.in-Ok.ensures.stands refl;
}

pub returns-in-Err-PowerLost-clause-same : goal.returns-in-Err-PowerLost-clause-same
returns-in-Err-PowerLost-clause-same g c = record { area = refl; place = refl }

pub returns-in-Err-PowerLost-clause-touches : goal.returns-in-Err-PowerLost-clause-touches
returns-in-Err-PowerLost-clause-touches g c =
    let d = g.F.Flash.device c.args.flash.now in
    let e = g.F.Flash.device c.set.new.flash in
    subst (λ (x : Area). Touches (x ∷ []) d e true) c.requires.stands.here (subst (λ (w : SetFault). Touches (g.K.Backend.mounted_on c.args.side.now.store ∷ []) d e (set_lost {T = Unit {0}} (Err w))) c.in-Err-PowerLost.field-0-is c.in-Err-PowerLost.ensures.touches)

pub returns-in-Err-PowerLost-clause-units : goal.returns-in-Err-PowerLost-clause-units
returns-in-Err-PowerLost-clause-units g c =
    let d = g.F.Flash.device c.args.flash.now in
    let e = g.F.Flash.device c.set.new.flash in
    let here = g.K.Backend.mounted_on c.args.side.now.store in
    subst (λ (x : Area). CommandUnits g.K.Backend.owes (g.K.Backend.boot_units x (geometry_of d x)) (command_units (geometry_of d x)) d e x true) c.requires.stands.here
    (subst (λ (w : SetFault). CommandUnits g.K.Backend.owes (g.K.Backend.boot_units here (geometry_of d here)) (command_units (geometry_of d here)) d e here (set_lost {T = Unit {0}} (Err w))) c.in-Err-PowerLost.field-0-is c.in-Err-PowerLost.ensures.units)

pub returns-in-Err-PowerLost-clause-sound : goal.returns-in-Err-PowerLost-clause-sound
returns-in-Err-PowerLost-clause-sound g c =
    let e = g.F.Flash.device c.set.new.flash in
    subst (λ (x : Area). on g.K.Backend.damage e x ≡ None) c.requires.stands.here c.in-Err-PowerLost.ensures.sound

pub returns-in-Err-PowerLost-clause-down : goal.returns-in-Err-PowerLost-clause-down
returns-in-Err-PowerLost-clause-down g c = λ _. c.in-Err-PowerLost.ensures.down (ap (λ (w : SetFault). set_lost {T = Unit {0}} (Err w)) c.in-Err-PowerLost.field-0-is)

pub unreachable-requires : goal.unreachable-requires
unreachable-requires g c =
    let d = g.F.Flash.device c.args.flash.now in
    let e = g.F.Flash.device c.set.new.flash in
    let here = g.K.Backend.mounted_on c.args.side.now.store in
    let many = subst (λ (w : SetFault). SetEndsOn {T = Unit {0}} g.K.Backend.room g.K.Backend.contents d e here c.args.name.now c.args.value.now (Err w)) c.in-Err-TooManyNames.field-0-is c.in-Err-TooManyNames.ensures.ends in
    false≢true (sym c.requires.few ∙ subst (λ (x : Area). too_many_on g.K.Backend.room d x (on g.K.Backend.contents d x) c.args.name.now ≡ true) c.requires.stands.here many.0)
