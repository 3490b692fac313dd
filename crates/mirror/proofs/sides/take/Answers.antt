use Rattle.std.specs.Prelude.{◌≡◌, ◌∷◌, [], List, None, is_err}
use Rattle.std.proofs.Common.{◌∙◌, refl, sym, subst}
use Rattle.flash_sim.specs.declared.flash.Bank.{Bank}
use Rattle.flash_map.specs.Area.{geometry_of}
use Rattle.flash_map.specs.On.{on}
use Rattle.flash_map.specs.Touches.{Touches}
use Rattle.flash_map.specs.declared.area.Area.{Area}
use Rattle.flash_map.specs.declared.area.Role.TheVariants.{Fcb as FcbRole}
use Rattle.flash_map.specs.Lawful.{IsLawfulFor}
use Rattle.backend_api.specs.Boot.{CommandUnits}
use Rattle.backend_api.specs.Room.{command_units}
use Rattle.backend_api.specs.Written.{StaysWritten}
use Rattle.mirror.proofs.SideSteps.{not-records}
use Rattle.mirror.proofs.sides.take.Goals as goal

pub delete-requires-clause-lawful : goal.delete-requires-clause-lawful
delete-requires-clause-lawful g c = subst (λ (x : Area). IsLawfulFor (g.F.Flash.device c.args.flash.now).banks x) (sym c.requires.stands.here) c.requires.stands.lawful

pub returns-clause-touches : goal.returns-clause-touches
returns-clause-touches g c =
    let d = g.F.Flash.device c.args.flash.now in
    let e = g.F.Flash.device c.delete.new.flash in
    subst (λ (x : Area). Touches (x ∷ []) d e (is_err c.delete.result)) c.requires.stands.here c.delete.ensures.touches

pub returns-clause-same : goal.returns-clause-same
returns-clause-same g c = record { area = refl; place = refl }

pub returns-clause-units : goal.returns-clause-units
returns-clause-units g c =
    let d = g.F.Flash.device c.args.flash.now in
    let e = g.F.Flash.device c.delete.new.flash in
    subst (λ (x : Area). CommandUnits g.K.Backend.owes (g.K.Backend.boot_units x (geometry_of d x)) (command_units (geometry_of d x)) d e x (is_err c.delete.result)) c.requires.stands.here c.delete.ensures.units

pub returns-clause-sound : goal.returns-clause-sound
returns-clause-sound g c =
    let e = g.F.Flash.device c.delete.new.flash in
    subst (λ (x : Area). on g.K.Backend.damage e x ≡ None) c.requires.stands.here c.delete.ensures.sound

pub returns-clause-stands : goal.returns-clause-stands
returns-clause-stands g c = λ whole. record {
  lawful = subst (λ (banks : List Bank). IsLawfulFor banks c.args.side.now.area) (sym c.delete.ensures.touches.banks) c.requires.stands.lawful;
  role = c.requires.stands.role;
  here = c.delete.ensures.area ∙ c.requires.stands.here;
  up = c.delete.ensures.stands whole;
}

pub returns-clause-down : goal.returns-clause-down
returns-clause-down g c = c.delete.ensures.down

pub returns-clause-written : goal.returns-clause-written
returns-clause-written g c =
    let d = g.F.Flash.device c.args.flash.now in
    let e = g.F.Flash.device c.delete.new.flash in
    subst (λ (x : Area). (x.role ≡ FcbRole → ⊥) → StaysWritten d e x) c.requires.stands.here c.delete.ensures.written (not-records c.args.side.now.area c.requires.stands.role)
