-- each arm is what the store for the area's role says of its call
use Rattle.std.specs.Prelude.{is_err, ◌≡◌, None}
use Rattle.std.proofs.Common.{true, [], ◌∷◌, ◌∙◌, sym, ap, subst}
use Rattle.flash_sim.specs.Device.{Device}
use Rattle.flash_map.specs.declared.area.Area.{Area}
use Rattle.flash_map.specs.declared.area.Role.{Role}
use Rattle.flash_map.specs.declared.area.Role.TheVariants.{Fcb as FcbRole}
use Rattle.flash_map.specs.Area.{geometry_of, sectors_of}
use Rattle.flash_map.specs.Lawful.{IsLawfulFor}
use Rattle.flash_map.specs.Touches.{Touches}
use Rattle.backend_api.specs.Commands.{StopsAt}
use Rattle.backend_api.specs.Commands.Command.{Del}
use Rattle.backend_api.specs.Ends.{DeleteEnds}
use Rattle.backend_api.specs.Room.{command_units}
use Rattle.backend_api.specs.Written.{StaysWritten}
use Rattle.any_backend.specs.declared.backend.AnyBackend.{AnyBackend}
use Rattle.any_backend.specs.declared.backend.AnyBackend.TheVariants.{Nvs, Zms, Fcb}
use Rattle.any_backend.specs.ByRole.{boot_as, owes_as, chance_as, contents_as, damage_as, tears_as}
use Rattle.any_backend.specs.Standing.{area_of, Stands}
use Rattle.flash_map.specs.Spending.{SpendsAtMost}
use Rattle.any_backend.proofs.backend.AnyBackendBackend.delete.Goals as goal

pub delete-requires-clause-lawful : goal.delete-requires-clause-lawful
delete-requires-clause-lawful g c =
    let d : Device = g.F.Flash.device c.args.flash.now in
    subst (λ (s : AnyBackend). IsLawfulFor d.banks (area_of s)) c.in-Nvs.is c.requires.lawful

pub delete-requires-clause-stands : goal.delete-requires-clause-stands
delete-requires-clause-stands g c =
    let d : Device = g.F.Flash.device c.args.flash.now in
    subst (λ (s : AnyBackend). Stands s (geometry_of d (area_of s)) (sectors_of d (area_of s))) c.in-Nvs.is c.requires.stands

pub returns-in-Nvs-clause-touches : goal.returns-in-Nvs-clause-touches
returns-in-Nvs-clause-touches g c =
    let d : Device = g.F.Flash.device c.args.flash.now in
    let e : Device = g.F.Flash.device c.delete.new.flash in
    subst (λ (s : AnyBackend). Touches (area_of s ∷ []) d e (is_err c.delete.result)) (sym c.in-Nvs.is) c.delete.ensures.touches

pub returns-in-Nvs-clause-area : goal.returns-in-Nvs-clause-area
returns-in-Nvs-clause-area g c = c.delete.ensures.area ∙ sym (ap area_of c.in-Nvs.is)

pub returns-in-Nvs-clause-ends : goal.returns-in-Nvs-clause-ends
returns-in-Nvs-clause-ends g c =
    let d : Device = g.F.Flash.device c.args.flash.now in
    let e : Device = g.F.Flash.device c.delete.new.flash in
    let here : Area = c.in-Nvs.backend.store.store.area in
    let stands : Stands (Nvs c.in-Nvs.backend) (geometry_of d here) (sectors_of d here) =
    subst (λ (s : AnyBackend). Stands s (geometry_of d (area_of s)) (sectors_of d (area_of s))) c.in-Nvs.is c.requires.stands in
    subst (λ (s : AnyBackend). DeleteEnds d e (contents_as (area_of s).role (area_of s) (geometry_of d (area_of s)) (sectors_of d (area_of s))) (contents_as (area_of s).role (area_of s) (geometry_of e (area_of s)) (sectors_of e (area_of s))) c.args.name.now c.delete.result) (sym c.in-Nvs.is)
    (subst (λ (r : Role). DeleteEnds d e (contents_as r here (geometry_of d here) (sectors_of d here)) (contents_as r here (geometry_of e here) (sectors_of e here)) c.args.name.now c.delete.result) (sym stands.store.role) c.delete.ensures.ends)

pub returns-in-Nvs-clause-units : goal.returns-in-Nvs-clause-units
returns-in-Nvs-clause-units g c =
    let d : Device = g.F.Flash.device c.args.flash.now in
    let e : Device = g.F.Flash.device c.delete.new.flash in
    let here : Area = c.in-Nvs.backend.store.store.area in
    let stands : Stands (Nvs c.in-Nvs.backend) (geometry_of d here) (sectors_of d here) =
    subst (λ (s : AnyBackend). Stands s (geometry_of d (area_of s)) (sectors_of d (area_of s))) c.in-Nvs.is c.requires.stands in
    record {
      at_most = subst (λ (s : AnyBackend). SpendsAtMost d e (command_units (geometry_of d (area_of s)))) (sym c.in-Nvs.is) c.delete.ensures.units.at_most;
      owes = λ lost.
          subst (λ (s : AnyBackend). owes_as (area_of s).role (area_of s) (geometry_of e (area_of s)) (sectors_of e (area_of s)) (boot_as (area_of s).role (area_of s) (geometry_of d (area_of s)))) (sym c.in-Nvs.is)
          (subst (λ (r : Role). owes_as r here (geometry_of e here) (sectors_of e here) (boot_as r here (geometry_of d here))) (sym stands.store.role) (c.delete.ensures.units.owes lost));
    }

pub returns-in-Nvs-clause-sound : goal.returns-in-Nvs-clause-sound
returns-in-Nvs-clause-sound g c =
    let d : Device = g.F.Flash.device c.args.flash.now in
    let e : Device = g.F.Flash.device c.delete.new.flash in
    let here : Area = c.in-Nvs.backend.store.store.area in
    let stands : Stands (Nvs c.in-Nvs.backend) (geometry_of d here) (sectors_of d here) =
    subst (λ (s : AnyBackend). Stands s (geometry_of d (area_of s)) (sectors_of d (area_of s))) c.in-Nvs.is c.requires.stands in
    subst (λ (s : AnyBackend). damage_as (area_of s).role (area_of s) (geometry_of e (area_of s)) (sectors_of e (area_of s)) ≡ None) (sym c.in-Nvs.is)
    (subst (λ (r : Role). damage_as r here (geometry_of e here) (sectors_of e here) ≡ None) (sym stands.store.role) c.delete.ensures.sound)

pub returns-in-Nvs-clause-cut : goal.returns-in-Nvs-clause-cut
returns-in-Nvs-clause-cut g c =
    let d : Device = g.F.Flash.device c.args.flash.now in
    let e : Device = g.F.Flash.device c.delete.new.flash in
    let here : Area = c.in-Nvs.backend.store.store.area in
    let stands : Stands (Nvs c.in-Nvs.backend) (geometry_of d here) (sectors_of d here) =
    subst (λ (s : AnyBackend). Stands s (geometry_of d (area_of s)) (sectors_of d (area_of s))) c.in-Nvs.is c.requires.stands in
    subst (λ (s : AnyBackend). d.is_on ≡ true → is_err c.delete.result ≡ true → StopsAt (chance_as (area_of s).role (area_of s) (geometry_of e (area_of s)) (sectors_of e (area_of s))) (tears_as (area_of s).role (area_of s) (geometry_of d (area_of s)) (Del c.args.name.now)) (Del c.args.name.now) e (contents_as (area_of s).role (area_of s) (geometry_of d (area_of s)) (sectors_of d (area_of s))) (contents_as (area_of s).role (area_of s) (geometry_of e (area_of s)) (sectors_of e (area_of s)))) (sym c.in-Nvs.is)
    (subst (λ (r : Role). d.is_on ≡ true → is_err c.delete.result ≡ true → StopsAt (chance_as r here (geometry_of e here) (sectors_of e here)) (tears_as r here (geometry_of d here) (Del c.args.name.now)) (Del c.args.name.now) e (contents_as r here (geometry_of d here) (sectors_of d here)) (contents_as r here (geometry_of e here) (sectors_of e here))) (sym stands.store.role) c.delete.ensures.cut)

pub returns-in-Nvs-clause-stands : goal.returns-in-Nvs-clause-stands
returns-in-Nvs-clause-stands g c = c.delete.ensures.stands

pub returns-in-Nvs-clause-down : goal.returns-in-Nvs-clause-down
returns-in-Nvs-clause-down g c = c.delete.ensures.down

pub delete-requires-in-Zms-clause-lawful : goal.delete-requires-in-Zms-clause-lawful
delete-requires-in-Zms-clause-lawful g c =
    let d : Device = g.F.Flash.device c.args.flash.now in
    subst (λ (s : AnyBackend). IsLawfulFor d.banks (area_of s)) c.in-Zms.is c.requires.lawful

pub delete-requires-in-Zms-clause-stands : goal.delete-requires-in-Zms-clause-stands
delete-requires-in-Zms-clause-stands g c =
    let d : Device = g.F.Flash.device c.args.flash.now in
    subst (λ (s : AnyBackend). Stands s (geometry_of d (area_of s)) (sectors_of d (area_of s))) c.in-Zms.is c.requires.stands

pub returns-in-Zms-clause-touches : goal.returns-in-Zms-clause-touches
returns-in-Zms-clause-touches g c =
    let d : Device = g.F.Flash.device c.args.flash.now in
    let e : Device = g.F.Flash.device c.delete-in-Zms.new.flash in
    subst (λ (s : AnyBackend). Touches (area_of s ∷ []) d e (is_err c.delete-in-Zms.result)) (sym c.in-Zms.is) c.delete-in-Zms.ensures.touches

pub returns-in-Zms-clause-area : goal.returns-in-Zms-clause-area
returns-in-Zms-clause-area g c = c.delete-in-Zms.ensures.area ∙ sym (ap area_of c.in-Zms.is)

pub returns-in-Zms-clause-ends : goal.returns-in-Zms-clause-ends
returns-in-Zms-clause-ends g c =
    let d : Device = g.F.Flash.device c.args.flash.now in
    let e : Device = g.F.Flash.device c.delete-in-Zms.new.flash in
    let here : Area = c.in-Zms.backend.store.store.area in
    let stands : Stands (Zms c.in-Zms.backend) (geometry_of d here) (sectors_of d here) =
    subst (λ (s : AnyBackend). Stands s (geometry_of d (area_of s)) (sectors_of d (area_of s))) c.in-Zms.is c.requires.stands in
    subst (λ (s : AnyBackend). DeleteEnds d e (contents_as (area_of s).role (area_of s) (geometry_of d (area_of s)) (sectors_of d (area_of s))) (contents_as (area_of s).role (area_of s) (geometry_of e (area_of s)) (sectors_of e (area_of s))) c.args.name.now c.delete-in-Zms.result) (sym c.in-Zms.is)
    (subst (λ (r : Role). DeleteEnds d e (contents_as r here (geometry_of d here) (sectors_of d here)) (contents_as r here (geometry_of e here) (sectors_of e here)) c.args.name.now c.delete-in-Zms.result) (sym stands.store.role) c.delete-in-Zms.ensures.ends)

pub returns-in-Zms-clause-units : goal.returns-in-Zms-clause-units
returns-in-Zms-clause-units g c =
    let d : Device = g.F.Flash.device c.args.flash.now in
    let e : Device = g.F.Flash.device c.delete-in-Zms.new.flash in
    let here : Area = c.in-Zms.backend.store.store.area in
    let stands : Stands (Zms c.in-Zms.backend) (geometry_of d here) (sectors_of d here) =
    subst (λ (s : AnyBackend). Stands s (geometry_of d (area_of s)) (sectors_of d (area_of s))) c.in-Zms.is c.requires.stands in
    record {
      at_most = subst (λ (s : AnyBackend). SpendsAtMost d e (command_units (geometry_of d (area_of s)))) (sym c.in-Zms.is) c.delete-in-Zms.ensures.units.at_most;
      owes = λ lost.
          subst (λ (s : AnyBackend). owes_as (area_of s).role (area_of s) (geometry_of e (area_of s)) (sectors_of e (area_of s)) (boot_as (area_of s).role (area_of s) (geometry_of d (area_of s)))) (sym c.in-Zms.is)
          (subst (λ (r : Role). owes_as r here (geometry_of e here) (sectors_of e here) (boot_as r here (geometry_of d here))) (sym stands.store.role) (c.delete-in-Zms.ensures.units.owes lost));
    }

pub returns-in-Zms-clause-sound : goal.returns-in-Zms-clause-sound
returns-in-Zms-clause-sound g c =
    let d : Device = g.F.Flash.device c.args.flash.now in
    let e : Device = g.F.Flash.device c.delete-in-Zms.new.flash in
    let here : Area = c.in-Zms.backend.store.store.area in
    let stands : Stands (Zms c.in-Zms.backend) (geometry_of d here) (sectors_of d here) =
    subst (λ (s : AnyBackend). Stands s (geometry_of d (area_of s)) (sectors_of d (area_of s))) c.in-Zms.is c.requires.stands in
    subst (λ (s : AnyBackend). damage_as (area_of s).role (area_of s) (geometry_of e (area_of s)) (sectors_of e (area_of s)) ≡ None) (sym c.in-Zms.is)
    (subst (λ (r : Role). damage_as r here (geometry_of e here) (sectors_of e here) ≡ None) (sym stands.store.role) c.delete-in-Zms.ensures.sound)

pub returns-in-Zms-clause-cut : goal.returns-in-Zms-clause-cut
returns-in-Zms-clause-cut g c =
    let d : Device = g.F.Flash.device c.args.flash.now in
    let e : Device = g.F.Flash.device c.delete-in-Zms.new.flash in
    let here : Area = c.in-Zms.backend.store.store.area in
    let stands : Stands (Zms c.in-Zms.backend) (geometry_of d here) (sectors_of d here) =
    subst (λ (s : AnyBackend). Stands s (geometry_of d (area_of s)) (sectors_of d (area_of s))) c.in-Zms.is c.requires.stands in
    subst (λ (s : AnyBackend). d.is_on ≡ true → is_err c.delete-in-Zms.result ≡ true → StopsAt (chance_as (area_of s).role (area_of s) (geometry_of e (area_of s)) (sectors_of e (area_of s))) (tears_as (area_of s).role (area_of s) (geometry_of d (area_of s)) (Del c.args.name.now)) (Del c.args.name.now) e (contents_as (area_of s).role (area_of s) (geometry_of d (area_of s)) (sectors_of d (area_of s))) (contents_as (area_of s).role (area_of s) (geometry_of e (area_of s)) (sectors_of e (area_of s)))) (sym c.in-Zms.is)
    (subst (λ (r : Role). d.is_on ≡ true → is_err c.delete-in-Zms.result ≡ true → StopsAt (chance_as r here (geometry_of e here) (sectors_of e here)) (tears_as r here (geometry_of d here) (Del c.args.name.now)) (Del c.args.name.now) e (contents_as r here (geometry_of d here) (sectors_of d here)) (contents_as r here (geometry_of e here) (sectors_of e here))) (sym stands.store.role) c.delete-in-Zms.ensures.cut)

pub returns-in-Zms-clause-stands : goal.returns-in-Zms-clause-stands
returns-in-Zms-clause-stands g c = c.delete-in-Zms.ensures.stands

pub returns-in-Zms-clause-down : goal.returns-in-Zms-clause-down
returns-in-Zms-clause-down g c = c.delete-in-Zms.ensures.down

pub delete-requires-in-Fcb-clause-lawful : goal.delete-requires-in-Fcb-clause-lawful
delete-requires-in-Fcb-clause-lawful g c =
    let d : Device = g.F.Flash.device c.args.flash.now in
    subst (λ (s : AnyBackend). IsLawfulFor d.banks (area_of s)) c.in-Fcb.is c.requires.lawful

pub delete-requires-in-Fcb-clause-stands : goal.delete-requires-in-Fcb-clause-stands
delete-requires-in-Fcb-clause-stands g c =
    let d : Device = g.F.Flash.device c.args.flash.now in
    subst (λ (s : AnyBackend). Stands s (geometry_of d (area_of s)) (sectors_of d (area_of s))) c.in-Fcb.is c.requires.stands

pub returns-in-Fcb-clause-touches : goal.returns-in-Fcb-clause-touches
returns-in-Fcb-clause-touches g c =
    let d : Device = g.F.Flash.device c.args.flash.now in
    let e : Device = g.F.Flash.device c.delete-in-Fcb.new.flash in
    subst (λ (s : AnyBackend). Touches (area_of s ∷ []) d e (is_err c.delete-in-Fcb.result)) (sym c.in-Fcb.is) c.delete-in-Fcb.ensures.touches

pub returns-in-Fcb-clause-area : goal.returns-in-Fcb-clause-area
returns-in-Fcb-clause-area g c = c.delete-in-Fcb.ensures.area ∙ sym (ap area_of c.in-Fcb.is)

pub returns-in-Fcb-clause-ends : goal.returns-in-Fcb-clause-ends
returns-in-Fcb-clause-ends g c =
    let d : Device = g.F.Flash.device c.args.flash.now in
    let e : Device = g.F.Flash.device c.delete-in-Fcb.new.flash in
    let here : Area = c.in-Fcb.backend.ring.area in
    let stands : Stands (Fcb c.in-Fcb.backend) (geometry_of d here) (sectors_of d here) =
    subst (λ (s : AnyBackend). Stands s (geometry_of d (area_of s)) (sectors_of d (area_of s))) c.in-Fcb.is c.requires.stands in
    subst (λ (s : AnyBackend). DeleteEnds d e (contents_as (area_of s).role (area_of s) (geometry_of d (area_of s)) (sectors_of d (area_of s))) (contents_as (area_of s).role (area_of s) (geometry_of e (area_of s)) (sectors_of e (area_of s))) c.args.name.now c.delete-in-Fcb.result) (sym c.in-Fcb.is)
    (subst (λ (r : Role). DeleteEnds d e (contents_as r here (geometry_of d here) (sectors_of d here)) (contents_as r here (geometry_of e here) (sectors_of e here)) c.args.name.now c.delete-in-Fcb.result) (sym stands.role) c.delete-in-Fcb.ensures.ends)

pub returns-in-Fcb-clause-units : goal.returns-in-Fcb-clause-units
returns-in-Fcb-clause-units g c =
    let d : Device = g.F.Flash.device c.args.flash.now in
    let e : Device = g.F.Flash.device c.delete-in-Fcb.new.flash in
    let here : Area = c.in-Fcb.backend.ring.area in
    let stands : Stands (Fcb c.in-Fcb.backend) (geometry_of d here) (sectors_of d here) =
    subst (λ (s : AnyBackend). Stands s (geometry_of d (area_of s)) (sectors_of d (area_of s))) c.in-Fcb.is c.requires.stands in
    record {
      at_most = subst (λ (s : AnyBackend). SpendsAtMost d e (command_units (geometry_of d (area_of s)))) (sym c.in-Fcb.is) c.delete-in-Fcb.ensures.spends.units.at_most;
      owes = λ lost.
          subst (λ (s : AnyBackend). owes_as (area_of s).role (area_of s) (geometry_of e (area_of s)) (sectors_of e (area_of s)) (boot_as (area_of s).role (area_of s) (geometry_of d (area_of s)))) (sym c.in-Fcb.is)
          (subst (λ (r : Role). owes_as r here (geometry_of e here) (sectors_of e here) (boot_as r here (geometry_of d here))) (sym stands.role) (c.delete-in-Fcb.ensures.spends.units.owes lost));
    }

pub returns-in-Fcb-clause-sound : goal.returns-in-Fcb-clause-sound
returns-in-Fcb-clause-sound g c =
    let d : Device = g.F.Flash.device c.args.flash.now in
    let e : Device = g.F.Flash.device c.delete-in-Fcb.new.flash in
    let here : Area = c.in-Fcb.backend.ring.area in
    let stands : Stands (Fcb c.in-Fcb.backend) (geometry_of d here) (sectors_of d here) =
    subst (λ (s : AnyBackend). Stands s (geometry_of d (area_of s)) (sectors_of d (area_of s))) c.in-Fcb.is c.requires.stands in
    subst (λ (s : AnyBackend). damage_as (area_of s).role (area_of s) (geometry_of e (area_of s)) (sectors_of e (area_of s)) ≡ None) (sym c.in-Fcb.is)
    (subst (λ (r : Role). damage_as r here (geometry_of e here) (sectors_of e here) ≡ None) (sym stands.role) c.delete-in-Fcb.ensures.sound)

pub returns-in-Fcb-clause-cut : goal.returns-in-Fcb-clause-cut
returns-in-Fcb-clause-cut g c =
    let d : Device = g.F.Flash.device c.args.flash.now in
    let e : Device = g.F.Flash.device c.delete-in-Fcb.new.flash in
    let here : Area = c.in-Fcb.backend.ring.area in
    let stands : Stands (Fcb c.in-Fcb.backend) (geometry_of d here) (sectors_of d here) =
    subst (λ (s : AnyBackend). Stands s (geometry_of d (area_of s)) (sectors_of d (area_of s))) c.in-Fcb.is c.requires.stands in
    subst (λ (s : AnyBackend). d.is_on ≡ true → is_err c.delete-in-Fcb.result ≡ true → StopsAt (chance_as (area_of s).role (area_of s) (geometry_of e (area_of s)) (sectors_of e (area_of s))) (tears_as (area_of s).role (area_of s) (geometry_of d (area_of s)) (Del c.args.name.now)) (Del c.args.name.now) e (contents_as (area_of s).role (area_of s) (geometry_of d (area_of s)) (sectors_of d (area_of s))) (contents_as (area_of s).role (area_of s) (geometry_of e (area_of s)) (sectors_of e (area_of s)))) (sym c.in-Fcb.is)
    (subst (λ (r : Role). d.is_on ≡ true → is_err c.delete-in-Fcb.result ≡ true → StopsAt (chance_as r here (geometry_of e here) (sectors_of e here)) (tears_as r here (geometry_of d here) (Del c.args.name.now)) (Del c.args.name.now) e (contents_as r here (geometry_of d here) (sectors_of d here)) (contents_as r here (geometry_of e here) (sectors_of e here))) (sym stands.role) c.delete-in-Fcb.ensures.cut)

pub returns-in-Fcb-clause-stands : goal.returns-in-Fcb-clause-stands
returns-in-Fcb-clause-stands g c = c.delete-in-Fcb.ensures.stands

pub returns-in-Fcb-clause-down : goal.returns-in-Fcb-clause-down
returns-in-Fcb-clause-down g c = c.delete-in-Fcb.ensures.down

pub returns-in-Nvs-clause-written : goal.returns-in-Nvs-clause-written
returns-in-Nvs-clause-written g c =
    let d : Device = g.F.Flash.device c.args.flash.now in
    let e : Device = g.F.Flash.device c.delete.new.flash in
    subst (λ (s : AnyBackend). ((area_of s).role ≡ FcbRole → ⊥) → StaysWritten d e (area_of s)) (sym c.in-Nvs.is) c.delete.ensures.written

pub returns-in-Zms-clause-written : goal.returns-in-Zms-clause-written
returns-in-Zms-clause-written g c =
    let d : Device = g.F.Flash.device c.args.flash.now in
    let e : Device = g.F.Flash.device c.delete-in-Zms.new.flash in
    subst (λ (s : AnyBackend). ((area_of s).role ≡ FcbRole → ⊥) → StaysWritten d e (area_of s)) (sym c.in-Zms.is) c.delete-in-Zms.ensures.written

pub returns-in-Fcb-clause-written : goal.returns-in-Fcb-clause-written
returns-in-Fcb-clause-written g c =
    let d : Device = g.F.Flash.device c.args.flash.now in
    let e : Device = g.F.Flash.device c.delete-in-Fcb.new.flash in
    subst (λ (s : AnyBackend). ((area_of s).role ≡ FcbRole → ⊥) → StaysWritten d e (area_of s)) (sym c.in-Fcb.is) c.delete-in-Fcb.ensures.written
