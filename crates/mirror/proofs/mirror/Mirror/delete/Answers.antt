use Rattle.std.proofs.Common.{true, false, is_err, refl, sym, ap, ◌∙◌}
use Rattle.std.specs.List.{list_all}
use Rattle.flash_sim.specs.Device.{Device}
use Rattle.flash_map.specs.Area.{geometry_of}
use Rattle.flash_map.specs.Units.{is_erased}
use Rattle.flash_map.proofs.Touches.{first_of_two, second_of_two, then}
use Rattle.backend_api.specs.Room.{command_units}
use Rattle.mirror.proofs.BothSteps.{most-both-on, most-first}
use Rattle.mirror.proofs.MirrorEnds.{back, delete-ends, delete-mirror, first-cut, other-stands, removed-fit}
use Rattle.mirror.proofs.OwingSteps.{first-owes, second-owes}
use Rattle.mirror.proofs.mirror.Mirror.delete.Goals as goal

pub returns-in-Err-clause-touches : goal.returns-in-Err-clause-touches
returns-in-Err-clause-touches g c = first_of_two c.in-Err.ensures.touches

pub returns-in-Err-clause-ends : goal.returns-in-Err-clause-ends
returns-in-Err-clause-ends g c =
    let d : Device = g.F.Flash.device c.args.flash.now in
    let m : Device = g.F.Flash.device c.take.new.flash in (
      c.in-Err.ensures.ends.some,
      first-cut g.K.Backend.mounted_on g.K.Backend.stands g.K.Backend.damage g.K.Backend.contents g.K.Backend.room g.K.Priced.prices d c.args.self.now.trusted c.args.self.now.other c.requires.mirrors (g.met.F.Flash.is_lawful c.args.flash.now) g.met.K.Backend.stands_reads m _ _ true (g.met.F.Flash.is_lawful c.take.new.flash) c.in-Err.ensures.touches c.in-Err.ensures.sound c.in-Err.ensures.ends,
      removed-fit g.K.Backend.mounted_on g.K.Backend.stands g.K.Backend.damage g.K.Backend.contents g.K.Backend.room g.K.Priced.prices d c.args.self.now.trusted c.args.self.now.other c.requires.mirrors (g.met.F.Flash.is_lawful c.args.flash.now) (g.met.K.Priced.is_room c.args.self.now.trusted.area (geometry_of d c.args.self.now.trusted.area) c.requires.mirrors.trusted_stands.role) (g.met.K.Priced.is_room c.args.self.now.other.area (geometry_of d c.args.self.now.other.area) c.requires.mirrors.other_stands.role) m c.args.name.now c.in-Err.ensures.touches.banks,
    )

pub returns-in-Err-clause-at_most : goal.returns-in-Err-clause-at_most
returns-in-Err-clause-at_most g c =
    let d : Device = g.F.Flash.device c.args.flash.now in
    let m : Device = g.F.Flash.device c.take.new.flash in
    most-first d m (command_units (geometry_of d c.args.self.now.trusted.area)) (command_units (geometry_of d c.args.self.now.other.area)) c.take.ensures.units.at_most

pub take-requires-2 : goal.take-requires-2
take-requires-2 g c =
    let d : Device = g.F.Flash.device c.args.flash.now in
    let m : Device = g.F.Flash.device c.take.new.flash in
    record { stands = other-stands g.K.Backend.mounted_on g.K.Backend.stands g.K.Backend.damage g.K.Backend.contents g.K.Backend.room g.K.Priced.prices d c.args.self.now.trusted c.args.self.now.other c.requires.mirrors (g.met.F.Flash.is_lawful c.args.flash.now) m false (g.met.F.Flash.is_lawful c.take.new.flash) c.in-Ok.ensures.touches }

pub returns-clause-touches : goal.returns-clause-touches
returns-clause-touches g c = then (first_of_two c.in-Ok.ensures.touches) (second_of_two c.take-2.ensures.touches)

pub returns-clause-ends : goal.returns-clause-ends
returns-clause-ends g c =
    let d : Device = g.F.Flash.device c.args.flash.now in
    let m : Device = g.F.Flash.device c.take.new.flash in
    let e : Device = g.F.Flash.device c.take-2.new.flash in
    delete-ends g.K.Backend.mounted_on g.K.Backend.stands g.K.Backend.damage g.K.Backend.contents g.K.Backend.room g.K.Priced.prices d c.args.self.now.trusted c.args.self.now.other c.requires.mirrors (g.met.F.Flash.is_lawful c.args.flash.now) m e (is_err c.take-2.result) c.args.name.now c.take-2.result (g.met.F.Flash.is_lawful c.take.new.flash) (g.met.F.Flash.is_lawful c.take-2.new.flash) c.in-Ok.ensures.touches c.take-2.ensures.touches c.in-Ok.ensures.ends c.take.ensures.sound c.take-2.ensures.sound (g.met.K.Priced.is_room c.args.self.now.trusted.area (geometry_of d c.args.self.now.trusted.area) c.requires.mirrors.trusted_stands.role) (g.met.K.Priced.is_room c.args.self.now.other.area (geometry_of d c.args.self.now.other.area) c.requires.mirrors.other_stands.role) c.take-2.ensures.ends

pub returns-clause-at_most : goal.returns-clause-at_most
returns-clause-at_most g c =
    let d : Device = g.F.Flash.device c.args.flash.now in
    let m : Device = g.F.Flash.device c.take.new.flash in
    let e : Device = g.F.Flash.device c.take-2.new.flash in
    most-both-on d m e c.args.self.now.trusted.area c.args.self.now.other.area c.in-Ok.ensures.touches.banks c.take.ensures.units.at_most c.take-2.ensures.units.at_most

pub returns-clause-mirrors : goal.returns-clause-mirrors
returns-clause-mirrors g c whole =
    let d : Device = g.F.Flash.device c.args.flash.now in
    let m : Device = g.F.Flash.device c.take.new.flash in
    let e : Device = g.F.Flash.device c.take-2.new.flash in
    delete-mirror g.K.Backend.mounted_on g.K.Backend.stands g.K.Backend.damage g.K.Backend.contents g.K.Backend.room g.K.Priced.prices d c.args.self.now.trusted c.args.self.now.other c.requires.mirrors (g.met.F.Flash.is_lawful c.args.flash.now) m e (is_err c.take-2.result) c.args.name.now c.take-2.result c.take.new.side c.take-2.new.side (g.met.F.Flash.is_lawful c.take.new.flash) (g.met.F.Flash.is_lawful c.take-2.new.flash) c.in-Ok.ensures.touches c.take-2.ensures.touches c.in-Ok.ensures.ends c.take-2.ensures.ends whole
    c.take.ensures.same c.take-2.ensures.same (c.in-Ok.ensures.stands refl) (c.take-2.ensures.stands whole) (g.met.K.Priced.is_room c.args.self.now.trusted.area (geometry_of d c.args.self.now.trusted.area) c.requires.mirrors.trusted_stands.role) (g.met.K.Priced.is_room c.args.self.now.other.area (geometry_of d c.args.self.now.other.area) c.requires.mirrors.other_stands.role)

pub returns-in-Err-clause-written : goal.returns-in-Err-clause-written
returns-in-Err-clause-written g c = c.in-Err.ensures.written

pub returns-clause-written : goal.returns-clause-written
returns-clause-written g c = λ blank.
    let d : Device = g.F.Flash.device c.args.flash.now in
    let m : Device = g.F.Flash.device c.take.new.flash in
    let e : Device = g.F.Flash.device c.take-2.new.flash in
    let same = back g.K.Backend.mounted_on g.K.Backend.stands g.K.Backend.damage g.K.Backend.contents g.K.Backend.room g.K.Priced.prices d c.args.self.now.trusted c.args.self.now.other c.requires.mirrors (g.met.F.Flash.is_lawful c.args.flash.now) m e (is_err c.take-2.result) (g.met.F.Flash.is_lawful c.take.new.flash) (g.met.F.Flash.is_lawful c.take-2.new.flash) c.in-Ok.ensures.touches.banks c.take-2.ensures.touches in
    c.take.ensures.written (sym (ap (list_all is_erased) same) ∙ blank)

pub returns-in-Err-clause-owes : goal.returns-in-Err-clause-owes
returns-in-Err-clause-owes g c lost =
    let d : Device = g.F.Flash.device c.args.flash.now in
    let m : Device = g.F.Flash.device c.take.new.flash in
    first-owes g.K.Backend.owes g.K.Backend.mounted_on g.K.Backend.stands g.K.Backend.damage g.K.Backend.contents g.K.Backend.room g.K.Priced.prices d c.args.self.now.trusted c.args.self.now.other c.requires.mirrors (g.met.F.Flash.is_lawful c.args.flash.now) g.K.Backend.boot_units g.K.Backend.rests g.met.K.Backend.stands_rests m
    (g.met.F.Flash.is_lawful c.take.new.flash) c.in-Err.ensures.touches (c.in-Err.ensures.units.owes refl)

pub returns-clause-owes : goal.returns-clause-owes
returns-clause-owes g c lost =
    let d : Device = g.F.Flash.device c.args.flash.now in
    let m : Device = g.F.Flash.device c.take.new.flash in
    let e : Device = g.F.Flash.device c.take-2.new.flash in
    second-owes g.K.Backend.owes g.K.Backend.mounted_on g.K.Backend.stands g.K.Backend.damage g.K.Backend.contents g.K.Backend.room g.K.Priced.prices d c.args.self.now.trusted c.args.self.now.other c.requires.mirrors (g.met.F.Flash.is_lawful c.args.flash.now) g.K.Backend.boot_units g.K.Backend.rests g.met.K.Backend.stands_rests m e (is_err c.take-2.result) c.take.new.side
    (g.met.F.Flash.is_lawful c.take.new.flash) (g.met.F.Flash.is_lawful c.take-2.new.flash) c.in-Ok.ensures.touches c.take-2.ensures.touches c.take.ensures.same (c.in-Ok.ensures.stands refl) (c.take-2.ensures.units.owes lost)
