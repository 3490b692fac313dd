use Rattle.std.proofs.Common.{◌≡◌, ◌+◌, ◌≤◌, ℕ, true, false, [], ◌∷◌, length, is_err, refl, sym, subst, ◌∙◌}
use Rattle.std.proofs.lemmas.Bool.{false≢true}
use Rattle.flash_sim.specs.Device.{Device}
use Rattle.flash_map.specs.Area.{geometry_of, value_limit}
use Rattle.flash_map.specs.On.{on}
use Rattle.flash_map.proofs.Touches.{first_of_two, second_of_two, then}
use Rattle.backend_api.specs.Room.{command_units}
use Rattle.migrator.specs.Migrating.{room_on}
use Rattle.migrator.proofs.Values.{limit-same}
use Rattle.mirror.specs.Room.{prices_on}
use Rattle.mirror.proofs.BothSteps.{most-both-on, most-first}
use Rattle.mirror.proofs.FitLemmas.{not-tight}
use Rattle.mirror.proofs.MirrorEnds.{few-then, first-cut, no-first, no-second, other-stands, put-fits, room-then, set-cut, set-done, set-mirror}
use Rattle.mirror.proofs.OwingSteps.{first-owes, second-owes}
use Rattle.mirror.proofs.mirror.Mirror.put_both.Goals as goal

pub put-requires-clause-room : goal.put-requires-clause-room
put-requires-clause-room g c other =
    let d : Device = g.F.Flash.device c.args.flash.now in
    not-tight (room_on g.K.Backend.room d c.args.self.now.trusted.area) (prices_on g.K.Priced.prices d c.args.self.now.trusted.area) (g.met.K.Priced.is_room c.args.self.now.trusted.area (geometry_of d c.args.self.now.trusted.area) c.requires.mirrors.trusted_stands.role) c.args.self.now.trusted.area.sectors (value_limit c.args.self.now.trusted.area) (on g.K.Backend.contents d c.args.self.now.trusted.area) c.args.name.now c.args.value.now (c.requires.name other).short c.requires.short (c.requires.room.trusted_room other)

pub returns-in-Err-clause-touches : goal.returns-in-Err-clause-touches
returns-in-Err-clause-touches g c = first_of_two c.in-Err.ensures.touches

pub returns-in-Err-clause-ends : goal.returns-in-Err-clause-ends
returns-in-Err-clause-ends g c =
    let d : Device = g.F.Flash.device c.args.flash.now in
    let m : Device = g.F.Flash.device c.put.new.flash in (
      c.requires.room,
      c.in-Err.ensures.ends.some,
      first-cut g.K.Backend.mounted_on g.K.Backend.stands g.K.Backend.damage g.K.Backend.contents g.K.Backend.room g.K.Priced.prices d c.args.self.now.trusted c.args.self.now.other c.requires.mirrors (g.met.F.Flash.is_lawful c.args.flash.now) g.met.K.Backend.stands_reads m _ _ true (g.met.F.Flash.is_lawful c.put.new.flash) c.in-Err.ensures.touches c.in-Err.ensures.sound c.in-Err.ensures.ends,
      put-fits g.K.Backend.mounted_on g.K.Backend.stands g.K.Backend.damage g.K.Backend.contents g.K.Backend.room g.K.Priced.prices d c.args.self.now.trusted c.args.self.now.other c.requires.mirrors (g.met.F.Flash.is_lawful c.args.flash.now) (g.met.K.Priced.is_room c.args.self.now.trusted.area (geometry_of d c.args.self.now.trusted.area) c.requires.mirrors.trusted_stands.role) (g.met.K.Priced.is_room c.args.self.now.other.area (geometry_of d c.args.self.now.other.area) c.requires.mirrors.other_stands.role) m c.args.name.now c.args.value.now c.in-Err.ensures.touches.banks c.requires.room,
    )

pub returns-in-Err-clause-at_most : goal.returns-in-Err-clause-at_most
returns-in-Err-clause-at_most g c =
    let d : Device = g.F.Flash.device c.args.flash.now in
    let m : Device = g.F.Flash.device c.put.new.flash in
    most-first d m (command_units (geometry_of d c.args.self.now.trusted.area)) (command_units (geometry_of d c.args.self.now.other.area)) c.put.ensures.units.at_most

pub put-requires-2-clause-stands : goal.put-requires-2-clause-stands
put-requires-2-clause-stands g c =
    let d : Device = g.F.Flash.device c.args.flash.now in
    let m : Device = g.F.Flash.device c.put.new.flash in
    other-stands g.K.Backend.mounted_on g.K.Backend.stands g.K.Backend.damage g.K.Backend.contents g.K.Backend.room g.K.Priced.prices d c.args.self.now.trusted c.args.self.now.other c.requires.mirrors (g.met.F.Flash.is_lawful c.args.flash.now) m false (g.met.F.Flash.is_lawful c.put.new.flash) c.in-Ok.ensures.touches

pub put-requires-2-clause-few : goal.put-requires-2-clause-few
put-requires-2-clause-few g c =
    let d : Device = g.F.Flash.device c.args.flash.now in
    let m : Device = g.F.Flash.device c.put.new.flash in
    few-then g.K.Backend.mounted_on g.K.Backend.stands g.K.Backend.damage g.K.Backend.contents g.K.Backend.room g.K.Priced.prices d c.args.self.now.trusted c.args.self.now.other c.requires.mirrors (g.met.F.Flash.is_lawful c.args.flash.now) m false c.args.name.now (g.met.F.Flash.is_lawful c.put.new.flash) c.in-Ok.ensures.touches c.requires.room.few.other_few

pub put-requires-2-clause-room : goal.put-requires-2-clause-room
put-requires-2-clause-room g c =
    let d : Device = g.F.Flash.device c.args.flash.now in
    let m : Device = g.F.Flash.device c.put.new.flash in
    let small : length c.args.value.now ≤ value_limit c.args.self.now.other.area = subst (λ (n : ℕ). length c.args.value.now ≤ n) (limit-same c.args.self.now.trusted.area c.args.self.now.other.area c.requires.mirrors.version) c.requires.short in
    room-then g.K.Backend.mounted_on g.K.Backend.stands g.K.Backend.damage g.K.Backend.contents g.K.Backend.room g.K.Priced.prices d c.args.self.now.trusted c.args.self.now.other c.requires.mirrors (g.met.F.Flash.is_lawful c.args.flash.now) m false c.args.name.now c.args.value.now (g.met.F.Flash.is_lawful c.put.new.flash) c.in-Ok.ensures.touches
    (λ other. not-tight (room_on g.K.Backend.room d c.args.self.now.other.area) (prices_on g.K.Priced.prices d c.args.self.now.other.area) (g.met.K.Priced.is_room c.args.self.now.other.area (geometry_of d c.args.self.now.other.area) c.requires.mirrors.other_stands.role) c.args.self.now.other.area.sectors (value_limit c.args.self.now.other.area) (on g.K.Backend.contents d c.args.self.now.trusted.area) c.args.name.now c.args.value.now (c.requires.name other).short small (c.requires.room.other_room other))

pub returns-in-Ok-put-clause-touches : goal.returns-in-Ok-put-clause-touches
returns-in-Ok-put-clause-touches g c = then (first_of_two c.in-Ok.ensures.touches) (second_of_two c.in-Ok-put.ensures.touches)

pub returns-in-Ok-put-clause-ends : goal.returns-in-Ok-put-clause-ends
returns-in-Ok-put-clause-ends g c =
    let d : Device = g.F.Flash.device c.args.flash.now in
    let m : Device = g.F.Flash.device c.put.new.flash in
    let e : Device = g.F.Flash.device c.put-2.new.flash in
    (c.requires.room, set-done g.K.Backend.mounted_on g.K.Backend.stands g.K.Backend.damage g.K.Backend.contents g.K.Backend.room g.K.Priced.prices d c.args.self.now.trusted c.args.self.now.other c.requires.mirrors (g.met.F.Flash.is_lawful c.args.flash.now) m e false c.args.name.now c.args.value.now (g.met.F.Flash.is_lawful c.put.new.flash) (g.met.F.Flash.is_lawful c.put-2.new.flash) c.in-Ok.ensures.touches c.in-Ok-put.ensures.touches c.in-Ok.ensures.ends c.in-Ok-put.ensures.ends)

pub returns-in-Ok-put-clause-at_most : goal.returns-in-Ok-put-clause-at_most
returns-in-Ok-put-clause-at_most g c =
    let d : Device = g.F.Flash.device c.args.flash.now in
    let m : Device = g.F.Flash.device c.put.new.flash in
    let e : Device = g.F.Flash.device c.put-2.new.flash in
    most-both-on d m e c.args.self.now.trusted.area c.args.self.now.other.area c.in-Ok.ensures.touches.banks c.put.ensures.units.at_most c.put-2.ensures.units.at_most

pub returns-in-Ok-put-clause-mirrors : goal.returns-in-Ok-put-clause-mirrors
returns-in-Ok-put-clause-mirrors g c whole =
    let d : Device = g.F.Flash.device c.args.flash.now in
    let m : Device = g.F.Flash.device c.put.new.flash in
    let e : Device = g.F.Flash.device c.put-2.new.flash in
    set-mirror g.K.Backend.mounted_on g.K.Backend.stands g.K.Backend.damage g.K.Backend.contents g.K.Backend.room g.K.Priced.prices d c.args.self.now.trusted c.args.self.now.other c.requires.mirrors (g.met.F.Flash.is_lawful c.args.flash.now) m e false c.args.name.now c.args.value.now c.put.new.side c.put-2.new.side (g.met.F.Flash.is_lawful c.put.new.flash) (g.met.F.Flash.is_lawful c.put-2.new.flash) c.in-Ok.ensures.touches c.in-Ok-put.ensures.touches c.in-Ok.ensures.ends c.in-Ok-put.ensures.ends
    c.put.ensures.same c.put-2.ensures.same (c.in-Ok.ensures.stands refl) (c.in-Ok-put.ensures.stands refl) c.requires.room (g.met.K.Priced.is_room c.args.self.now.trusted.area (geometry_of d c.args.self.now.trusted.area) c.requires.mirrors.trusted_stands.role) (g.met.K.Priced.is_room c.args.self.now.other.area (geometry_of d c.args.self.now.other.area) c.requires.mirrors.other_stands.role)

pub returns-in-Err-put-clause-touches : goal.returns-in-Err-put-clause-touches
returns-in-Err-put-clause-touches g c = then (first_of_two c.in-Ok.ensures.touches) (second_of_two c.in-Err-put.ensures.touches)

pub returns-in-Err-put-clause-ends : goal.returns-in-Err-put-clause-ends
returns-in-Err-put-clause-ends g c =
    let d : Device = g.F.Flash.device c.args.flash.now in
    let m : Device = g.F.Flash.device c.put.new.flash in
    let e : Device = g.F.Flash.device c.put-2.new.flash in
    let cut = set-cut g.K.Backend.mounted_on g.K.Backend.stands g.K.Backend.damage g.K.Backend.contents g.K.Backend.room g.K.Priced.prices d c.args.self.now.trusted c.args.self.now.other c.requires.mirrors (g.met.F.Flash.is_lawful c.args.flash.now) m e true c.args.name.now c.args.value.now (g.met.F.Flash.is_lawful c.put.new.flash) (g.met.F.Flash.is_lawful c.put-2.new.flash) c.in-Ok.ensures.touches c.in-Err-put.ensures.touches c.in-Ok.ensures.ends c.put.ensures.sound c.put-2.ensures.sound c.in-Err-put.ensures.ends in
    (c.requires.room, cut.0, cut.1, put-fits g.K.Backend.mounted_on g.K.Backend.stands g.K.Backend.damage g.K.Backend.contents g.K.Backend.room g.K.Priced.prices d c.args.self.now.trusted c.args.self.now.other c.requires.mirrors (g.met.F.Flash.is_lawful c.args.flash.now) (g.met.K.Priced.is_room c.args.self.now.trusted.area (geometry_of d c.args.self.now.trusted.area) c.requires.mirrors.trusted_stands.role) (g.met.K.Priced.is_room c.args.self.now.other.area (geometry_of d c.args.self.now.other.area) c.requires.mirrors.other_stands.role) e c.args.name.now c.args.value.now (c.in-Err-put.ensures.touches.banks ∙ c.in-Ok.ensures.touches.banks) c.requires.room)

pub returns-in-Err-put-clause-at_most : goal.returns-in-Err-put-clause-at_most
returns-in-Err-put-clause-at_most g c =
    let d : Device = g.F.Flash.device c.args.flash.now in
    let m : Device = g.F.Flash.device c.put.new.flash in
    let e : Device = g.F.Flash.device c.put-2.new.flash in
    most-both-on d m e c.args.self.now.trusted.area c.args.self.now.other.area c.in-Ok.ensures.touches.banks c.put.ensures.units.at_most c.put-2.ensures.units.at_most

pub returns-in-Err-clause-cut : goal.returns-in-Err-clause-cut
returns-in-Err-clause-cut g c lost =
    let d : Device = g.F.Flash.device c.args.flash.now in
    let m : Device = g.F.Flash.device c.put.new.flash in (
      no-first (g.K.Backend.runs c.put.new.side.store) (g.K.Backend.runs c.args.self.now.other.store) (c.in-Err.ensures.down refl),
      first-owes g.K.Backend.owes g.K.Backend.mounted_on g.K.Backend.stands g.K.Backend.damage g.K.Backend.contents g.K.Backend.room g.K.Priced.prices d c.args.self.now.trusted c.args.self.now.other c.requires.mirrors (g.met.F.Flash.is_lawful c.args.flash.now) g.K.Backend.boot_units g.K.Backend.rests g.met.K.Backend.stands_rests m
          (g.met.F.Flash.is_lawful c.put.new.flash) c.in-Err.ensures.touches (c.in-Err.ensures.units.owes refl),
    )

pub returns-in-Err-put-clause-cut : goal.returns-in-Err-put-clause-cut
returns-in-Err-put-clause-cut g c lost =
    let d : Device = g.F.Flash.device c.args.flash.now in
    let m : Device = g.F.Flash.device c.put.new.flash in
    let e : Device = g.F.Flash.device c.put-2.new.flash in (
      no-second (g.K.Backend.runs c.put.new.side.store) (g.K.Backend.runs c.put-2.new.side.store) (c.in-Err-put.ensures.down refl),
      second-owes g.K.Backend.owes g.K.Backend.mounted_on g.K.Backend.stands g.K.Backend.damage g.K.Backend.contents g.K.Backend.room g.K.Priced.prices d c.args.self.now.trusted c.args.self.now.other c.requires.mirrors (g.met.F.Flash.is_lawful c.args.flash.now) g.K.Backend.boot_units g.K.Backend.rests g.met.K.Backend.stands_rests m e true c.put.new.side
          (g.met.F.Flash.is_lawful c.put.new.flash) (g.met.F.Flash.is_lawful c.put-2.new.flash) c.in-Ok.ensures.touches c.in-Err-put.ensures.touches c.put.ensures.same (c.in-Ok.ensures.stands refl) (c.in-Err-put.ensures.units.owes refl),
    )

pub returns-in-Ok-put-clause-cut : goal.returns-in-Ok-put-clause-cut
returns-in-Ok-put-clause-cut g c lost = absurd (false≢true lost)
