use Rattle.std.proofs.Common.{refl, false, [], ◌∷◌, sym, subst}
use Rattle.std.specs.FinMap as maps
use Rattle.flash_sim.specs.Device.{Device}
use Rattle.flash_map.proofs.Touches.{then}
use Rattle.flash_map.specs.declared.area.Area.{Area}
use Rattle.flash_map.specs.Area.{geometry_of}
use Rattle.flash_map.specs.On.{on, HoldsOn}
use Rattle.flash_map.specs.Touches.{Touches}
use Rattle.backend_api.specs.Room.{foreign_units}
use Rattle.migrator.proofs.Moving.{still}
use Rattle.mirror.specs.Mounting.{HoldsMap}
use Rattle.mirror.proofs.OwingSteps.{opens-first, opens-then}
use Rattle.mirror.proofs.RepairSteps.{may-copy-still}
use Rattle.mirror.proofs.SideSteps.{is-due, opened-first, opened-then}
use Rattle.mirror.proofs.mounting.open_other.Goals as goal

pub returns-in-Ok-None-clause-touches : goal.returns-in-Ok-None-clause-touches
returns-in-Ok-None-clause-touches g c =
    then (subst (λ (x : Area). Touches (x ∷ []) (g.F.Flash.device c.args.flash.now) (g.F.Flash.device c.mount_other-mounted.new.flash) false) refl c.in-Ok-None.ensures.touches) c.repair.ensures.touches

pub returns-in-Ok-Some-clause-held : goal.returns-in-Ok-Some-clause-held
returns-in-Ok-Some-clause-held g c =
    c.mount_other-mounted.ensures.held (on g.K.Backend.contents (g.F.Flash.device c.args.flash.now) (g.K.Backend.mounted_on c.args.trusted.now))

pub returns-in-Err-clause-held : goal.returns-in-Err-clause-held
returns-in-Err-clause-held g c =
    c.mount_other-mounted.ensures.held (on g.K.Backend.contents (g.F.Flash.device c.args.flash.now) (g.K.Backend.mounted_on c.args.trusted.now))

pub returns-in-Ok-None-clause-held : goal.returns-in-Ok-None-clause-held
returns-in-Ok-None-clause-held g c holds =
    let d : Device = g.F.Flash.device c.args.flash.now in
    let settings = on g.K.Backend.contents d (g.K.Backend.mounted_on c.args.trusted.now) in
    absurd (is-due g.K.Backend.damage g.K.Backend.contents g.K.Backend.rests g.K.Backend.mounted_on g.K.Backend.stands d (g.F.Flash.device c.mount_other-mounted.new.flash) c.args.area settings c.in-Ok-None.field-0 c.in-Ok-None.field-0-is c.in-Ok-None.ensures.ends
    (subst (λ (x : Area). HoldsMap g.K.Backend.damage g.K.Backend.contents d x settings) (sym refl) holds))

pub returns-in-Ok-Some-clause-idle : goal.returns-in-Ok-Some-clause-idle
returns-in-Ok-Some-clause-idle g c holds rests =
    c.mount_other-mounted.ensures.rests (subst (λ (x : Area). HoldsOn g.K.Backend.rests (g.F.Flash.device c.args.flash.now) x) (sym refl) rests)

pub returns-in-Err-clause-idle : goal.returns-in-Err-clause-idle
returns-in-Err-clause-idle g c holds rests =
    c.mount_other-mounted.ensures.rests (subst (λ (x : Area). HoldsOn g.K.Backend.rests (g.F.Flash.device c.args.flash.now) x) (sym refl) rests)

pub returns-in-Ok-None-clause-idle : goal.returns-in-Ok-None-clause-idle
returns-in-Ok-None-clause-idle g c holds rests =
    let d : Device = g.F.Flash.device c.args.flash.now in
    let settings = on g.K.Backend.contents d (g.K.Backend.mounted_on c.args.trusted.now) in
    absurd (is-due g.K.Backend.damage g.K.Backend.contents g.K.Backend.rests g.K.Backend.mounted_on g.K.Backend.stands d (g.F.Flash.device c.mount_other-mounted.new.flash) c.args.area settings c.in-Ok-None.field-0 c.in-Ok-None.field-0-is c.in-Ok-None.ensures.ends
    (subst (λ (x : Area). HoldsMap g.K.Backend.damage g.K.Backend.contents d x settings) (sym refl) holds))

pub returns-in-Ok-Some-clause-at_most : goal.returns-in-Ok-Some-clause-at_most
returns-in-Ok-Some-clause-at_most g c =
    let d : Device = g.F.Flash.device c.args.flash.now in
    opened-first d (g.F.Flash.device c.mount_other-mounted.new.flash) c.args.area c.args.area (maps.len (on g.K.Backend.contents d (g.K.Backend.mounted_on c.args.trusted.now))) refl c.mount_other-mounted.ensures.units.at_most

pub returns-in-Err-clause-at_most : goal.returns-in-Err-clause-at_most
returns-in-Err-clause-at_most g c =
    let d : Device = g.F.Flash.device c.args.flash.now in
    opened-first d (g.F.Flash.device c.mount_other-mounted.new.flash) c.args.area c.args.area (maps.len (on g.K.Backend.contents d (g.K.Backend.mounted_on c.args.trusted.now))) refl c.mount_other-mounted.ensures.units.at_most

pub returns-in-Ok-None-clause-at_most : goal.returns-in-Ok-None-clause-at_most
returns-in-Ok-None-clause-at_most g c =
    let d : Device = g.F.Flash.device c.args.flash.now in
    let m : Device = g.F.Flash.device c.mount_other-mounted.new.flash in
    let source = g.K.Backend.mounted_on c.args.trusted.now in
    opened-then d m (g.F.Flash.device c.repair.new.flash) c.args.area c.args.area (on g.K.Backend.contents d source) (on g.K.Backend.contents m source) c.in-Ok-None.ensures.touches.banks refl
    (still g.K.Backend.contents d m source c.in-Ok-None.ensures.touches.banks c.mount_other-mounted.ensures.trusted) c.mount_other-mounted.ensures.units.at_most c.repair.ensures.at_most

pub mount_other-mounted-requires : goal.mount_other-mounted-requires
mount_other-mounted-requires g c = record { other = c.requires.other }

pub repair-requires : goal.repair-requires
repair-requires g c =
    record {
      other =
          may-copy-still g.K.Backend.serves g.K.Backend.mounted_on g.K.Backend.stands g.K.Backend.contents g.K.Backend.room g.K.Priced.prices
          (g.F.Flash.device c.args.flash.now) (g.F.Flash.device c.mount_other-mounted.new.flash) c.args.trusted.now c.args.area
          c.in-Ok-None.ensures.touches.banks c.mount_other-mounted.ensures.trusted c.requires.other;
    }

pub returns-in-Ok-Some-clause-owes : goal.returns-in-Ok-Some-clause-owes
returns-in-Ok-Some-clause-owes g c =
    let d : Device = g.F.Flash.device c.args.flash.now in
    opens-first g.K.Backend.owes g.K.Backend.damage g.K.Backend.contents (foreign_units (geometry_of d c.args.area)) d (g.F.Flash.device c.mount_other-mounted.new.flash) c.args.area (on g.K.Backend.contents d (g.K.Backend.mounted_on c.args.trusted.now)) c.mount_other-mounted.ensures.units

pub returns-in-Err-clause-owes : goal.returns-in-Err-clause-owes
returns-in-Err-clause-owes g c =
    let d : Device = g.F.Flash.device c.args.flash.now in
    opens-first g.K.Backend.owes g.K.Backend.damage g.K.Backend.contents (foreign_units (geometry_of d c.args.area)) d (g.F.Flash.device c.mount_other-mounted.new.flash) c.args.area (on g.K.Backend.contents d (g.K.Backend.mounted_on c.args.trusted.now)) c.mount_other-mounted.ensures.units

pub returns-in-Ok-None-clause-owes : goal.returns-in-Ok-None-clause-owes
returns-in-Ok-None-clause-owes g c =
    let d : Device = g.F.Flash.device c.args.flash.now in
    let m : Device = g.F.Flash.device c.mount_other-mounted.new.flash in
    let source = g.K.Backend.mounted_on c.args.trusted.now in
    let settings = on g.K.Backend.contents d source in
    opens-then g.K.Backend.owes g.K.Backend.damage g.K.Backend.contents (foreign_units (geometry_of d c.args.area)) d m (g.F.Flash.device c.repair.new.flash) c.args.area settings (on g.K.Backend.contents m source) c.in-Ok-None.ensures.touches.banks
    (still g.K.Backend.contents d m source c.in-Ok-None.ensures.touches.banks c.mount_other-mounted.ensures.trusted) c.mount_other-mounted.ensures.units
    (is-due g.K.Backend.damage g.K.Backend.contents g.K.Backend.rests g.K.Backend.mounted_on g.K.Backend.stands d m c.args.area settings c.in-Ok-None.field-0 c.in-Ok-None.field-0-is c.in-Ok-None.ensures.ends) c.repair.ensures.at_most
