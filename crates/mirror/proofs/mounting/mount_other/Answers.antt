use Rattle.std.proofs.Common.{◌≡◌, Err, List, sym, ap, subst, ◌∙◌}
use Rattle.flash_sim.specs.declared.flash.Bank.{Bank}
use Rattle.flash_sim.specs.Device.{Device}
use Rattle.flash_map.specs.declared.area.Area.{Area}
use Rattle.flash_map.specs.declared.faults.MountFault.{MountFault}
use Rattle.flash_map.specs.Area.{sectors_of}
use Rattle.flash_map.specs.Lawful.{IsLawfulFor}
use Rattle.flash_map.specs.On.{on}
use Rattle.flash_map.proofs.Apart.{same_apart}
use Rattle.migrator.proofs.Copies.{stands-still}
use Rattle.migrator.proofs.Moving.{still}
use Rattle.mirror.proofs.RepairSteps.{hold-ends}
use Rattle.mirror.proofs.SideSteps.{held-on, not-held, not-records}
use Rattle.mirror.proofs.mounting.mount_other.Goals as goal

pub mount-requires-clause-lawful : goal.mount-requires-clause-lawful
mount-requires-clause-lawful g c = c.requires.other.lawful

pub mount-requires-clause-serves : goal.mount-requires-clause-serves
mount-requires-clause-serves g c = c.requires.other.served

pub if_same-requires-clause-lawful : goal.if_same-requires-clause-lawful
if_same-requires-clause-lawful g c = subst (λ (b : List Bank). IsLawfulFor b (g.K.Backend.mounted_on c.args.trusted.now)) (sym c.mount.ensures.touches.banks) c.requires.other.lawful_trusted

pub if_same-requires-clause-lawful_other : goal.if_same-requires-clause-lawful_other
if_same-requires-clause-lawful_other g c =
    subst (λ (x : Area). IsLawfulFor (g.F.Flash.device c.mount.new.flash).banks x) (sym c.in-Ok.ensures.on) (subst (λ (b : List Bank). IsLawfulFor b c.args.area) (sym c.mount.ensures.touches.banks) c.requires.other.lawful)

pub if_same-requires-clause-stands : goal.if_same-requires-clause-stands
if_same-requires-clause-stands g c =
    let d : Device = g.F.Flash.device c.args.flash.now in
    let m : Device = g.F.Flash.device c.mount.new.flash in
    let same = same_apart (g.met.F.Flash.is_lawful c.args.flash.now) (g.met.F.Flash.is_lawful c.mount.new.flash) c.requires.other.lawful_trusted.in_bank c.requires.other.apart c.mount.ensures.touches in
    stands-still g.K.Backend.mounted_on g.K.Backend.stands g.K.Backend.contents g.K.Backend.room d m c.args.trusted.now c.mount.ensures.touches.banks same c.requires.other.stands_trusted

pub returns-in-Ok-clause-trusted : goal.returns-in-Ok-clause-trusted
returns-in-Ok-clause-trusted g c = same_apart (g.met.F.Flash.is_lawful c.args.flash.now) (g.met.F.Flash.is_lawful c.mount.new.flash) c.requires.other.lawful_trusted.in_bank c.requires.other.apart c.mount.ensures.touches

pub returns-in-Ok-clause-ends : goal.returns-in-Ok-clause-ends
returns-in-Ok-clause-ends g c =
    let d : Device = g.F.Flash.device c.args.flash.now in
    let m : Device = g.F.Flash.device c.mount.new.flash in
    let source = g.K.Backend.mounted_on c.args.trusted.now in
    let same = same_apart (g.met.F.Flash.is_lawful c.args.flash.now) (g.met.F.Flash.is_lawful c.mount.new.flash) c.requires.other.lawful_trusted.in_bank c.requires.other.apart c.mount.ensures.touches in
    hold-ends g.K.Backend.mounted_on g.K.Backend.stands g.K.Backend.damage g.K.Backend.contents d m c.args.area source c.in-Ok.store c.if_same.result c.in-Ok.ensures.on c.in-Ok.ensures.stands
    (still g.K.Backend.contents d m source c.mount.ensures.touches.banks same) c.mount.ensures.keeps c.if_same.ensures

pub returns-in-Err-Damaged-clause-ends : goal.returns-in-Err-Damaged-clause-ends
returns-in-Err-Damaged-clause-ends g c =
    let d : Device = g.F.Flash.device c.args.flash.now in
    not-held g.K.Backend.damage g.K.Backend.contents g.K.Backend.rests d (g.F.Flash.device c.mount.new.flash) c.args.area (on g.K.Backend.contents d (g.K.Backend.mounted_on c.args.trusted.now)) c.mount.result _
    (c.in-Err-Damaged.is ∙ ap (λ (x : MountFault). Err x) c.in-Err-Damaged.field-0-is) c.mount.ensures.ends

pub returns-in-Ok-clause-held : goal.returns-in-Ok-clause-held
returns-in-Ok-clause-held g c settings =
    held-on g.K.Backend.damage g.K.Backend.contents g.K.Backend.rests (g.F.Flash.device c.args.flash.now) (g.F.Flash.device c.mount.new.flash) c.args.area settings c.mount.ensures.sound c.mount.ensures.keeps
    c.mount.ensures.rests (c.mount.ensures.written (not-records c.args.area c.requires.other.role)) c.mount.ensures.units.at_most

pub returns-in-Err-Damaged-clause-held : goal.returns-in-Err-Damaged-clause-held
returns-in-Err-Damaged-clause-held g c settings =
    held-on g.K.Backend.damage g.K.Backend.contents g.K.Backend.rests (g.F.Flash.device c.args.flash.now) (g.F.Flash.device c.mount.new.flash) c.args.area settings c.mount.ensures.sound c.mount.ensures.keeps
    c.mount.ensures.rests (c.mount.ensures.written (not-records c.args.area c.requires.other.role)) c.mount.ensures.units.at_most

pub returns-in-Err-PowerLost-clause-held : goal.returns-in-Err-PowerLost-clause-held
returns-in-Err-PowerLost-clause-held g c settings =
    held-on g.K.Backend.damage g.K.Backend.contents g.K.Backend.rests (g.F.Flash.device c.args.flash.now) (g.F.Flash.device c.mount.new.flash) c.args.area settings c.mount.ensures.sound c.mount.ensures.keeps
    c.mount.ensures.rests (c.mount.ensures.written (not-records c.args.area c.requires.other.role)) c.mount.ensures.units.at_most

pub returns-in-Err-NoMemory-clause-held : goal.returns-in-Err-NoMemory-clause-held
returns-in-Err-NoMemory-clause-held g c settings =
    held-on g.K.Backend.damage g.K.Backend.contents g.K.Backend.rests (g.F.Flash.device c.args.flash.now) (g.F.Flash.device c.mount.new.flash) c.args.area settings c.mount.ensures.sound c.mount.ensures.keeps
    c.mount.ensures.rests (c.mount.ensures.written (not-records c.args.area c.requires.other.role)) c.mount.ensures.units.at_most

pub returns-in-Err-PowerLost-clause-trusted : goal.returns-in-Err-PowerLost-clause-trusted
returns-in-Err-PowerLost-clause-trusted g c = same_apart (g.met.F.Flash.is_lawful c.args.flash.now) (g.met.F.Flash.is_lawful c.mount.new.flash) c.requires.other.lawful_trusted.in_bank c.requires.other.apart c.mount.ensures.touches

pub returns-in-Ok-clause-units : goal.returns-in-Ok-clause-units
returns-in-Ok-clause-units g c = c.mount.ensures.units

pub returns-in-Err-Damaged-clause-units : goal.returns-in-Err-Damaged-clause-units
returns-in-Err-Damaged-clause-units g c = c.mount.ensures.units

pub returns-in-Err-PowerLost-clause-units : goal.returns-in-Err-PowerLost-clause-units
returns-in-Err-PowerLost-clause-units g c = c.mount.ensures.units

pub returns-in-Err-NoMemory-clause-units : goal.returns-in-Err-NoMemory-clause-units
returns-in-Err-NoMemory-clause-units g c = c.mount.ensures.units
