use Rattle.flash_sim.specs.Device.{Device}
use Rattle.flash_sim.specs.declared.flash.Bank.{Bank}
use Rattle.flash_map.specs.Lawful.{IsLawfulFor}
use Rattle.flash_map.specs.Area.{sectors_of}
use Rattle.flash_map.specs.Spending.{Spends}
use Rattle.flash_map.specs.Units.{is_written}
use Rattle.migrator.proofs.Spent.{erased-most, opened-most}
use Rattle.std.specs.Prelude.{count_by}
use Rattle.std.proofs.Common.{List, [], ◌∷◌, Result, Err, sym, ap, subst, ◌∙◌}
use Rattle.flash_map.proofs.Touches.{then}
use Rattle.flash_map.specs.Faults.{mount_lost}
use Rattle.flash_map.specs.Touches.{Touches}
use Rattle.flash_map.specs.declared.faults.MountFault.{MountFault}
use Rattle.migrator.proofs.migrating.open_blank.Goals as goal

pub returns-in-Ok-mount-clause-touches : goal.returns-in-Ok-mount-clause-touches
returns-in-Ok-mount-clause-touches g c = then c.in-Ok.ensures.touches c.in-Ok-mount.ensures.touches

pub returns-in-Err-PowerLost-clause-touches : goal.returns-in-Err-PowerLost-clause-touches
returns-in-Err-PowerLost-clause-touches g c =
    then c.in-Ok.ensures.touches
    (subst (λ (r : Result g.row.K.Denot MountFault). Touches (c.args.area ∷ []) (g.F.Flash.device c.erase-erased.new.flash) (g.F.Flash.device c.mount.new.flash) (mount_lost r)) (c.in-Err-PowerLost.is ∙ ap (λ (x : MountFault). Err x) c.in-Err-PowerLost.field-0-is) c.mount.ensures.touches)

pub returns-in-Err-clause-at_most : goal.returns-in-Err-clause-at_most
returns-in-Err-clause-at_most g c =
    erased-most (g.F.Flash.device c.args.flash.now) (g.F.Flash.device c.erase-erased.new.flash) c.args.area c.erase-erased.result c.erase-erased.ensures.units c.erase-erased.ensures.units_lost

pub returns-in-Ok-mount-clause-at_most : goal.returns-in-Ok-mount-clause-at_most
returns-in-Ok-mount-clause-at_most g c =
    opened-most (g.F.Flash.device c.args.flash.now) (g.F.Flash.device c.erase-erased.new.flash) (g.F.Flash.device c.mount.new.flash) c.args.area (c.mount.ensures.rests c.in-Ok.ensures.rests)
    (erased-most (g.F.Flash.device c.args.flash.now) (g.F.Flash.device c.erase-erased.new.flash) c.args.area c.erase-erased.result c.erase-erased.ensures.units c.erase-erased.ensures.units_lost)

pub returns-in-Err-PowerLost-clause-at_most : goal.returns-in-Err-PowerLost-clause-at_most
returns-in-Err-PowerLost-clause-at_most g c =
    opened-most (g.F.Flash.device c.args.flash.now) (g.F.Flash.device c.erase-erased.new.flash) (g.F.Flash.device c.mount.new.flash) c.args.area (c.mount.ensures.rests c.in-Ok.ensures.rests)
    (erased-most (g.F.Flash.device c.args.flash.now) (g.F.Flash.device c.erase-erased.new.flash) c.args.area c.erase-erased.result c.erase-erased.ensures.units c.erase-erased.ensures.units_lost)

pub returns-in-Err-NoMemory-clause-at_most : goal.returns-in-Err-NoMemory-clause-at_most
returns-in-Err-NoMemory-clause-at_most g c =
    opened-most (g.F.Flash.device c.args.flash.now) (g.F.Flash.device c.erase-erased.new.flash) (g.F.Flash.device c.mount.new.flash) c.args.area (c.mount.ensures.rests c.in-Ok.ensures.rests)
    (erased-most (g.F.Flash.device c.args.flash.now) (g.F.Flash.device c.erase-erased.new.flash) c.args.area c.erase-erased.result c.erase-erased.ensures.units c.erase-erased.ensures.units_lost)

pub returns-in-Ok-mount-clause-erased : goal.returns-in-Ok-mount-clause-erased
returns-in-Ok-mount-clause-erased g c =
    let a = g.F.Flash.device c.args.flash.now in
    subst (λ (x : Device). Spends a x (count_by is_written (sectors_of a c.args.area))) (sym (c.mount.ensures.rests c.in-Ok.ensures.rests)) c.in-Ok.ensures.units

pub erase-erased-requires : goal.erase-erased-requires
erase-erased-requires g c = record { lawful = c.requires.lawful; serves = c.requires.serves }

pub mount-requires-clause-lawful : goal.mount-requires-clause-lawful
mount-requires-clause-lawful g c = subst (λ (banks : List Bank). IsLawfulFor banks c.args.area) (sym c.in-Ok.ensures.touches.banks) c.requires.lawful

pub returns-in-Err-clause-touches : goal.returns-in-Err-clause-touches
returns-in-Err-clause-touches g c = c.in-Err.ensures.touches

pub returns-in-Err-clause-ends : goal.returns-in-Err-clause-ends
returns-in-Err-clause-ends g c = tt

pub returns-in-Err-clause-on : goal.returns-in-Err-clause-on
returns-in-Err-clause-on g c = tt

pub returns-in-Err-clause-stands : goal.returns-in-Err-clause-stands
returns-in-Err-clause-stands g c = tt

pub returns-in-Err-clause-erased : goal.returns-in-Err-clause-erased
returns-in-Err-clause-erased g c = tt

pub returns-in-Ok-mount-clause-ends : goal.returns-in-Ok-mount-clause-ends
returns-in-Ok-mount-clause-ends g c = c.in-Ok-mount.ensures.keeps c.in-Ok.ensures.sound ∙ c.in-Ok.ensures.empty

pub returns-in-Ok-mount-clause-on : goal.returns-in-Ok-mount-clause-on
returns-in-Ok-mount-clause-on g c = c.in-Ok-mount.ensures.on

pub returns-in-Ok-mount-clause-stands : goal.returns-in-Ok-mount-clause-stands
returns-in-Ok-mount-clause-stands g c = c.in-Ok-mount.ensures.stands

pub returns-in-Err-PowerLost-clause-ends : goal.returns-in-Err-PowerLost-clause-ends
returns-in-Err-PowerLost-clause-ends g c = tt

pub returns-in-Err-PowerLost-clause-on : goal.returns-in-Err-PowerLost-clause-on
returns-in-Err-PowerLost-clause-on g c = tt

pub returns-in-Err-PowerLost-clause-stands : goal.returns-in-Err-PowerLost-clause-stands
returns-in-Err-PowerLost-clause-stands g c = tt

pub returns-in-Err-PowerLost-clause-erased : goal.returns-in-Err-PowerLost-clause-erased
returns-in-Err-PowerLost-clause-erased g c = tt

pub returns-in-Err-NoMemory-clause-touches : goal.returns-in-Err-NoMemory-clause-touches
returns-in-Err-NoMemory-clause-touches g c =
    then c.in-Ok.ensures.touches
    (subst (λ (r : Result g.row.K.Denot MountFault). Touches (c.args.area ∷ []) (g.F.Flash.device c.erase-erased.new.flash) (g.F.Flash.device c.mount.new.flash) (mount_lost r)) (c.in-Err-NoMemory.is ∙ ap (λ (x : MountFault). Err x) c.in-Err-NoMemory.field-0-is) c.mount.ensures.touches)

pub returns-in-Err-NoMemory-clause-ends : goal.returns-in-Err-NoMemory-clause-ends
returns-in-Err-NoMemory-clause-ends g c = tt

pub returns-in-Err-NoMemory-clause-on : goal.returns-in-Err-NoMemory-clause-on
returns-in-Err-NoMemory-clause-on g c = tt

pub returns-in-Err-NoMemory-clause-stands : goal.returns-in-Err-NoMemory-clause-stands
returns-in-Err-NoMemory-clause-stands g c = tt

pub returns-in-Err-NoMemory-clause-erased : goal.returns-in-Err-NoMemory-clause-erased
returns-in-Err-NoMemory-clause-erased g c = tt
