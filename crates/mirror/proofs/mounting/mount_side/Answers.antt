use Rattle.std.proofs.Common.{◌≡◌, Bool, [], ◌∷◌, Result, Err, ap, subst, ◌∙◌, sym}
use Rattle.flash_map.specs.Faults.{mount_lost as store_lost}
use Rattle.flash_map.specs.Touches.{Touches}
use Rattle.flash_map.specs.declared.faults.MountFault.{MountFault}
use Rattle.mirror.specs.Mounting.{fault_at, mount_lost}
use Rattle.mirror.specs.declared.mounting.MirrorMount.{MirrorMount}
use Rattle.mirror.specs.declared.sides.Side.{Side}
use Rattle.mirror.proofs.MountSteps.{fault-lost}
use Rattle.mirror.proofs.SideSteps.{not-records}
use Rattle.mirror.proofs.mounting.mount_side.Goals as goal

pub returns-in-Err-clause-touches : goal.returns-in-Err-clause-touches
returns-in-Err-clause-touches g c =
    subst (λ (lost : Bool). Touches (c.args.area ∷ []) (g.F.Flash.device c.args.flash.now) (g.F.Flash.device c.mount.new.flash) lost)
    (fault-lost g.row.K.Denot (Side g.row.K.Denot) c.args.place c.in-Err.fault c.fault_at.result c.fault_at.ensures) c.in-Err.ensures.touches

pub returns-in-Ok-clause-written : goal.returns-in-Ok-clause-written
returns-in-Ok-clause-written g c = c.mount.ensures.written (not-records c.args.area c.requires.role)

pub returns-in-Err-clause-written : goal.returns-in-Err-clause-written
returns-in-Err-clause-written g c = c.mount.ensures.written (not-records c.args.area c.requires.role)

pub returns-in-Ok-clause-units : goal.returns-in-Ok-clause-units
returns-in-Ok-clause-units g c = c.mount.ensures.units

pub returns-in-Err-clause-units : goal.returns-in-Err-clause-units
returns-in-Err-clause-units g c = c.mount.ensures.units
