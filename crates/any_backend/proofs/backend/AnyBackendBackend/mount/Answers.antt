use Rattle.flash_sim.specs.Device.{Device}
use Rattle.flash_map.specs.Area.{geometry_of}
use Rattle.flash_map.specs.declared.area.Role.TheVariants.{Nvs as NvsRole, Zms as ZmsRole, Fcb as FcbRole}
use Rattle.backend_api.specs.Room.{foreign_units}
use Rattle.any_backend.proofs.UnitSteps.{mount-by}
use Rattle.any_backend.proofs.backend.AnyBackendBackend.mount.Goals as goal

pub returns-in-Ok-clause-units : goal.returns-in-Ok-clause-units
returns-in-Ok-clause-units g c =
    let d : Device = g.F.Flash.device c.args.flash.now in
    let e : Device = g.F.Flash.device c.mount.new.flash in
    let units = c.mount.ensures.units in
    mount-by d e c.args.area NvsRole (foreign_units (geometry_of d c.args.area)) c.in-Nvs.is units.at_most units.owed units.left

pub returns-in-Err-clause-units : goal.returns-in-Err-clause-units
returns-in-Err-clause-units g c =
    let d : Device = g.F.Flash.device c.args.flash.now in
    let e : Device = g.F.Flash.device c.mount.new.flash in
    let units = c.mount.ensures.units in
    mount-by d e c.args.area NvsRole (foreign_units (geometry_of d c.args.area)) c.in-Nvs.is units.at_most units.owed units.left

pub returns-in-Ok-mount-clause-units : goal.returns-in-Ok-mount-clause-units
returns-in-Ok-mount-clause-units g c =
    let d : Device = g.F.Flash.device c.args.flash.now in
    let e : Device = g.F.Flash.device c.mount-in-Zms.new.flash in
    let units = c.mount-in-Zms.ensures.units in
    mount-by d e c.args.area ZmsRole (foreign_units (geometry_of d c.args.area)) c.in-Zms.is units.at_most units.owed units.left

pub returns-in-Err-mount-clause-units : goal.returns-in-Err-mount-clause-units
returns-in-Err-mount-clause-units g c =
    let d : Device = g.F.Flash.device c.args.flash.now in
    let e : Device = g.F.Flash.device c.mount-in-Zms.new.flash in
    let units = c.mount-in-Zms.ensures.units in
    mount-by d e c.args.area ZmsRole (foreign_units (geometry_of d c.args.area)) c.in-Zms.is units.at_most units.owed units.left

pub returns-in-Ok-mount-2-clause-units : goal.returns-in-Ok-mount-2-clause-units
returns-in-Ok-mount-2-clause-units g c =
    let d : Device = g.F.Flash.device c.args.flash.now in
    let e : Device = g.F.Flash.device c.mount-in-Fcb.new.flash in
    let units = c.mount-in-Fcb.ensures.units in
    mount-by d e c.args.area FcbRole (foreign_units (geometry_of d c.args.area)) c.in-Fcb.is units.at_most units.owed units.left

pub returns-in-Err-mount-2-clause-units : goal.returns-in-Err-mount-2-clause-units
returns-in-Err-mount-2-clause-units g c =
    let d : Device = g.F.Flash.device c.args.flash.now in
    let e : Device = g.F.Flash.device c.mount-in-Fcb.new.flash in
    let units = c.mount-in-Fcb.ensures.units in
    mount-by d e c.args.area FcbRole (foreign_units (geometry_of d c.args.area)) c.in-Fcb.is units.at_most units.owed units.left
