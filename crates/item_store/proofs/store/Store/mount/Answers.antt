use Rattle.std.proofs.Common.{inl, refl}
use Rattle.flash_sim.specs.Device.{Device}
use Rattle.flash_map.specs.Area.{geometry_of, sector_size}
use Rattle.item_store.proofs.MountSteps.{mount-nothing}
use Rattle.item_store.proofs.store.Store.mount.Goals as goal

pub returns-in-Err-clause-at_most : goal.returns-in-Err-clause-at_most
returns-in-Err-clause-at_most g c =
    let a : Device = g.F.Flash.device c.args.flash.now in
    mount-nothing a ((g.T.SlotSectors.format_of (geometry_of a c.args.area)).units.mount (sector_size a c.args.area))

pub returns-in-Err-clause-written : goal.returns-in-Err-clause-written
returns-in-Err-clause-written g c =
    λ written. written

pub returns-in-Err-clause-changed : goal.returns-in-Err-clause-changed
returns-in-Err-clause-changed g c =
    inl refl

pub mount_with-requires-clause-empty : goal.mount_with-requires-clause-empty
mount_with-requires-clause-empty g c =
    c.in-Ok.ensures

pub returns-in-Ok-clause-touches : goal.returns-in-Ok-clause-touches
returns-in-Ok-clause-touches g c =
    c.mount_with.ensures.touches

pub returns-in-Ok-clause-ends : goal.returns-in-Ok-clause-ends
returns-in-Ok-clause-ends g c =
    c.mount_with.ensures.ends

pub returns-in-Ok-clause-at_most : goal.returns-in-Ok-clause-at_most
returns-in-Ok-clause-at_most g c =
    c.mount_with.ensures.at_most

pub returns-in-Ok-clause-written : goal.returns-in-Ok-clause-written
returns-in-Ok-clause-written g c =
    c.mount_with.ensures.written

pub returns-in-Ok-clause-changed : goal.returns-in-Ok-clause-changed
returns-in-Ok-clause-changed g c =
    c.mount_with.ensures.changed

pub returns-in-Err-clause-marks : goal.returns-in-Err-clause-marks
returns-in-Err-clause-marks g c =
    inl refl

pub returns-in-Ok-clause-marks : goal.returns-in-Ok-clause-marks
returns-in-Ok-clause-marks g c =
    c.mount_with.ensures.marks
