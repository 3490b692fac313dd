use Rattle.std.proofs.Common.{◌≡◌, arith}
use Rattle.std.proofs.lemmas.Bool.{false≢true}
use Rattle.migrator.proofs.Collecting.{active-kept}
use Rattle.flash_sim.specs.Device.{Device}
use Rattle.fcb_ring.specs.Standing.{erases_on}
use Rattle.migrator.proofs.ErasesLeft.{fault-left, ready-left}
use Rattle.migrator.specs.declared.selecting.Selector.{Selector}
use Rattle.migrator.proofs.Putting.{mount-bound}
use Rattle.migrator.proofs.selecting.Selector.mount.Goals as goal

pub returns-in-Err-clause-bound : goal.returns-in-Err-clause-bound
returns-in-Err-clause-bound g c lost = mount-bound Selector (g.F.Flash.device c.args.flash.now) (g.F.Flash.device c.mount.new.flash) c.args.area 0 c.in-Err.fault c.in-Err.ensures.ends lost

pub returns-in-Ok-clause-left : goal.returns-in-Ok-clause-left
returns-in-Ok-clause-left g c =
    let e : Device = g.F.Flash.device c.mount.new.flash in
    let none : erases_on e c.args.area ≡ 0 = ready-left e c.in-Ok.ring c.args.area c.in-Ok.ensures.ends.3 c.in-Ok.ensures.ends.1 c.in-Ok.ensures.ends.2 in
    omega (arith, none)

pub returns-in-Err-clause-left : goal.returns-in-Err-clause-left
returns-in-Err-clause-left g c =
    fault-left Selector (g.F.Flash.device c.args.flash.now) (g.F.Flash.device c.mount.new.flash) c.args.area 0 c.in-Err.fault c.in-Err.ensures.touches.banks c.in-Err.ensures.ends c.in-Err.ensures.part

pub mount-requires : goal.mount-requires
mount-requires g c = c.requires

pub returns-in-Ok-clause-touches : goal.returns-in-Ok-clause-touches
returns-in-Ok-clause-touches g c = c.in-Ok.ensures.touches

pub returns-in-Ok-clause-ends : goal.returns-in-Ok-clause-ends
returns-in-Ok-clause-ends g c = let ends = c.in-Ok.ensures.ends in (ends.0, record { stands = ends.1; ready = ends.2; reserve = ends.4 }, ends.3)

pub returns-in-Ok-clause-sound : goal.returns-in-Ok-clause-sound
returns-in-Ok-clause-sound g c none = (c.in-Ok.ensures.list none).undamaged

pub returns-in-Ok-clause-active : goal.returns-in-Ok-clause-active
returns-in-Ok-clause-active g c none areas = active-kept areas (g.F.Flash.device c.args.flash.now) (g.F.Flash.device c.mount.new.flash) c.args.area (c.in-Ok.ensures.list none)

pub returns-in-Ok-clause-idle : goal.returns-in-Ok-clause-idle
returns-in-Ok-clause-idle g c = c.in-Ok.ensures.idle

pub returns-in-Ok-clause-erased : goal.returns-in-Ok-clause-erased
returns-in-Ok-clause-erased g c = c.in-Ok.ensures.erased

pub returns-in-Ok-clause-part : goal.returns-in-Ok-clause-part
returns-in-Ok-clause-part g c = c.in-Ok.ensures.part

pub returns-in-Ok-clause-list : goal.returns-in-Ok-clause-list
returns-in-Ok-clause-list g c = c.in-Ok.ensures.list

pub returns-in-Ok-clause-units : goal.returns-in-Ok-clause-units
returns-in-Ok-clause-units g c = c.in-Ok.ensures.ends.5

pub returns-in-Ok-clause-bound : goal.returns-in-Ok-clause-bound
returns-in-Ok-clause-bound g c lost = absurd (false≢true lost)

pub returns-in-Err-clause-touches : goal.returns-in-Err-clause-touches
returns-in-Err-clause-touches g c = c.in-Err.ensures.touches

pub returns-in-Err-clause-sound : goal.returns-in-Err-clause-sound
returns-in-Err-clause-sound g c none = (c.in-Err.ensures.list none).undamaged

pub returns-in-Err-clause-active : goal.returns-in-Err-clause-active
returns-in-Err-clause-active g c none areas = active-kept areas (g.F.Flash.device c.args.flash.now) (g.F.Flash.device c.mount.new.flash) c.args.area (c.in-Err.ensures.list none)

pub returns-in-Err-clause-idle : goal.returns-in-Err-clause-idle
returns-in-Err-clause-idle g c = c.in-Err.ensures.idle

pub returns-in-Err-clause-erased : goal.returns-in-Err-clause-erased
returns-in-Err-clause-erased g c = tt

pub returns-in-Err-clause-part : goal.returns-in-Err-clause-part
returns-in-Err-clause-part g c = c.in-Err.ensures.part

pub returns-in-Err-clause-list : goal.returns-in-Err-clause-list
returns-in-Err-clause-list g c = c.in-Err.ensures.list

pub returns-in-Err-clause-units : goal.returns-in-Err-clause-units
returns-in-Err-clause-units g c = tt
