use Rattle.fcb_ring.specs.Standing.{erases_on}
use Rattle.event_ring.proofs.MountSteps.{keeps-whole, filled-whole, ring-ok, ring-err, mount-err, mount-err-keeps}
use Rattle.event_ring.proofs.DueSteps.{mount-left, open-left}
use Rattle.event_ring.proofs.event_log.EventLog.mount.Goals as goal

pub returns-in-Ok-clause-ends : goal.returns-in-Ok-clause-ends
returns-in-Ok-clause-ends g c =
    let d = g.F.Flash.device c.args.flash.now in
    let e = g.F.Flash.device c.mount.new.flash in
    let ends = ring-ok d e c.args.area c.mount.result c.in-Ok.ring c.in-Ok.is c.mount.ensures.ends in
    let kept = keeps-whole d e c.args.area (g.met.F.Flash.is_lawful c.args.flash.now) c.requires c.mount.ensures.touches.banks ends.0 (c.mount.ensures.list ends.0) c.in-Ok.ensures.erased in
    (ends.0, record { stands = ends.1; ready = ends.2; reserve = ends.4 }, ends.3, kept, ends.5)

pub returns-in-Ok-clause-filled : goal.returns-in-Ok-clause-filled
returns-in-Ok-clause-filled g c none =
    filled-whole (g.F.Flash.device c.args.flash.now) (g.F.Flash.device c.mount.new.flash) c.args.area (g.met.F.Flash.is_lawful c.args.flash.now) c.requires c.mount.ensures.touches.banks none c.in-Ok.ensures.erased

pub returns-in-Ok-clause-keeps : goal.returns-in-Ok-clause-keeps
returns-in-Ok-clause-keeps g c none =
    keeps-whole (g.F.Flash.device c.args.flash.now) (g.F.Flash.device c.mount.new.flash) c.args.area (g.met.F.Flash.is_lawful c.args.flash.now) c.requires c.mount.ensures.touches.banks none (c.mount.ensures.list none) c.in-Ok.ensures.erased

pub returns-in-Err-clause-ends : goal.returns-in-Err-clause-ends
returns-in-Err-clause-ends g c =
    let d = g.F.Flash.device c.args.flash.now in
    let e = g.F.Flash.device c.mount.new.flash in
    mount-err d e c.args.area (g.met.F.Flash.is_lawful c.args.flash.now) c.requires c.mount.ensures.touches.banks c.in-Err.fault (ring-err d e c.args.area c.mount.result c.in-Err.fault c.in-Err.is c.mount.ensures.ends)
    c.in-Err.ensures.part c.mount.ensures.list

pub returns-in-Err-clause-filled : goal.returns-in-Err-clause-filled
returns-in-Err-clause-filled g c none =
    let d = g.F.Flash.device c.args.flash.now in
    let e = g.F.Flash.device c.mount.new.flash in
    (mount-err-keeps d e c.args.area (g.met.F.Flash.is_lawful c.args.flash.now) c.requires c.mount.ensures.touches.banks c.in-Err.fault (ring-err d e c.args.area c.mount.result c.in-Err.fault c.in-Err.is c.mount.ensures.ends)
    c.in-Err.ensures.part c.mount.ensures.list none).1

pub returns-in-Err-clause-keeps : goal.returns-in-Err-clause-keeps
returns-in-Err-clause-keeps g c none =
    let d = g.F.Flash.device c.args.flash.now in
    let e = g.F.Flash.device c.mount.new.flash in
    (mount-err-keeps d e c.args.area (g.met.F.Flash.is_lawful c.args.flash.now) c.requires c.mount.ensures.touches.banks c.in-Err.fault (ring-err d e c.args.area c.mount.result c.in-Err.fault c.in-Err.is c.mount.ensures.ends)
    c.in-Err.ensures.part c.mount.ensures.list none).0

pub returns-in-Ok-clause-left : goal.returns-in-Ok-clause-left
returns-in-Ok-clause-left g c =
    let d = g.F.Flash.device c.args.flash.now in
    let e = g.F.Flash.device c.mount.new.flash in
    let ends = ring-ok d e c.args.area c.mount.result c.in-Ok.ring c.in-Ok.is c.mount.ensures.ends in
    open-left e c.in-Ok.ring c.args.area (erases_on d c.args.area) ends.3 (record { stands = ends.1; ready = ends.2; reserve = ends.4 })

pub returns-in-Err-clause-left : goal.returns-in-Err-clause-left
returns-in-Err-clause-left g c =
    let d = g.F.Flash.device c.args.flash.now in
    let e = g.F.Flash.device c.mount.new.flash in
    mount-left d e c.args.area c.mount.ensures.touches.banks c.in-Err.fault (ring-err d e c.args.area c.mount.result c.in-Err.fault c.in-Err.is c.mount.ensures.ends) c.in-Err.ensures.part
