use Rattle.flash_sim.specs.Device.{Device}
use Rattle.fcb_ring.specs.Changing.{kept_room}
use Rattle.backend_fcb.proofs.TryLemmas.{leaves-room, kept-most, short-cost, tried}
use Rattle.backend_fcb.proofs.writing.try_append.Goals as goal

pub append-requires-clause-short : goal.append-requires-clause-short
append-requires-clause-short g c =
    let a : Device = g.F.Flash.device c.args.flash.now in
    short-cost a c.args.ring.now (g.met.F.Flash.is_lawful c.args.flash.now) c.requires.ready c.args.body.now c.requires.some c.requires.short (kept_room c.args.ring.now c.args.into_reserve) (kept-most a c.args.ring.now c.args.into_reserve c.requires.ready) (leaves-room a c.args.ring.now c.args.body.now c.args.into_reserve c.requires.ready c.requires.no_put)

pub returns-clause-ends : goal.returns-clause-ends
returns-clause-ends g c =
    let a : Device = g.F.Flash.device c.args.flash.now in
    let e : Device = g.F.Flash.device c.append.new.flash in
    tried a c.args.ring.now (g.met.F.Flash.is_lawful c.args.flash.now) c.requires.ready c.args.body.now c.requires.some c.requires.short (kept_room c.args.ring.now c.args.into_reserve) (kept-most a c.args.ring.now c.args.into_reserve c.requires.ready) (leaves-room a c.args.ring.now c.args.body.now c.args.into_reserve c.requires.ready c.requires.no_put)
    e c.append.new.self c.append.result (g.met.F.Flash.is_lawful c.append.new.flash) c.append.ensures.touches.banks c.append.ensures.area c.append.ensures.reserve c.append.ensures.others c.append.ensures.ends
