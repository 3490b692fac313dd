use Rattle.std.specs.Prelude.{is_some}
use Rattle.std.proofs.Common.{false}
use Rattle.session.specs.Owing.{greatest_boot}
use Rattle.mirror_session.specs.Bench.{moment}
use Rattle.mirror_session.proofs.OwesLemmas.{up-wider}
use Rattle.mirror_session.proofs.carrying.MirrorSession.mount.Goals as goal

pub returns-in-Ok-clause-done : goal.returns-in-Ok-clause-done
returns-in-Ok-clause-done g c = c.in-Ok.ensures.done (is_some c.args.self.now.mirror)

pub returns-in-Ok-clause-boots : goal.returns-in-Ok-clause-boots
returns-in-Ok-clause-boots g c = c.in-Ok.ensures.boots

pub returns-in-Ok-clause-left : goal.returns-in-Ok-clause-left
returns-in-Ok-clause-left g c =
    let K = g.K.Backend in
    let d = g.B.Flash.device c.args.bench.now in
    let e = g.B.Flash.device c.mount.new.bench in
    let was = is_some c.args.self.now.mirror in
    up-wider K.owes c.args.map.now (greatest_boot K.boot_units d.banks c.args.map.now) (moment d was) (moment e (is_some c.in-Ok.mounted.mirror)) (c.in-Ok.ensures.left was)

pub returns-in-Ok-clause-kept : goal.returns-in-Ok-clause-kept
returns-in-Ok-clause-kept g c =
    let K = g.K.Backend in
    let d = g.B.Flash.device c.args.bench.now in
    let e = g.B.Flash.device c.mount.new.bench in
    let was = is_some c.args.self.now.mirror in
    up-wider K.owes c.args.map.now (greatest_boot K.boot_units d.banks c.args.map.now) (moment d was) (moment e false) (c.mount.ensures.kept was)

pub returns-in-Err-clause-kept : goal.returns-in-Err-clause-kept
returns-in-Err-clause-kept g c =
    let K = g.K.Backend in
    let d = g.B.Flash.device c.args.bench.now in
    let e = g.B.Flash.device c.mount.new.bench in
    let was = is_some c.args.self.now.mirror in
    up-wider K.owes c.args.map.now (greatest_boot K.boot_units d.banks c.args.map.now) (moment d was) (moment e false) (c.mount.ensures.kept was)

pub returns-in-Err-clause-stops : goal.returns-in-Err-clause-stops
returns-in-Err-clause-stops g c = c.in-Err.ensures.stops (is_some c.args.self.now.mirror)
