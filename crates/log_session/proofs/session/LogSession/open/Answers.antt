-- what a mount owes, from the line that it is
use Rattle.log_session.proofs.OwesLemmas.{damaged-left, mount-boots, mount-left}
use Rattle.log_session.proofs.session.LogSession.open.Goals as goal

pub returns-in-Ok-clause-boots : goal.returns-in-Ok-clause-boots
returns-in-Ok-clause-boots g c = mount-boots c.args.area.now c.in-Ok.mounted.answer (g.B.Flash.device c.args.bench.now) (g.B.Flash.device c.mount.new.bench) c.in-Ok.ensures.done

pub returns-in-Ok-clause-left : goal.returns-in-Ok-clause-left
returns-in-Ok-clause-left g c = mount-left c.args.area.now c.in-Ok.mounted.answer (g.B.Flash.device c.args.bench.now) (g.B.Flash.device c.mount.new.bench) c.in-Ok.ensures.done

pub returns-in-Err-clause-left : goal.returns-in-Err-clause-left
returns-in-Err-clause-left g c = damaged-left c.args.area.now c.in-Err.damaged (g.B.Flash.device c.args.bench.now) (g.B.Flash.device c.mount.new.bench) c.in-Err.ensures.damaged
