use Rattle.item_session.proofs.LineLemmas.{planned}
use Rattle.item_session.proofs.planning.plan_loss.Goals as goal

pub returns-clause-done : goal.returns-clause-done
returns-clause-done g c = planned g.T.SlotSectors.format_of c.args.area.now (g.B.Flash.device c.args.bench.now) (g.B.Flash.device c.arm.new.self) c.args.units c.arm.ensures
