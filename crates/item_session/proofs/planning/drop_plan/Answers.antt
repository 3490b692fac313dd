use Rattle.item_session.proofs.LineLemmas.{unplanned}
use Rattle.item_session.proofs.planning.drop_plan.Goals as goal

pub returns-clause-done : goal.returns-clause-done
returns-clause-done g c = unplanned g.T.SlotSectors.format_of c.args.area.now (g.B.Flash.device c.args.bench.now) (g.B.Flash.device c.disarm.new.self) c.disarm.ensures
