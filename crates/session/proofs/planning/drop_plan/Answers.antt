use Rattle.session.proofs.LineLemmas.{disarmed}
use Rattle.session.proofs.planning.drop_plan.Goals as goal

pub returns-clause-done : goal.returns-clause-done
returns-clause-done g c = λ registry pool. disarmed g.K.Backend.contents g.K.Backend.room g.K.Backend.chance g.K.Backend.tears registry pool c.args.map.now (g.B.Flash.device c.args.bench.now) (g.B.Flash.device c.disarm.new.self) c.disarm.ensures
