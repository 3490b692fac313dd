use Rattle.session.proofs.LineLemmas.{armed}
use Rattle.session.proofs.planning.plan_loss.Goals as goal

pub returns-clause-done : goal.returns-clause-done
returns-clause-done g c = λ registry pool. armed g.K.Backend.contents g.K.Backend.room g.K.Backend.chance g.K.Backend.tears registry pool c.args.map.now c.args.units (g.B.Flash.device c.args.bench.now) (g.B.Flash.device c.arm.new.self) c.arm.ensures
