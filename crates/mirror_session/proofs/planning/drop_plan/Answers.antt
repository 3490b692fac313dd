use Rattle.mirror_session.specs.Bench.{meanings}
use Rattle.mirror_session.proofs.QuietLemmas.{unplanned}
use Rattle.mirror_session.proofs.planning.drop_plan.Goals as goal

pub returns-clause-done : goal.returns-clause-done
returns-clause-done g c = λ whole.
    rw (c.done.ensures) (unplanned (meanings g.K.Backend.damage g.K.Backend.contents g.K.Backend.rests g.K.Backend.room g.K.Priced.prices g.K.Backend.owes) c.args.map.now (g.B.Flash.device c.args.bench.now) (g.B.Flash.device c.disarm.new.self) c.disarm.ensures whole)
