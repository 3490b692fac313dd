-- what the area owes, from the line that was done
use Rattle.log_session.proofs.OwesLemmas.{line-boots, line-left}
use Rattle.log_session.proofs.session.LogSession.carry_out.Goals as goal

pub returns-clause-boots : goal.returns-clause-boots
returns-clause-boots g c = line-boots c.args.self.now.area c.args.line.now c.run_line.result (g.B.Flash.device c.args.bench.now) (g.B.Flash.device c.run_line.new.bench) c.run_line.ensures.done

pub returns-clause-left : goal.returns-clause-left
returns-clause-left g c = line-left c.args.self.now.area c.args.line.now c.run_line.result (g.B.Flash.device c.args.bench.now) (g.B.Flash.device c.run_line.new.bench) c.run_line.ensures.done c.run_line.ensures.same
