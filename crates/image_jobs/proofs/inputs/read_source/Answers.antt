use Rattle.std.proofs.Common.{sym, subst}
use Rattle.std.specs.Prelude.{All}
use Rattle.session.specs.OnMap.{IsServed}
use Rattle.image_jobs.specs.Reading.{LacksScript}
use Rattle.image_jobs.proofs.Served.{served_generated, served_script}
use Rattle.image_jobs.proofs.inputs.read_source.Goals as goal

pub returns-in-Script-clause-served : goal.returns-in-Script-clause-served
returns-in-Script-clause-served g c = λ enough.
    served_script c.args.limit (g.H.Host.outside c.args.host.now) (g.H.Host.outside c.read_lines.new.host) _ (LacksScript c.args.limit (g.H.Host.outside c.args.host.now) _) c.read_lines.result c.read_lines.ensures

pub returns-in_ok-gen_script-in-Generated-clause-served : goal.returns-in_ok-gen_script-in-Generated-clause-served
returns-in_ok-gen_script-in-Generated-clause-served g c = λ enough.
    subst (All (IsServed c.args.limit)) (sym c.in_ok-gen_script-in-Generated.ensures) (served_generated c.args.limit enough _)
