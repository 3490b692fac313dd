use Rattle.std.proofs.Common.{subst}
use Rattle.zs_host.specs.Outside.{Outside}
use Rattle.image_jobs.specs.Jobs.{file_of}
use Rattle.image_tool.specs.Report.{DeliversOnly}
use Rattle.image_tool.proofs.Ends.{done_by, refused_by, refused_wrote, wrote}
use Rattle.image_tool.proofs.top.carry_out.Goals as goal

pub returns-in-Ok-clause-ends : goal.returns-in-Ok-clause-ends
returns-in-Ok-clause-ends g c =
    done_by _ _ c.args.task.now _ _ (g.H.Host.outside c.prepare.new.host) c.in-Ok.outcome c.deliver.result c.in-Ok.ensures c.deliver.ensures.delivers

pub returns-in-Err-Refused-clause-ends : goal.returns-in-Err-Refused-clause-ends
returns-in-Err-Refused-clause-ends g c =
    refused_by _ _ c.args.task.now _ _ (g.H.Host.outside c.prepare.new.host) c.in-Err-Refused.field-0 _ c.in-Err-Refused.refusal c.refuse.result
    c.in-Err-Refused.field-0-is c.in-Err-Refused.refusal-is c.in-Err-Refused.ensures c.refuse.ensures.reports

pub returns-in-Err-Refused-clause-files : goal.returns-in-Err-Refused-clause-files
returns-in-Err-Refused-clause-files g c =
    refused_wrote _ _ c.args.task.now _ _ (g.H.Host.outside c.refuse.new.host) c.in-Err-Refused.field-0 _
    c.in-Err-Refused.field-0-is c.in-Err-Refused.ensures c.refuse.ensures.files

pub returns-in-Ok-clause-files : goal.returns-in-Ok-clause-files
returns-in-Ok-clause-files g c =
    let before : Outside = g.H.Host.outside c.args.host.now in
    let after : Outside = g.H.Host.outside c.deliver.new.host in
    let prepared = c.in-Ok.ensures in
    let only : DeliversOnly (file_of c.in-Ok.outcome.file) before after =
    subst (λ (o : Outside). DeliversOnly (file_of c.in-Ok.outcome.file) o after) prepared.1 c.deliver.ensures.files in
    wrote _ _ _ _ before after c.args.task.now c.in-Ok.outcome.text.items (file_of c.in-Ok.outcome.file) prepared.0 only
