use Rattle.image_tool.proofs.Ends.{command_ends, command_wrote}
use Rattle.image_tool.proofs.top.serve.Goals as goal

pub returns-in-Ok-Some-clause-ends : goal.returns-in-Ok-Some-clause-ends
returns-in-Ok-Some-clause-ends g c =
    command_ends _ c.in-Ok-Some.field-0 _ c.in-Ok-Some.command c.in-Ok-Some.field-0-is c.in-Ok-Some.command-is c.in-Ok-Some.ensures
    _ _ c.task_of-task.result _ _ c.carry_out.result c.task_of-task.ensures c.carry_out.ensures.ends

pub returns-in-Ok-Some-clause-files : goal.returns-in-Ok-Some-clause-files
returns-in-Ok-Some-clause-files g c =
    command_wrote _ c.in-Ok-Some.field-0 _ c.in-Ok-Some.command c.in-Ok-Some.field-0-is c.in-Ok-Some.command-is c.in-Ok-Some.ensures
    c.task_of-task.result (g.H.Host.outside c.args.host.now) (g.H.Host.outside c.carry_out.new.host) c.task_of-task.ensures c.carry_out.ensures.files
