use Rattle.image_tool.proofs.exit_after.Goals as goal

pub returns : goal.returns
returns g c = (c.tool.result, c.code.ensures, c.tool.ensures.ends)
