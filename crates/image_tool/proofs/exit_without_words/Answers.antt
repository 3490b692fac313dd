use Rattle.image_tool.proofs.exit_without_words.Goals as goal

pub returns : goal.returns
returns g c = (c.no_words.result, c.code.ensures, c.no_words.ensures.ends)
