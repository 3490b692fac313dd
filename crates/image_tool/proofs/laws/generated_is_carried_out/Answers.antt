use Rattle.image_tool.proofs.Generated.{blanks_lack_lines_alone, gen_is_carried_out}
use Rattle.image_tool.proofs.laws.generated_is_carried_out.Goals as goal

pub returns-clause-lines : goal.returns-clause-lines
returns-clause-lines c = blanks_lack_lines_alone

pub returns-clause-done : goal.returns-clause-done
returns-clause-done c = gen_is_carried_out
