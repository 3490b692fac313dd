use Rattle.image_jobs.proofs.LineLemmas.{lines_are_served}
use Rattle.image_jobs.proofs.laws.lines_fit.Goals as goal

pub returns : goal.returns
returns c = lines_are_served
