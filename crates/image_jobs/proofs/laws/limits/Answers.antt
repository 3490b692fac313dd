use Rattle.image_jobs.proofs.ServedLemmas.{each_limit, one_limit}
use Rattle.image_jobs.proofs.laws.limits.Goals as goal

pub returns : goal.returns
returns c = record { map = one_limit; each = each_limit }
