use Rattle.std.proofs.Common.{refl}
use Rattle.session_jobs.proofs.LogInputLemmas.{no_plain_log}
use Rattle.session_jobs.proofs.log_opening.with_log.Goals as goal

pub returns : goal.returns
returns c = (refl, no_plain_log c.args.image.map c.in-None.ensures)
