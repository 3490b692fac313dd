use Rattle.std.proofs.Common.{sym, ◌∙◌}
use Rattle.image_jobs.proofs.Served.{no_label}
use Rattle.image_jobs.proofs.carrying.label_at.Goals as goal

pub returns-in-None : goal.returns-in-None
returns-in-None c = c.new.ensures ∙ sym (no_label c.args.areas.now c.args.place (sym c.in-None.ensures))
