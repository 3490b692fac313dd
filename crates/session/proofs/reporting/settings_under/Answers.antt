use Rattle.session.proofs.ListLemmas.{under_reported}
use Rattle.session.proofs.reporting.settings_under.Goals as goal

pub returns-in-Ok : goal.returns-in-Ok
returns-in-Ok g c = under_reported g.K.Backend.contents (g.B.Flash.device c.args.bench.now) (g.K.Backend.mounted_on c.args.settings.now.backend) c.args.area.now _ _ _ c.requires.area c.new.ensures c.in-Ok.ensures.2
