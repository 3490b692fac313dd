use Rattle.any_backend.proofs.TestBeds.{ready-after}
use Rattle.library_tests.proofs.settings.mounted.Goals as goal

pub returns-clause-ready : goal.returns-clause-ready
returns-clause-ready g c =
    ready-after (g.B.Flash.device c.args.bench.now) (g.B.Flash.device c.mount.new.flash) c.args.area.now c.in-Ok.backend c.in-Ok.ensures.touches.banks c.requires.lawful c.in-Ok.ensures.on c.in-Ok.ensures.stands
