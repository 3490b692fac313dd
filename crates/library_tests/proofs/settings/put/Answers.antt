use Rattle.std.proofs.Common.{length}
use Rattle.any_backend.specs.Standing.{area_of}
use Rattle.any_backend.proofs.TestBeds.{ready-after, short-value}
use Rattle.library_tests.proofs.settings.put.Goals as goal

pub set-requires-clause-short : goal.set-requires-clause-short
set-requires-clause-short g c = short-value (area_of c.args.backend.now) (length c.args.value.now) c.requires.short

pub returns-clause-ready : goal.returns-clause-ready
returns-clause-ready g c = λ kept.
    ready-after (g.B.Flash.device c.args.bench.now) (g.B.Flash.device c.set.new.flash) (area_of c.args.backend.now) c.set.new.self c.set.ensures.touches.banks c.requires.ready.lawful c.set.ensures.area (c.set.ensures.stands kept)
