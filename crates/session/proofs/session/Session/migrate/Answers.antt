use Rattle.std.proofs.Common.{refl}
use Rattle.script_lines.specs.declared.line.Line.TheVariants.{Migrate}
use Rattle.session.specs.OnMap.{meanings}
use Rattle.session.proofs.ReadyLemmas.{carried, migrate_is_none}
use Rattle.session.proofs.session.Session.migrate.Goals as goal

pub returns-in-Ok-clause-done : goal.returns-in-Ok-clause-done
returns-in-Ok-clause-done g c =
    carried (meanings g.K.Backend.contents g.K.Backend.room g.K.Backend.chance g.K.Backend.tears) g.K.Backend.damage c.args.map.now Migrate (g.B.Flash.device c.args.bench.now) (g.B.Flash.device c.move_settings.new.bench) c.in-Ok.answer migrate_is_none (λ replans. absurd (replans refl)) (λ was. c.in-Ok.ensures.sound) c.in-Ok.ensures.selector c.in-Ok.ensures.chosen c.in-Ok.ensures.done
