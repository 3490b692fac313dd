use Rattle.std.proofs.Common.{ap, ◌∙◌}
use Rattle.flash_map.specs.declared.area.Area.{Area}
use Rattle.event_ring.specs.Items.{log_on}
use Rattle.log_session.proofs.LineLemmas.{reported}
use Rattle.log_session.proofs.reporting.report_records.Goals as goal

pub returns : goal.returns
returns g c =
    let d = g.B.Flash.device c.args.bench.now in
    reported c.args.area.now d c.in_ok-bodies.bodies c.requires.on (c.in_ok-bodies.ensures ∙ ap (λ (a : Area). log_on d a) c.requires.area)
