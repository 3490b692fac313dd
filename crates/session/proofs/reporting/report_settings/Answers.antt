use Rattle.std.proofs.Common.{ℕ, List, Option, ap, ◌∙◌}
use Rattle.flash_map.specs.declared.area.Area.{Area}
use Rattle.flash_map.specs.On.{on}
use Rattle.session.specs.Lists.{pairs_under}
use Rattle.session.proofs.ReportLemmas.{reports}
use Rattle.session.proofs.reporting.report_settings.Goals as goal

pub returns : goal.returns
returns g c =
    let d = g.B.Flash.device c.args.bench.now in
    λ registry pool. reports g.K.Backend.contents g.K.Backend.room g.K.Backend.chance g.K.Backend.tears c.args.map.now d c.requires.here.powered registry pool c.args.subtree.now c.in_ok-pairs.pairs
    (c.in_ok-pairs.ensures
    ∙ ap (λ (o : Option (List ℕ)). pairs_under o (on g.K.Backend.contents d c.args.area.now)) c.as_ref.ensures.value
    ∙ ap (λ (a : Area). pairs_under c.args.subtree.now (on g.K.Backend.contents d a)) c.requires.here.active)
