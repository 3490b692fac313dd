use Rattle.std.proofs.Common.{◌≡◌, ap, ◌∙◌, None, rules}
use Rattle.flash_map.specs.declared.area.Area.{Area}
use Rattle.flash_map.specs.On.{on}
use Rattle.session.specs.Lists.{pairs_under}
use Rattle.session.proofs.ReportLemmas.{names}
use Rattle.session.proofs.reporting.report_all.Goals as goal

pub returns : goal.returns
returns g c =
    let label : c.in_ok-active.active ≡ c.args.area.now.label.bytes = search rules in
    λ registry pool. names g.K.Backend.contents g.K.Backend.room g.K.Backend.chance g.K.Backend.tears c.args.map.now (g.B.Flash.device c.args.bench.now) c.requires.here.powered registry pool _ _ (label ∙ ap (λ (a : Area). a.label.bytes) c.requires.here.active) (c.in_ok-pairs.ensures ∙ ap (λ (a : Area). pairs_under None (on g.K.Backend.contents (g.B.Flash.device c.args.bench.now) a)) c.requires.here.active)
