-- the name has a setting, or none
use Rattle.std.proofs.Common.{rules, ◌∙◌}
use Rattle.flash_map.specs.On.{on}
use Rattle.backend_api.specs.Map.{IsAbsent, IsStored}
use Rattle.session.proofs.ReportLemmas.{found, missing}
use Rattle.session.proofs.reporting.get_setting.Goals as goal

pub returns-in_ok-value-in-Ok-Some : goal.returns-in_ok-value-in-Ok-Some
returns-in_ok-value-in-Ok-Some g c =
    let d = g.B.Flash.device c.args.bench.now in
    let area = g.K.Backend.mounted_on c.args.settings.now.backend in
    let stored : IsStored (on g.K.Backend.contents d area) c.args.name.now c.in_ok-value-in-Ok-Some.value = search rules in
    λ registry pool. found g.K.Backend.contents g.K.Backend.room g.K.Backend.chance g.K.Backend.tears c.args.map.now d c.requires.here.powered registry pool area c.args.name.now c.in_ok-value-in-Ok-Some.value (c.requires.here.mounted ∙ c.requires.here.active) stored

pub returns-in-Ok-None : goal.returns-in-Ok-None
returns-in-Ok-None g c =
    let d = g.B.Flash.device c.args.bench.now in
    let area = g.K.Backend.mounted_on c.args.settings.now.backend in
    let absent : IsAbsent (on g.K.Backend.contents d area) c.args.name.now = search rules in
    λ registry pool. missing g.K.Backend.contents g.K.Backend.room g.K.Backend.chance g.K.Backend.tears c.args.map.now d c.requires.here.powered registry pool area c.args.name.now (c.requires.here.mounted ∙ c.requires.here.active) absent
