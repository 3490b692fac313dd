use Rattle.std.proofs.Common.{◌∙◌}
use Rattle.flash_map.specs.Area.{geometry_of, value_limit}
use Rattle.flash_map.specs.On.{on}
use Rattle.backend_zms.proofs.CandidateSteps.{cost-clean}
use Rattle.backend_zms.proofs.numbering.ZmsIdLayoutIdLayout.settings_cost.Goals as goal

pub returns : goal.returns
returns g c =
    let d = g.F.Flash.device c.args.flash.now in
    let area = g.S.ItemStore.mounted_on c.args.store.now in
    c.live_cost.ensures ∙ cost-clean (value_limit area) (on g.S.ItemStore.contents d area) c.requires.clean (g.S.ItemStore.price (geometry_of d area))
