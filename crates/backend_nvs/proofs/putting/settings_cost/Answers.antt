use Rattle.std.proofs.Common.{sym, ◌∙◌}
use Rattle.flash_map.specs.Area.{geometry_of, value_limit}
use Rattle.flash_map.specs.declared.area.Area.{Area}
use Rattle.flash_map.specs.declared.area.Geometry.{Geometry}
use Rattle.flash_sim.specs.Device.{Device}
use Rattle.flash_map.specs.On.{on}
use Rattle.backend_nvs.proofs.CountSteps.{cost-counted, cost-uncounted}
use Rattle.backend_nvs.proofs.putting.settings_cost.Goals as goal

pub returns-in-Some : goal.returns-in-Some
returns-in-Some g c =
    let d : Device = g.F.Flash.device c.args.flash.now in
    let area : Area = g.S.ItemStore.mounted_on c.args.store.now in
    let k : Geometry = geometry_of d area in
    c.live_cost.ensures ∙ cost-counted (value_limit area) (on g.S.ItemStore.contents d area) c.requires.clean (g.S.ItemStore.price k) (g.S.ItemStore.cap k) c.in-Some.field-0.now (sym c.in-Some.ensures)

pub returns-in-None : goal.returns-in-None
returns-in-None g c =
    let d : Device = g.F.Flash.device c.args.flash.now in
    let area : Area = g.S.ItemStore.mounted_on c.args.store.now in
    let k : Geometry = geometry_of d area in
    c.price_of.ensures.value ∙ cost-uncounted (value_limit area) (on g.S.ItemStore.contents d area) c.requires.clean (g.S.ItemStore.price k) (g.S.ItemStore.cap k) (sym c.in-None.ensures)
