use Rattle.std.proofs.Common.{◌∙◌}
use Rattle.flash_map.specs.Area.{unit_of}
use Rattle.nvs_store.specs.Geometry.{cost}
use Rattle.nvs_gc.specs.Standing.{list_on}
use Rattle.item_laws.proofs.ItemsCost.{items_cost-is}
use Rattle.named_items.proofs.nvs.NvsItemStore.live_cost.Goals as goal

pub returns : goal.returns
returns g c =
    c.live_cost.ensures ∙ items_cost-is (cost (unit_of (g.F.Flash.device c.args.flash.now) c.args.self.now.store.area)) (list_on (g.F.Flash.device c.args.flash.now) c.args.self.now.store.area)
