use Rattle.std.proofs.Common.{◌∙◌}
use Rattle.zms_cycle.specs.Sector.{cost}
use Rattle.zms_store.specs.Standing.{list_on}
use Rattle.item_laws.proofs.ItemsCost.{items_cost-is}
use Rattle.named_items.proofs.zms.ZmsItemStore.live_cost.Goals as goal

pub returns : goal.returns
returns g c =
    c.live_cost.ensures ∙ items_cost-is cost (list_on (g.F.Flash.device c.args.flash.now) c.args.self.now.store.area)
