use Rattle.std.proofs.Common.{◌+◌, ◌≤◌, arith}
use Rattle.flash_map.specs.Area.{value_limit}
use Rattle.named_items.specs.Limits.{limit-small}
use Rattle.named_items.proofs.nvs.NvsItemStore.price_of.Goals as goal

pub returns-clause-small : goal.returns-clause-small
returns-clause-small g c =
    let most : value_limit c.args.self.now.store.area ≤ 2048 = limit-small c.args.self.now.store.area in
    let cost : c.cost.result ≤ c.args.length + 31 = c.cost.ensures.at_most in
    let short : c.args.length ≤ value_limit c.args.self.now.store.area = c.requires.short in
    omega arith
