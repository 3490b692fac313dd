use Rattle.std.proofs.Common.{◌≡◌, ◌+◌, ◌≤◌, arith}
use Rattle.zms_cycle.specs.Sector.{data_len}
use Rattle.mirror.proofs.PriceLemmas.{data-small}
use Rattle.mirror.proofs.store.MirrorStorePriced.price.Goals as goal

pub returns-in-Zms-clause-small : goal.returns-in-Zms-clause-small
returns-in-Zms-clause-small g c =
    let value : c.cost-in-Zms.result ≡ 16 + data_len c.args.length = c.cost-in-Zms.ensures.value in
    let small : data_len c.args.length ≤ c.args.length + 15 = data-small c.args.length in
    omega (arith, c.from.ensures, value, small, c.requires.short)
