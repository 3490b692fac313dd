use Rattle.std.proofs.Common.{length, sym, arith}
use Rattle.flash_map.specs.Area.{value_limit}
use Rattle.backend_fcb.proofs.Limits.{limit-most, one-program}
use Rattle.record_settings.proofs.BodyLemmas.{setting-says}
use Rattle.backend_fcb.proofs.record.put_cost.Goals as goal

pub overflow_cast-body : goal.overflow_cast-body
overflow_cast-body c =
    let most = (setting-says (value_limit c.args.ring.now.area) c.args.body.now c.in-Some.setting.name.now c.in-Some.setting.value.now (sym c.in-Some.ensures)).most in
    omega (arith, limit-most c.args.ring.now.area)

pub record_cost-requires-clause-len : goal.record_cost-requires-clause-len
record_cost-requires-clause-len c =
    let most = (setting-says (value_limit c.args.ring.now.area) c.args.body.now c.in-Some.setting.name.now c.in-Some.setting.value.now (sym c.in-Some.ensures)).most in
    omega (arith, limit-most c.args.ring.now.area)

pub returns-in-Some-clause-small : goal.returns-in-Some-clause-small
returns-in-Some-clause-small c =
    let most = (setting-says (value_limit c.args.ring.now.area) c.args.body.now c.in-Some.setting.name.now c.in-Some.setting.value.now (sym c.in-Some.ensures)).most in
    let one = one-program c.args.unit (value_limit c.args.ring.now.area) (length c.args.body.now) c.requires (limit-most c.args.ring.now.area) most in
    omega (arith, c.record_cost.ensures)
