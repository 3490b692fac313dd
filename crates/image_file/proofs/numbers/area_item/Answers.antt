use Rattle.image_file.proofs.NumberLemmas.{area_item_is}
use Rattle.image_file.proofs.numbers.area_item.Goals as goal

pub returns : goal.returns
returns c =
    area_item_is c.args.item.now c.in_ok-role.role.now c.in_ok-role.label.now c.in_ok-role.bank.now c.in_ok-role.first.now c.in_ok-role.sectors.now c.in_ok-role.ensures
    c.args.version c.role_of.result c.in_ok-label.label c.number_of.result c.number_of-2.result c.number_of-3.result c.area_from.result c.in_ok-label.ensures.0 c.in_ok-label.ensures.1
    c.role_of.ensures c.number_of.ensures c.number_of-2.ensures c.number_of-3.ensures c.area_from.ensures
