use Rattle.image_file.proofs.NumberLemmas.{bank_item_is, no_bank_item}
use Rattle.image_file.proofs.numbers.bank_item.Goals as goal

pub returns-in_err-kind : goal.returns-in_err-kind
returns-in_err-kind c = rw c.from_residual.ensures (no_bank_item c.args.item.now c.in_err-kind.ensures)

pub returns : goal.returns
returns c =
    bank_item_is c.args.item.now c.in_ok-kind.kind.now c.in_ok-kind.unit.now c.in_ok-kind.sector.now c.in_ok-kind.count.now c.in_ok-kind.ensures
    c.kind_of.result c.number_of.result c.number_of-2.result c.number_of-3.result c.bank_from.result c.kind_of.ensures c.number_of.ensures c.number_of-2.ensures c.number_of-3.ensures c.bank_from.ensures
