use Rattle.std.proofs.Common.{Some, arith}
use Rattle.item_laws.proofs.SlotCounts.{used_count_fits}
use Rattle.zms_cycle.specs.Sector.{is_valid}
use Rattle.zms_cycle.proofs.reading.valid_count.Goals as goal

pub returns-clause-count : goal.returns-clause-count
returns-clause-count c =
    let fits = used_count_fits (is_valid (Some c.args.cycle)) 2 16 c.args.sector.now in
    let least = c.valid_within.ensures in
    omega arith

pub returns-clause-fits : goal.returns-clause-fits
returns-clause-fits c =
    let fits = used_count_fits (is_valid (Some c.args.cycle)) 2 16 c.args.sector.now in
    let least = c.valid_within.ensures in
    omega arith
