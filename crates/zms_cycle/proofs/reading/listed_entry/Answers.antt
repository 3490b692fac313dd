use Rattle.std.proofs.Common.{Some, sym}
use Rattle.zms_cycle.proofs.Scanning.{found_is}
use Rattle.zms_cycle.proofs.reading.listed_entry.Goals as goal

pub returns : goal.returns
returns c = found_is c.args.sector.now c.args.slot (Some c.listed_at.result) c.ordinary.result (sym c.listed_at.ensures) c.ordinary.ensures
