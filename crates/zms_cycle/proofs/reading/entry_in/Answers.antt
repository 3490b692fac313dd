use Rattle.zms_cycle.proofs.Scanning.{found_is}
use Rattle.zms_cycle.proofs.reading.entry_in.Goals as goal

pub returns : goal.returns
returns c = found_is c.args.sector.now c.args.slot c.entry_at.result c.ordinary.result c.entry_at.ensures c.ordinary.ensures
