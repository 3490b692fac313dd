use Rattle.std.proofs.Common.{sym}
use Rattle.zms_cycle.proofs.SlotSearch.{none_listed}
use Rattle.zms_cycle.proofs.searching.listed_slots.Goals as goal

pub returns-in-None : goal.returns-in-None
returns-in-None c = none_listed c.args.sector.now (sym c.in-None.ensures)
