use Rattle.std.proofs.Common.{◌+◌, ◌-◌, ◌*◌, length, refl}
use Rattle.item_laws.proofs.SlotLemmas.{bytes-slot_at}
use Rattle.zms_cycle.proofs.reading.slot_of.Goals as goal

pub returns-clause-bytes : goal.returns-clause-bytes
returns-clause-bytes c = bytes-slot_at 16 c.args.sector.now c.args.slot (length c.args.sector.now - (c.args.slot + 1) * 16) refl
