use Rattle.std.proofs.Common.{arith}
use Rattle.zms_store.proofs.sectors.ZmsOpenSlotSectors.has_short_ids.Goals as goal

pub returns-clause-wide : goal.returns-clause-wide
returns-clause-wide c = λ geometry small. absurd (omega arith)
