use Rattle.std.proofs.Common.{arith}
use Rattle.item_store.proofs.SeenSteps.{no_bit}
use Rattle.item_store.proofs.live.LiveEntries.new.Goals as goal

pub returns : goal.returns
returns c =
    λ index below. no_bit 4096 index (omega arith)
