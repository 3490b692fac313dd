use Rattle.std.proofs.Common.{ℕ, List, replicate, arith}
use Rattle.flash_sim.specs.Device.{overwritten}
use Rattle.flash_sim.proofs.Contents.{contents_set}
use Rattle.mirror_session.proofs.blanking.erase_in.Goals as goal

pub returns : goal.returns
returns c =
    contents_set c.args.banks.now.items c.args.bank c.index_mut-items.result.now c.erase_range.new.bytes (λ (l : List ℕ). overwritten l c.args.from (replicate c.args.len 255)) (omega arith) c.index_mut-items.ensures.value c.erase_range.ensures
