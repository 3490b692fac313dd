use Rattle.std.proofs.Common.{[], ℕ, List, arith}
use Rattle.flash_sim.specs.Device.{overwritten}
use Rattle.flash_sim.proofs.Contents.{changed, kept}
use Rattle.flash_sim.proofs.sim.write.Goals as goal

pub returns-clause-bytes : goal.returns-clause-bytes
returns-clause-bytes g c =
    changed g.S.Storage.held c.args.all.now.items c.args.bank c.index_mut-store.result.now c.write.new.self [] (omega arith) c.index_mut-store.ensures.value (λ (l : List ℕ). overwritten l c.args.offset c.args.bytes.now) c.write.ensures.bytes

pub returns-clause-sizes : goal.returns-clause-sizes
returns-clause-sizes g c =
    kept g.S.Storage.sector_size c.args.all.now.items c.args.bank c.index_mut-store.result.now c.write.new.self 0 (omega arith) c.index_mut-store.ensures.value c.write.ensures.size
