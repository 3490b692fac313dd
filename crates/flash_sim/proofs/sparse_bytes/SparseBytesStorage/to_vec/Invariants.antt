use Rattle.std.proofs.Common.{◌≡◌, take}
use Rattle.flash_sim.specs.Sparse.{shown}
use Rattle.flash_sim.proofs.sparse_bytes.SparseBytesStorage.to_vec.Given as goal

abbrev pub invariant-loop-start : goal.invariant-loop-start
invariant-loop-start l = l.copy.items ≡ shown l.self.size l.self.buffer.items (take l.start-index l.self.starts.items)
