-- The bytes of a bank whose erased sectors share theirs.
use Rattle.std.specs.Prelude.{ℕ, List}
use Rattle.flash_sim.specs.declared.sparse_bytes.SparseBytes.{SparseBytes}
use Rattle.flash_sim.specs.Sparse.{shown}

abbrev pub bytes_in : SparseBytes → List ℕ
bytes_in it = shown it.size it.buffer.items it.starts.items
