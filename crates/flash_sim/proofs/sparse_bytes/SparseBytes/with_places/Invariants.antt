use Rattle.std.proofs.Common.{◌≡◌, ℕ, ◌+◌, ◌*◌, ◌<◌, take, length, get_or}
use Rattle.flash_sim.specs.Sparse.{shown}
use Rattle.flash_sim.proofs.sparse_bytes.SparseBytes.with_places.Given as goal

abbrev pub invariant-loop-sector : goal.invariant-loop-sector
invariant-loop-sector l = record {
  count : length l.starts.items ≡ l.sector;
  bytes : shown l.size l.buffer.items l.starts.items ≡ take (l.sector * l.size) l.bytes;
  own : (s : ℕ) → s < length l.starts.items → (get_or l.starts.items s 0 ≡ 0 → ⊥) → get_or l.starts.items s 0 ≡ (s + 1) * l.size;
}
