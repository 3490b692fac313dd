use Rattle.std.proofs.Common.{arith}
use Rattle.flash_sim.proofs.Shaped.{is-sector, erase-is}
use Rattle.flash_sim.proofs.sparse_bytes.SparseBytesStorage.erase.Goals as goal

pub index_mut-requires : goal.index_mut-requires
index_mut-requires c = let s = c.args.self.now in let h = is-sector s.size s.buffer.items s.starts.items s.shaped c.args.sector c.requires in omega arith

pub returns-clause-bytes : goal.returns-clause-bytes
returns-clause-bytes c =
    let s = c.args.self.now in
    erase-is s.size s.buffer.items s.starts.items s.shaped c.args.sector (is-sector s.size s.buffer.items s.starts.items s.shaped c.args.sector c.requires)
