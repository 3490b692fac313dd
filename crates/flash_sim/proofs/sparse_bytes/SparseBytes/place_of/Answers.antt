use Rattle.std.proofs.Common.{◌≡◌, ◌<◌, ◌+◌, ◌/◌, ◌%◌, ℕ, get_or, length, ap, ◌∙◌, arith}
use Rattle.std.proofs.lemmas.List.{get_or_default}
use Rattle.std.proofs.lemmas.Nat.{mod_below}
use Rattle.flash_sim.proofs.Shaped.{has-sector, view-is, within}
use Rattle.flash_sim.proofs.sparse_bytes.SparseBytes.place_of.Goals as goal

pub index-requires : goal.index-requires
index-requires c = let s = c.args.self.now in let h = has-sector s.size s.buffer.items s.starts.items s.shaped c.args.offset c.requires in omega arith

-- the sector is there, and this is where its bytes start
is-there : (c : goal.After-row_known-1) → c.args.offset / c.args.self.now.size < length c.args.self.now.starts.items
is-there c = let s = c.args.self.now in has-sector s.size s.buffer.items s.starts.items s.shaped c.args.offset c.requires

starts-at : (c : goal.After-row_known-1) → c.index.result.now ≡ get_or c.args.self.now.starts.items (c.args.offset / c.args.self.now.size) 0
starts-at c = c.index.ensures ∙ get_or_default c.args.self.now.starts.items (c.args.offset / c.args.self.now.size) c.index.result.now 0 (is-there c)

pub overflow_add-result : goal.overflow_add-result
overflow_add-result c =
    let s = c.args.self.now in
    omega (arith, within s.size s.buffer.items s.starts.items s.shaped c.args.offset (is-there c), starts-at c, mod_below c.args.offset s.size s.shaped.some)

pub returns-clause-room : goal.returns-clause-room
returns-clause-room c =
    let s = c.args.self.now in
    omega (arith, within s.size s.buffer.items s.starts.items s.shaped c.args.offset (is-there c), starts-at c)

pub returns-clause-reads : goal.returns-clause-reads
returns-clause-reads c = λ len one.
    let s = c.args.self.now in
    view-is s.size s.buffer.items s.starts.items s.shaped c.args.offset len (c.index.result.now + c.args.offset % s.size) (is-there c) (ap (λ (n : ℕ). n + c.args.offset % s.size) (starts-at c)) one
