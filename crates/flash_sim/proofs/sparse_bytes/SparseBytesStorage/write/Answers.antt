use Rattle.std.proofs.Common.{◌≡◌, ◌<◌, ◌≤◌, ◌+◌, ◌*◌, ◌/◌, ◌%◌, ℕ, List, get_or, length, Fits, w64, sym, ap, subst, ◌∙◌, arith}
use Rattle.flash_sim.specs.Device.{overwritten}
use Rattle.flash_sim.specs.Sparse.{shown, IsShaped}
use Rattle.flash_sim.specs.declared.sparse_bytes.SparseBytes.{SparseBytes}
use Rattle.flash_sim.proofs.Shaped.{has-sector, place-fits, written-shaped, write-is}
use Rattle.flash_sim.proofs.Vecs.{within_vec, fits-within}
use Rattle.flash_sim.proofs.sparse_bytes.SparseBytesStorage.write.Goals as goal

pub take_place-requires : goal.take_place-requires
take_place-requires c = let s = c.args.self.now in has-sector s.size s.buffer.items s.starts.items s.shaped c.args.offset c.requires.has_sector

-- once the sector has its place
record HasPlace (taken : SparseBytes) (offset at len : ℕ) : Type 0 where
  sector : offset / taken.size < length taken.starts.items
  place : at ≡ (offset / taken.size + 1) * taken.size
  start : get_or taken.starts.items (offset / taken.size) 0 ≡ at
  one : offset % taken.size + len ≤ taken.size

has_place : (old taken : SparseBytes) (offset at len : ℕ) → offset / old.size < length old.starts.items → taken.size ≡ old.size → length taken.starts.items ≡ length old.starts.items
    → at ≡ (offset / old.size + 1) * old.size → get_or taken.starts.items (offset / old.size) 0 ≡ at → offset % old.size + len ≤ old.size → HasPlace taken offset at len
has_place old taken offset at len lt size count place start one = record {
  sector = subst (λ (z : ℕ). offset / z < length taken.starts.items) (sym size) (subst (λ (n : ℕ). offset / old.size < n) (sym count) lt);
  place = subst (λ (z : ℕ). at ≡ (offset / z + 1) * z) (sym size) place;
  start = subst (λ (z : ℕ). get_or taken.starts.items (offset / z) 0 ≡ at) (sym size) start;
  one = subst (λ (z : ℕ). offset % z + len ≤ z) (sym size) one;
}

-- the bytes are in the buffer, behind the shared sector
in-buffer : (t : SparseBytes) (offset at len : ℕ) → HasPlace t offset at len → at + offset % t.size + len ≤ length t.buffer.items
in-buffer t offset at len has =
    let fits = place-fits t.size t.buffer.items t.starts.items t.shaped (offset / t.size) has.sector in
    let place = has.place in
    let one = has.one in
    omega arith

starts-fit : (t : SparseBytes) (offset at len : ℕ) → HasPlace t offset at len → Fits w64 (at + offset % t.size)
starts-fit t offset at len has = let room = in-buffer t offset at len has in fits-within t.buffer (at + offset % t.size) (omega arith)

behind-shared : (t : SparseBytes) (offset at len : ℕ) → HasPlace t offset at len → t.size ≤ at + offset % t.size
behind-shared t offset at len has = let place = has.place in omega arith

pub nonzero_div-offset : goal.nonzero_div-offset
nonzero_div-offset c = c.args.self.now.shaped.some

pub nonzero_rem-at : goal.nonzero_rem-at
nonzero_rem-at c = c.take_place.new.self.shaped.some

pub overflow_add-at : goal.overflow_add-at
overflow_add-at c =
    let s = c.args.self.now in
    let t = c.take_place.new.self in
    let has = has_place s t c.args.offset c.take_place.result (length c.args.bytes.now) (has-sector s.size s.buffer.items s.starts.items s.shaped c.args.offset c.requires.has_sector)
    c.take_place.ensures.size c.take_place.ensures.count c.take_place.ensures.place c.take_place.ensures.start c.requires.one_sector in
    starts-fit t c.args.offset c.take_place.result (length c.args.bytes.now) has

pub overwrite-requires : goal.overwrite-requires
overwrite-requires c =
    let s = c.args.self.now in
    let t = c.take_place.new.self in
    let has = has_place s t c.args.offset c.take_place.result (length c.args.bytes.now) (has-sector s.size s.buffer.items s.starts.items s.shaped c.args.offset c.requires.has_sector)
    c.take_place.ensures.size c.take_place.ensures.count c.take_place.ensures.place c.take_place.ensures.start c.requires.one_sector in
    within_vec t.buffer (c.take_place.result + c.args.offset % t.size + length c.args.bytes.now) (in-buffer t c.args.offset c.take_place.result (length c.args.bytes.now) has)

pub invariant_of-self : goal.invariant_of-self
invariant_of-self c =
    let s = c.args.self.now in
    let t = c.take_place.new.self in
    let has = has_place s t c.args.offset c.take_place.result (length c.args.bytes.now) (has-sector s.size s.buffer.items s.starts.items s.shaped c.args.offset c.requires.has_sector)
    c.take_place.ensures.size c.take_place.ensures.count c.take_place.ensures.place c.take_place.ensures.start c.requires.one_sector in
    record {
      shaped = subst (λ (l : List ℕ). IsShaped t.size l t.starts.items) (sym c.overwrite.ensures) (written-shaped t.size t.buffer.items t.starts.items t.shaped (c.take_place.result + c.args.offset % t.size) c.args.bytes.now
          (behind-shared t c.args.offset c.take_place.result (length c.args.bytes.now) has) (in-buffer t c.args.offset c.take_place.result (length c.args.bytes.now) has));
    }

pub returns-clause-bytes : goal.returns-clause-bytes
returns-clause-bytes c =
    let s = c.args.self.now in
    let t = c.take_place.new.self in
    let has = has_place s t c.args.offset c.take_place.result (length c.args.bytes.now) (has-sector s.size s.buffer.items s.starts.items s.shaped c.args.offset c.requires.has_sector)
    c.take_place.ensures.size c.take_place.ensures.count c.take_place.ensures.place c.take_place.ensures.start c.requires.one_sector in
    ap (λ (l : List ℕ). shown t.size l t.starts.items) c.overwrite.ensures
    ∙ write-is t.size t.buffer.items t.starts.items t.shaped c.args.offset c.take_place.result c.args.bytes.now has.sector has.place has.start has.one
    ∙ ap (λ (l : List ℕ). overwritten l c.args.offset c.args.bytes.now) c.take_place.ensures.same

pub returns-clause-size : goal.returns-clause-size
returns-clause-size c = c.take_place.ensures.size
