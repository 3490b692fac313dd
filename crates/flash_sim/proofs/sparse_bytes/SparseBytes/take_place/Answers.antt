use Rattle.std.proofs.Common.{◌+◌, ◌*◌, ◌≤◌, List, ℕ, length, set, refl, subst, arith, sym, ap, ◌∙◌}
use Rattle.std.proofs.lemmas.List.{get_or_default, get_or-set_same, length-set}
use Rattle.flash_sim.specs.Sparse.{shown, IsShaped}
use Rattle.flash_sim.proofs.Shaped.{place-fits, place-is, taken-shaped}
use Rattle.flash_sim.proofs.Vecs.{in_vec, within_vec, after-fits, fits-within}
use Rattle.flash_sim.proofs.sparse_bytes.SparseBytes.take_place.Goals as goal

prefix_of_sum : (a b n : ℕ) → a + b ≤ n → a ≤ n
prefix_of_sum a b n le = omega arith

pub returns-then-index-eq0-clause-same : goal.returns-then-index-eq0-clause-same
returns-then-index-eq0-clause-same c =
    let s = c.args.self.now in
    let place : ℕ = (c.args.sector + 1) * s.size in
    ap (λ (l : List ℕ). shown s.size l (set s.starts.items c.args.sector place)) c.fill.ensures
    ∙ place-is s.size s.buffer.items s.starts.items s.shaped c.args.sector place c.requires refl
    (sym (get_or_default s.starts.items c.args.sector c.index.result.now 0 c.requires) ∙ sym c.index.ensures ∙ c.if-index-eq0.true)

pub overflow_add-place : goal.overflow_add-place
overflow_add-place c = after-fits c.args.self.now.starts c.args.sector c.requires

pub overflow_mul-place : goal.overflow_mul-place
overflow_mul-place c =
    let s = c.args.self.now in
    let fits = place-fits s.size s.buffer.items s.starts.items s.shaped c.args.sector c.requires in
    fits-within s.buffer ((c.args.sector + 1) * s.size) (prefix_of_sum ((c.args.sector + 1) * s.size) s.size (length s.buffer.items) fits)

pub index-requires : goal.index-requires
index-requires c = in_vec c.args.self.now.starts c.args.sector c.requires

pub fill-requires : goal.fill-requires
fill-requires c =
    let s = c.args.self.now in
    within_vec s.buffer ((c.args.sector + 1) * s.size + s.size) (place-fits s.size s.buffer.items s.starts.items s.shaped c.args.sector c.requires)

pub index_mut-requires : goal.index_mut-requires
index_mut-requires c = in_vec c.args.self.now.starts c.args.sector c.requires

pub invariant_of-self : goal.invariant_of-self
invariant_of-self c =
    let s = c.args.self.now in
    let place : ℕ = (c.args.sector + 1) * s.size in
    record { shaped = subst (λ (l : List ℕ). IsShaped s.size l (set s.starts.items c.args.sector place)) (sym c.fill.ensures) (taken-shaped s.size s.buffer.items s.starts.items s.shaped c.args.sector place c.requires refl) }

pub returns-then-index-eq0-clause-start : goal.returns-then-index-eq0-clause-start
returns-then-index-eq0-clause-start c = let s = c.args.self.now in get_or-set_same s.starts.items c.args.sector ((c.args.sector + 1) * s.size) 0 c.requires

pub returns-then-index-eq0-clause-count : goal.returns-then-index-eq0-clause-count
returns-then-index-eq0-clause-count c = let s = c.args.self.now in length-set s.starts.items c.args.sector ((c.args.sector + 1) * s.size)

pub returns-else-index-eq0-clause-start : goal.returns-else-index-eq0-clause-start
returns-else-index-eq0-clause-start c =
    let s = c.args.self.now in
    s.shaped.own c.args.sector c.requires (λ none. c.if-index-eq0.false (c.index.ensures ∙ get_or_default s.starts.items c.args.sector c.index.result.now 0 c.requires ∙ none))
