use Rattle.std.proofs.Common.{◌≡◌, ◌+◌, ◌++◌, ◌-◌, ℕ, List, take, drop, get_or, sym, ap, ◌∙◌, arith}
use Rattle.std.proofs.lemmas.List.{take_more}
use Rattle.flash_sim.specs.Sparse.{shown}
use Rattle.flash_sim.proofs.Shown.{shown_push}
use Rattle.flash_sim.proofs.sparse_bytes.SparseBytesStorage.to_vec.Goals as goal

pub loop-start-preserved : goal.loop-start-preserved
loop-start-preserved c =
    let s = c.args.self.now in
    let i : ℕ = c.loop-start.start-index in
    let start : ℕ = get_or s.starts.items i 0 in
    let at : get_or c.deref-start-items.result.now i 0 ≡ start = ap (λ (l : List ℕ). get_or l i 0) c.deref-start-items.ensures.value in
    let width : start + s.size - start ≡ s.size = omega arith in
    c.in_ok-extend_from_slice.ensures.items
    ∙ ap (λ (l : List ℕ). c.loop-start.copy.items ++ take (get_or c.deref-start-items.result.now i 0 + s.size - get_or c.deref-start-items.result.now i 0) (drop (get_or c.deref-start-items.result.now i 0) l)) c.deref.ensures.value
    ∙ ap (λ (n : ℕ). c.loop-start.copy.items ++ take (n + s.size - n) (drop n s.buffer.items)) at
    ∙ ap (λ (n : ℕ). c.loop-start.copy.items ++ take n (drop start s.buffer.items)) width
    ∙ ap (λ (l : List ℕ). l ++ take s.size (drop start s.buffer.items)) c.loop-start.invariant
    ∙ sym (shown_push s.size s.buffer.items (take i s.starts.items) start)
    ∙ ap (shown s.size s.buffer.items) (sym (take_more s.starts.items i 0 (omega arith)))
