use Rattle.std.proofs.Common.{List, ℕ, ◌++◌, take, sym, ap, ◌∙◌, append_assoc, arith}
use Rattle.std.specs.List.{concat}
use Rattle.flash_sim.specs.Contents.{contents}
use Rattle.image_file.proofs.WritingLemmas.{concat_more}
use Rattle.image_file.proofs.writing.put_contents.Goals as goal

pub loop-copy-preserved : goal.loop-copy-preserved
loop-copy-preserved c =
    let old : List ℕ = c.args.file.now.items in
    let i : ℕ = c.loop-copy.copy-index in
    let so_far : List ℕ = concat (contents (take i c.args.bytes.now)) in
    c.in_ok-extend_from_slice.ensures.items ∙ ap (λ (l : List ℕ). c.loop-copy.file.items ++ l) c.as_slice.ensures.value
    ∙ ap (λ (l : List ℕ). l ++ c.copy-item.result.items) c.loop-copy.invariant
    ∙ append_assoc old so_far c.copy-item.result.items
    ∙ ap (λ (l : List ℕ). old ++ l) (sym (concat_more c.args.bytes.now i c.copy-item.result (omega arith) c.copy-item.is))
