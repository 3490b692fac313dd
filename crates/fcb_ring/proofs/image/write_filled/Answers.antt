use Rattle.std.proofs.Common.{◌≡◌, ℕ, ◌-◌, ◌++◌, length, replicate, List, take, ap, ◌∙◌, arith}
use Rattle.std.proofs.lemmas.List.{take-replicate}
use Rattle.fcb_ring.proofs.BuildLemmas.{filled-is}
use Rattle.fcb_ring.proofs.image.write_filled.Goals as goal

pub returns-clause-bytes : goal.returns-clause-bytes
returns-clause-bytes c =
    let fill : ℕ = c.padded.result - length c.args.part.now in
    let prefix : take fill (replicate 16 255) ≡ replicate fill 255 = take-replicate fill 16 255 (omega (arith, c.padded.ensures.at_most)) in
    filled-is c.args.unit (take c.args.at c.args.buffer.now) (take c.write_at-end.result c.write_at-end.new.buffer) (take c.write_at.result c.write_at.new.buffer) c.args.part.now fill (ap (λ (n : ℕ). n - length c.args.part.now) c.padded.ensures.value)
    c.write_at-end.ensures.bytes (c.write_at.ensures.bytes ∙ ap (λ (l : List ℕ). take c.write_at-end.result c.write_at-end.new.buffer ++ l) prefix)
