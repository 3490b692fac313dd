use Rattle.std.proofs.Common.{ℕ, List, ◌++◌, replicate, drop, ap, ◌∙◌}
use Rattle.std.proofs.lemmas.List.{drop-replicate}
use Rattle.flash_map.specs.Copies.{source}
use Rattle.flash_map.proofs.copies.piece_of.Goals as goal

pub returns-clause-bytes : goal.returns-clause-bytes
returns-clause-bytes g c =
    ap (λ (xs : List ℕ). xs ++ drop c.args.from.len (replicate 32 255)) (c.copy_from_slice.ensures.after ∙ c.area_view-seen.ensures.bytes)
    ∙ ap (λ (ys : List ℕ). source (g.F.Flash.device c.args.flash.now) c.args.area.now c.args.from ++ ys) (drop-replicate c.args.from.len 32 255)
