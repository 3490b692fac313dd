use Rattle.std.proofs.Common.{inl, inr, ap, sym, ◌∙◌, arith}
use Rattle.handlers.specs.Best.{depth}
use Rattle.handlers.proofs.BestLemmas.{greatest_none, greatest_step, greatest_whole, mapped_twice, mapped_length}
use Rattle.handlers.proofs.best.best_row.Goals as goal
use Rattle.handlers.proofs.best.best_row.Goals.{then-depth-most, else-depth-most}

pub loop-i-init : goal.loop-i-init
loop-i-init g c = (omega arith, greatest_none _)

pub loop-i-preserved : goal.loop-i-preserved
loop-i-preserved g c =
    let at = mapped_twice (depth c.args.name.now) (λ row. row.subtree) c.args.rows.now c.loop-i.i c.index-rows-i.result c.loop-i-test.true c.index-rows-i.is in (
      omega (arith, c.loop-i-test.true),
      greatest_step _ c.loop-i.i c.depth_of-depth.result c.loop-i.most c.if-depth-most.most c.loop-i.best c.if-depth-most.best
          (at ∙ ap (λ row. depth c.args.name.now row.subtree) c.index-rows-i.is ∙ sym c.depth_of-depth.ensures)
          (elim c.if-depth-most.branch [ then-depth-most w ↦ inl (w.if-depth-most.true, w.best-is, w.most-is) | else-depth-most w ↦ inr (w.if-depth-most.false, w.best-is, w.most-is) ])
          c.loop-i.invariant.1,
    )

pub returns : goal.returns
returns g c = greatest_whole _ c.loop-i.i c.loop-i.most c.loop-i.best (mapped_length _ _ c.args.rows.now c.loop-i.i c.loop-i.invariant.0 c.loop-i-test.false) c.loop-i.invariant.1
