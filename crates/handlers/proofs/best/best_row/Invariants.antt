use Rattle.std.proofs.Common.{◌≤◌, ◌-◌, length, map}
use Rattle.handlers.specs.Best.{depth}
use Rattle.handlers.proofs.BestLemmas.{GreatestBelow}
use Rattle.handlers.proofs.best.best_row.Given as goal

abbrev pub invariant-loop-i : goal.invariant-loop-i
invariant-loop-i g l = (l.i ≤ length l.rows) × GreatestBelow (map (depth l.name) (map (λ row. row.subtree) l.rows)) l.i l.most l.best

abbrev pub decreases-loop-i : goal.decreases-loop-i
decreases-loop-i g l = length l.rows - l.i
