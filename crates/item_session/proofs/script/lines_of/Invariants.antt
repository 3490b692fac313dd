use Rattle.std.proofs.Common.{◌≡◌, map}
use Rattle.item_session.specs.Line.{row_of}
use Rattle.item_session.proofs.script.lines_of.Given as goal

abbrev pub invariant-loop-below : goal.invariant-loop-below
invariant-loop-below g l = map row_of l.lines.items ≡ map (λ below. row_of below.line) l.yielded
