use Rattle.std.proofs.Common.{◌≡◌}
use Rattle.script_lines.specs.Generator.{state_after, first_lines}
use Rattle.script_lines.proofs.generator.lines_by.Given as goal

abbrev pub invariant-loop-i : goal.invariant-loop-i
invariant-loop-i l = record {
  state : l.s ≡ state_after l.n l.i;
  lines : l.lines.items ≡ first_lines l.n l.i;
}
