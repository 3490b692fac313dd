use Rattle.std.proofs.Common.{◌≡◌}
use Rattle.script_lines.specs.Generator.{bytes_of}
use Rattle.script_lines.proofs.generator.value_by.Given as goal

abbrev pub invariant-loop-j : goal.invariant-loop-j
invariant-loop-j l = l.value.items ≡ bytes_of l.i l.j
