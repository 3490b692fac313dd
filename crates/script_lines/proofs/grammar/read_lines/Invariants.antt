use Rattle.std.proofs.Common.{ℕ, ◌+◌, ◌≤◌, length, List, ◌++◌, map}
use Rattle.script_lines.specs.declared.why.LineWhy.{LineWhy}
use Rattle.text_parts.specs.Parts.{parts, parts_of}
use Rattle.script_lines.specs.Forms.{Row}
use Rattle.script_lines.specs.Script.{SpellsAll, spoken, FirstRefused}
use Rattle.script_lines.proofs.ScriptLemmas.{left}
use Rattle.script_lines.proofs.grammar.read_lines.Given as goal

abbrev pub invariant-loop-rest : goal.invariant-loop-rest
invariant-loop-rest g l = record {
  found : (more : List Row) → SpellsAll g.L.ScriptLine.forms l.limit (spoken (parts_of 10 l.rest)) more → SpellsAll g.L.ScriptLine.forms l.limit (spoken (parts 10 l.bytes)) (map g.L.ScriptLine.says l.lines.items ++ more);
  refused : (k : ℕ) (why : LineWhy) → FirstRefused g.L.ScriptLine.forms l.limit (parts_of 10 l.rest) k why → FirstRefused g.L.ScriptLine.forms l.limit (parts 10 l.bytes) (l.number + k) why;
  small : l.number + left l.rest ≤ length l.bytes + 1;
}

abbrev pub decreases-loop-rest : goal.decreases-loop-rest
decreases-loop-rest g l = left l.rest
