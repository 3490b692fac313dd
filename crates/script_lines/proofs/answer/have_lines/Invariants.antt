use Rattle.std.proofs.Common.{◌≡◌, take, map}
use Rattle.script_lines.specs.Answer.{lines_text, have_line}
use Rattle.script_lines.proofs.answer.have_lines.Given as goal

abbrev pub invariant-loop-pair : goal.invariant-loop-pair
invariant-loop-pair l = l.text.items ≡ lines_text (map have_line (take l.pair-index l.pairs))
