use Rattle.std.proofs.Common.{◌≡◌, take, map}
use Rattle.script_lines.specs.Answer.{lines_text, give_line}
use Rattle.script_lines.proofs.answer.give_lines.Given as goal

abbrev pub invariant-loop-give : goal.invariant-loop-give
invariant-loop-give l = l.text.items ≡ lines_text (map give_line (take l.give-index l.gives))
