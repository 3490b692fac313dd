use Rattle.std.proofs.Common.{◌≡◌, take, map}
use Rattle.script_lines.specs.Answer.{lines_text}
use Rattle.log_session.specs.Answer.{record_line}
use Rattle.log_session.proofs.answer.record_lines.Given as goal

abbrev pub invariant-loop-body : goal.invariant-loop-body
invariant-loop-body l = l.text.items ≡ lines_text (map record_line (take l.body-index l.bodies))
