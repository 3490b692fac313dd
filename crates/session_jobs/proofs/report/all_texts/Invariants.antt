use Rattle.std.proofs.Common.{◌≡◌, ◌++◌, drop}
use Rattle.std.specs.Prelude.{flat_map}
use Rattle.session_jobs.proofs.report.all_texts.Given as goal

abbrev pub invariant-loop-answer : goal.invariant-loop-answer
invariant-loop-answer g l = l.all.items ++ flat_map g.A.Answered.text_of (drop l.answer-index l.answers) ≡ flat_map g.A.Answered.text_of l.answers
