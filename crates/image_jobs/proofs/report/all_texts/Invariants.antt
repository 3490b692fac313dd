use Rattle.std.proofs.Common.{◌≡◌, ◌++◌, drop}
use Rattle.image_jobs.specs.Texts.{texts}
use Rattle.image_jobs.proofs.report.all_texts.Given as goal

abbrev pub invariant-loop-answer : goal.invariant-loop-answer
invariant-loop-answer l = l.all.items ++ texts (drop l.answer-index l.answers) ≡ texts l.answers
