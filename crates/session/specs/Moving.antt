-- Answers to a migration that did not move the settings.
use Rattle.std.specs.Prelude.{ℕ, false, Option, Some, None}
use Rattle.migrator.specs.declared.migrating.MigrateFault.{MigrateFault}
use Rattle.migrator.specs.declared.migrating.MigrateFault.TheVariants.{NoTarget as HasNoTarget, NoSpace as HasNoSpace, TooManyNames, PowerLost, NoMemory}
use Rattle.script_lines.specs.declared.answer.Answer.{Answer}
use Rattle.script_lines.specs.declared.answer.Answer.TheVariants.{Lost, NoSpace, NoTarget, TooMany}

-- by the units that were spent; `None` if memory ran out
abbrev pub answer_to : MigrateFault → ℕ → Option Answer
answer_to HasNoTarget units = Some NoTarget
answer_to (HasNoSpace need live) units = Some (NoSpace units need live)
answer_to TooManyNames units = Some (TooMany units)
answer_to PowerLost units = Some (Lost units false)
answer_to NoMemory units = None
