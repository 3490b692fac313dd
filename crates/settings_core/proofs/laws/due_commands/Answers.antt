use Rattle.settings_core.proofs.LawLemmas.{due_commands, one_command}
use Rattle.settings_core.proofs.laws.due_commands.Goals as goal

pub returns-clause-commands : goal.returns-clause-commands
returns-clause-commands c = due_commands

pub returns-clause-one : goal.returns-clause-one
returns-clause-one c = one_command
