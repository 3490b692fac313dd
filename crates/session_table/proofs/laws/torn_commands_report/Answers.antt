use Rattle.session_table.specs.Bench.{rules_of}
use Rattle.session_table.proofs.TornLemmas.{run_deeds}
use Rattle.session_table.proofs.laws.torn_commands_report.Goals as goal

pub returns : goal.returns
returns g c = λ areas banks last lines answers old new runs. run_deeds (rules_of (record { contents = g.K.Backend.contents; room = g.K.Backend.room; chance = g.K.Backend.chance; tears = g.K.Backend.tears }) areas banks last) lines answers old new runs
