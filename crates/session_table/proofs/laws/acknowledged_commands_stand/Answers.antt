use Rattle.session_table.specs.Bench.{rules_of}
use Rattle.session_table.proofs.PrefixLemmas.{run_after}
use Rattle.session_table.proofs.laws.acknowledged_commands_stand.Goals as goal

pub returns : goal.returns
returns g c = λ areas banks last lines answers old new runs whole. run_after (rules_of (record { contents = g.K.Backend.contents; room = g.K.Backend.room; chance = g.K.Backend.chance; tears = g.K.Backend.tears }) areas banks last) lines answers old new runs whole
