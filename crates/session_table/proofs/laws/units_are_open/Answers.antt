use Rattle.session_table.specs.Bench.{rules_of}
use Rattle.session_table.proofs.PlainLemmas.{run_plain}
use Rattle.session_table.proofs.laws.units_are_open.Goals as goal

pub returns : goal.returns
returns g c = λ areas banks last lines answers old new runs plain. run_plain (rules_of (record { contents = g.K.Backend.contents; room = g.K.Backend.room; chance = g.K.Backend.chance; tears = g.K.Backend.tears }) areas banks last) lines answers old new runs plain
