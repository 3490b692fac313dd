use Rattle.session_table.proofs.RunLemmas.{runs_of}
use Rattle.session_table.proofs.laws.line_by_line.Goals as goal

pub returns : goal.returns
returns g c = λ areas lines answers old new runs. runs_of (record { contents = g.K.Backend.contents; room = g.K.Backend.room; chance = g.K.Backend.chance; tears = g.K.Backend.tears }) areas lines answers old new runs
