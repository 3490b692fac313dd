use Rattle.session_table.specs.Bench.{rules_of}
use Rattle.session_table.specs.Step.{Step}
use Rattle.session_table.proofs.FollowsLemmas.{then}
use Rattle.session_table.proofs.laws.two_runs.Goals as goal

pub returns : goal.returns
returns g c = λ areas banks last lines more answers others old mid new runs rest. then (Step (rules_of (record { contents = g.K.Backend.contents; room = g.K.Backend.room; chance = g.K.Backend.chance; tears = g.K.Backend.tears }) areas banks last)) lines more answers others old mid new runs rest
