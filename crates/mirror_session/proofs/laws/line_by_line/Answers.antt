use Rattle.mirror_session.specs.Bench.{meanings}
use Rattle.mirror_session.proofs.RunLemmas.{runs_of}
use Rattle.mirror_session.proofs.laws.line_by_line.Goals as goal

pub returns : goal.returns
returns g c =
    let K = g.K.Backend in
    λ areas lines answers old new runs. runs_of (meanings K.damage K.contents K.rests K.room g.K.Priced.prices K.owes) areas lines answers old new runs
