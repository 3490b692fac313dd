use Rattle.log_session.proofs.OwesLemmas.{blank-owes}
use Rattle.log_session.proofs.laws.blank_owes_nothing.Goals as goal

pub returns : goal.returns
returns c = blank-owes
