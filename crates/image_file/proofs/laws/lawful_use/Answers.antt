use Rattle.image_file.proofs.ServingLemmas.{may_be_loaded, may_be_served}
use Rattle.image_file.proofs.laws.lawful_use.Goals as goal

pub returns-clause-loaded : goal.returns-clause-loaded
returns-clause-loaded c = may_be_loaded

pub returns-clause-served : goal.returns-clause-served
returns-clause-served c = may_be_served
