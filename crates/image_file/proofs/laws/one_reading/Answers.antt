use Rattle.image_file.proofs.SaidLemmas.{one_image, not_both, one_first}
use Rattle.image_file.proofs.laws.one_reading.Goals as goal

pub returns-clause-image : goal.returns-clause-image
returns-clause-image c = one_image

pub returns-clause-apart : goal.returns-clause-apart
returns-clause-apart c = not_both

pub returns-clause-fault : goal.returns-clause-fault
returns-clause-fault c = one_first
