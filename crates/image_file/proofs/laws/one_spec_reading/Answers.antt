use Rattle.image_file.proofs.OneSpecLemmas.{one_blank_image, no_bad_item, one_bad_item}
use Rattle.image_file.proofs.laws.one_spec_reading.Goals as goal

pub returns-clause-image : goal.returns-clause-image
returns-clause-image c = one_blank_image

pub returns-clause-apart : goal.returns-clause-apart
returns-clause-apart c = no_bad_item

pub returns-clause-item : goal.returns-clause-item
returns-clause-item c = one_bad_item
