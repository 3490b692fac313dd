use Rattle.zms_format.proofs.Damages.{has_its_part}
use Rattle.zms_format.proofs.laws.parts_of_list.Goals as goal

pub returns : goal.returns
returns c = record { parts = has_its_part }
