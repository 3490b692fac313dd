use Rattle.zms_format.proofs.FormatLemmas.{first_entry_is_known as known}
use Rattle.zms_format.proofs.laws.first_entry_is_known.Goals as goal

pub returns : goal.returns
returns c = record { known = known }
