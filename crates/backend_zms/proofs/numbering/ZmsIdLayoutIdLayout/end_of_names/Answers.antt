use Rattle.std.proofs.Common.{refl}
use Rattle.backend_zms.specs.IdLayout.{name_ids}
use Rattle.backend_zms.proofs.numbering.ZmsIdLayoutIdLayout.end_of_names.Goals as goal

pub returns : goal.returns
unfolding name_ids
returns g c = refl
