use Rattle.zms_format.proofs.Damages.{each_has_one_open, damage_has_three_kinds}
use Rattle.zms_format.proofs.laws.open_sector_is_one.Goals as goal

pub returns : goal.returns
returns c = record { one = each_has_one_open; three = damage_has_three_kinds }
