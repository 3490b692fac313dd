use Rattle.item_session.proofs.BlankLemmas.{nvs_blank_is_fresh, zms_blank_is_fresh}
use Rattle.item_session.proofs.laws.blank_areas_are_fresh.Goals as goal

pub returns-clause-nvs : goal.returns-clause-nvs
returns-clause-nvs c = nvs_blank_is_fresh

pub returns-clause-zms : goal.returns-clause-zms
returns-clause-zms c = zms_blank_is_fresh
