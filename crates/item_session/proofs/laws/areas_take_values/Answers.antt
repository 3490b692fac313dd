use Rattle.item_session.proofs.ValueLemmas.{nvs_takes_values, zms_takes_values}
use Rattle.item_session.proofs.laws.areas_take_values.Goals as goal

pub returns-clause-nvs : goal.returns-clause-nvs
returns-clause-nvs c = nvs_takes_values

pub returns-clause-zms : goal.returns-clause-zms
returns-clause-zms c = zms_takes_values
