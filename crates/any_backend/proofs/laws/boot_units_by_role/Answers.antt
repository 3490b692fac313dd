use Rattle.any_backend.proofs.BootLemmas.{nvs-boots, erasing-zms-boots, rewritable-zms-boots, fcb-boots}
use Rattle.any_backend.proofs.laws.boot_units_by_role.Goals as goal

pub returns : goal.returns
returns c = record { nvs = nvs-boots; erasing = erasing-zms-boots; rewritable = rewritable-zms-boots; fcb = fcb-boots }
