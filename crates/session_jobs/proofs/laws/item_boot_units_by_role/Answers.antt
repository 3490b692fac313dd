use Rattle.session_jobs.proofs.BootLemmas.{nvs-boots, erasing-boots, rewritable-boots}
use Rattle.session_jobs.proofs.laws.item_boot_units_by_role.Goals as goal

pub returns : goal.returns
returns c = record { nvs = nvs-boots; erasing = erasing-boots; rewritable = rewritable-boots }
