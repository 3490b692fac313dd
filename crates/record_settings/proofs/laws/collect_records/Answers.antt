use Rattle.record_settings.proofs.Coded as lemmas
use Rattle.record_settings.proofs.laws.collect_records.Goals as goal

pub returns : goal.returns
returns c = lemmas.settings-collected
