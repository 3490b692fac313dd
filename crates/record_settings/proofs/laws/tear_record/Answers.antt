use Rattle.record_settings.proofs.SpelledLemmas.{spelled-setting}
use Rattle.record_settings.proofs.TornLemmas.{torn-setting}
use Rattle.record_settings.proofs.laws.tear_record.Goals as goal

pub returns-clause-torn : goal.returns-clause-torn
returns-clause-torn c = torn-setting

pub returns-clause-spelled : goal.returns-clause-spelled
returns-clause-spelled c = spelled-setting
