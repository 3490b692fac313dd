use Rattle.log_session.proofs.TableLaws as laws
use Rattle.log_session.proofs.script.each_is_read.Goals as goal

pub returns : goal.returns
returns c = laws.each_is_read
