use Rattle.item_session.proofs.TableLaws as laws
use Rattle.item_session.proofs.script.each_is_read.Goals as goal

pub returns : goal.returns
returns c = laws.each_is_read
