use Rattle.mirror_session.proofs.TableLaws as laws
use Rattle.mirror_session.proofs.script.one_meaning.Goals as goal

pub returns : goal.returns
returns c = laws.one_meaning
