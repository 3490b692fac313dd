use Rattle.image_file.proofs.WritingLemmas.{version_some, version_none}
use Rattle.image_file.proofs.writing.version_of.Goals as goal

pub returns-in-Some : goal.returns-in-Some
returns-in-Some c = version_some c.args.areas.now c.in-Some.area.now c.in-Some.ensures

pub returns-in-None : goal.returns-in-None
returns-in-None c = version_none c.args.areas.now c.in-None.ensures
