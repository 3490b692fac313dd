use Rattle.std.proofs.Common.{arith}
use Rattle.image_file.proofs.SpecLemmas.{listed_result}
use Rattle.image_file.proofs.spec.take_listed.Goals as goal

pub returns : goal.returns
returns c = listed_result c.args.banks.now c.args.areas.now c.take_area.new.areas c.args.area c.take_area.result (omega arith) (c.is_alone.ensures.0 c.if-not-is_alone.false) c.take_area.ensures
