use Rattle.std.proofs.Common.{Some, None}
use Rattle.image_file.proofs.NumberLemmas.{number_is}
use Rattle.image_file.proofs.numbers.number_of.Goals as goal

pub returns-in_err-n : goal.returns-in_err-n
returns-in_err-n c = rw c.from_residual.ensures (number_is c.args.word.now None c.in_err-n.ensures)

pub returns : goal.returns
returns c = number_is c.args.word.now (Some c.in_ok-n.n) c.in_ok-n.ensures
