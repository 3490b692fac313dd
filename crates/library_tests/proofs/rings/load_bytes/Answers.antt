use Rattle.std.proofs.Common.{arith}
use Rattle.fcb_ring.proofs.TestBank.{both_lawful}
use Rattle.library_tests.proofs.rings.load_bytes.Goals as goal

pub load-requires : goal.load-requires
load-requires g c = rw (c.in_ok-banks.ensures.items, c.in_ok-all.ensures.items) (both_lawful c.args.small.items c.args.large.items (omega arith) (omega arith))
