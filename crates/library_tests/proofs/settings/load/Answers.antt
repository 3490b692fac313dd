use Rattle.std.proofs.Common.{◌≡◌, length, arith}
use Rattle.any_backend.proofs.TestBeds.{one-lawful}
use Rattle.library_tests.proofs.settings.load.Goals as goal

pub load-requires : goal.load-requires
load-requires g c =
    let long : length c.in_ok-vec.field-0.items ≡ 1024 = omega (arith, c.in_ok-vec.ensures.len) in
    rw (c.in_ok-banks.ensures.items, c.in_ok-bytes.ensures.items) (one-lawful c.args.kind c.args.unit c.in_ok-vec.field-0.items c.requires.unit long)
