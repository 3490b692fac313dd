use Rattle.std.proofs.Common.{length, arith}
use Rattle.flash_sim.specs.Device.{Device}
use Rattle.flash_map.specs.Area.{unit_of}
use Rattle.flash_map.proofs.Rounding.{padding}
use Rattle.fcb_ring.proofs.AreaLemmas.{has_size}
use Rattle.library_tests.proofs.rings.append.Goals as goal

pub append-requires-clause-short : goal.append-requires-clause-short
append-requires-clause-short g c =
    let d : Device = g.F.Flash.device c.args.flash.now in
    let pad = padding (unit_of d c.args.ring.now.area) (has_size d c.args.ring.now.area (g.met.F.Flash.is_lawful c.args.flash.now) c.requires.stands.area).is_unit in
    omega (arith, pad.small, pad.no_more (length c.args.body.now))
