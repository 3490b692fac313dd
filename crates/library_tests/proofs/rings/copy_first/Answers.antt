use Rattle.std.proofs.Common.{arith}
use Rattle.flash_sim.specs.Device.{Device}
use Rattle.flash_map.specs.Area.{unit_of}
use Rattle.flash_map.proofs.Rounding.{padding}
use Rattle.fcb_ring.proofs.AreaLemmas.{has_size}
use Rattle.library_tests.proofs.rings.copy_first.Goals as goal

pub copy-requires-clause-short : goal.copy-requires-clause-short
copy-requires-clause-short g c =
    let d : Device = g.F.Flash.device c.args.flash.now in
    let pad = padding (unit_of d c.args.ring.now.area) (has_size d c.args.ring.now.area (g.met.F.Flash.is_lawful c.args.flash.now) c.requires.stands.area).is_unit in
    omega (arith, pad.small, pad.no_more c.in-Some.record.len)

pub copy-requires-clause-fits : goal.copy-requires-clause-fits
copy-requires-clause-fits g c =
    let d : Device = g.F.Flash.device c.args.flash.now in
    let size = has_size d c.args.ring.now.area (g.met.F.Flash.is_lawful c.args.flash.now) c.requires.stands.area in
    let pad = padding (unit_of d c.args.ring.now.area) size.is_unit in
    omega (arith, pad.small, pad.no_more c.in-Some.record.len, c.requires.early, size.at_least)
