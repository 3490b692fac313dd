use Rattle.std.proofs.Common.{length, arith}
use Rattle.flash_map.specs.Area.{unit_of}
use Rattle.flash_map.proofs.Rounding.{padding}
use Rattle.fcb_ring.proofs.AreaLemmas.{has_size}
use Rattle.fcb_ring.proofs.ring.Ring.put_record.Goals as goal

pub overflow_cast-body : goal.overflow_cast-body
overflow_cast-body g c =
    let d = g.F.Flash.device c.args.flash.now in
    let area = c.args.self.now.area in
    let pad = padding (unit_of d area) (has_size d area (g.met.F.Flash.is_lawful c.args.flash.now) c.requires.stands.area).is_unit in
    omega (arith, c.requires.short, pad.no_less (length c.args.body.now))

pub record_cost-requires-clause-len : goal.record_cost-requires-clause-len
record_cost-requires-clause-len g c =
    let d = g.F.Flash.device c.args.flash.now in
    let area = c.args.self.now.area in
    let pad = padding (unit_of d area) (has_size d area (g.met.F.Flash.is_lawful c.args.flash.now) c.requires.stands.area).is_unit in
    omega (arith, c.requires.short, pad.no_less (length c.args.body.now))
