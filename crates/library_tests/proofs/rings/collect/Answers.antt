use Rattle.std.proofs.Common.{◌≡◌, ℕ, ap, arith, ◌∙◌}
use Rattle.flash_sim.specs.Device.{Device}
use Rattle.flash_map.specs.Area.{unit_of}
use Rattle.fcb_ring.proofs.AreaLemmas.{has_size}
use Rattle.fcb_ring.proofs.RecordLemmas.{header_fits}
use Rattle.library_tests.proofs.rings.collect.Goals as goal

pub copy_first-requires-clause-early : goal.copy_first-requires-clause-early
copy_first-requires-clause-early g c =
    let d : Device = g.F.Flash.device c.args.flash.now in
    let fits = header_fits (unit_of d c.args.ring.now.area) (has_size d c.args.ring.now.area (g.met.F.Flash.is_lawful c.args.flash.now) c.requires.stands.area).is_unit in
    omega (arith, fits.2, c.in_ok-begin_collect.ensures.begun.end)
