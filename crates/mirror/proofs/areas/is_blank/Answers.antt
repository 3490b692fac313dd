use Rattle.std.proofs.Common.{◌≡◌, ◌≤◌, ◌<◌, List, ℕ, length, ap, ◌∙◌, arith}
use Rattle.std.specs.List.{list_all}
use Rattle.std.proofs.lemmas.List.{take_all}
use Rattle.std.proofs.lemmas.Bool.Decides.{nat_tests}
use Rattle.flash_sim.specs.Device.{Device}
use Rattle.flash_map.specs.Area.{sectors_of}
use Rattle.flash_map.specs.Units.{is_erased}
use Rattle.fcb_ring.proofs.AreaLemmas.{count-sectors}
use Rattle.mirror.proofs.areas.is_blank.Goals as goal

pub returns : goal.returns
returns g c =
    let d : Device = g.F.Flash.device c.args.flash.now in
    let count : length (sectors_of d c.args.area.now) ≡ c.args.area.now.sectors = count-sectors d c.args.area.now in
    let at_end = c.loop-sector-test.false in
    let all : length (sectors_of d c.args.area.now) ≤ c.loop-sector.sector = grind (arith, nat_tests, count, at_end) in
    c.loop-sector.invariant ∙ ap (list_all is_erased) (take_all c.loop-sector.sector (sectors_of d c.args.area.now) all)
