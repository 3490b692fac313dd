use Rattle.std.proofs.Common.{◌≡◌, None, ap, sym, ◌∙◌, arith}
use Rattle.flash_sim.specs.Device.{Device}
use Rattle.flash_map.specs.declared.area.Area.{Area}
use Rattle.flash_map.specs.Area.{unit_of, sectors_of}
use Rattle.nvs_store.specs.declared.scan.Scan.{Scan}
use Rattle.nvs_store.specs.On.{damage_on, is_closed_on, open_on}
use Rattle.nvs_store.proofs.MountLemmas.{length-sectors, open_not_closed}
use Rattle.nvs_store.proofs.mounting.mount_scan.Goals as goal

pub returns-clause-not_closed : goal.returns-clause-not_closed
returns-clause-not_closed g c =
    let d : Device = g.F.Flash.device c.args.flash.now in
    let area : Area = c.args.area.now in
    let count = length-sectors d area in
    let at : c.scan_sector-scan.result.current ≡ open_on d area = ap (λ (s : Scan). s.current) c.scan_sector-scan.ensures ∙ c.open_sector-current.ensures.value in
    let none : damage_on d area ≡ None = sym c.damage.ensures ∙ c.in_default.is in
    ap (is_closed_on d area) at ∙ open_not_closed (unit_of d area) (sectors_of d area) (omega (arith, c.requires.lawful.several, count)) none
