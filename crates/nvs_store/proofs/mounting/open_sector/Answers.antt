use Rattle.std.proofs.Common.{◌≡◌, ◌-◌, ℕ, List, length, sym, ◌∙◌, arith}
use Rattle.flash_sim.specs.Device.{Device}
use Rattle.flash_map.specs.Area.{unit_of, sectors_of}
use Rattle.item_laws.proofs.AreaReads.{length-sectors, open-opening, open-blank}
use Rattle.nvs_store.specs.Scans.{reading}
use Rattle.nvs_store.proofs.mounting.open_sector.Goals as goal

pub returns-in-Some-clause-value : goal.returns-in-Some-clause-value
returns-in-Some-clause-value g c =
    let d : Device = g.F.Flash.device c.args.flash.now in
    let unit : ℕ = unit_of d c.args.area.now in
    let sectors : List (List ℕ) = sectors_of d c.args.area.now in
    let whole : c.args.area.now.sectors ≡ length sectors = sym (length-sectors d c.args.area.now) in
    let long : c.args.area.now.sectors - 0 ≡ length sectors = omega arith in
    open-opening (reading unit) sectors (c.args.area.now.sectors - 0) c.in-Some.place long (sym c.in-Some.is ∙ c.first.ensures.value)

pub returns-clause-value : goal.returns-clause-value
returns-clause-value g c =
    let d : Device = g.F.Flash.device c.args.flash.now in
    let unit : ℕ = unit_of d c.args.area.now in
    let sectors : List (List ℕ) = sectors_of d c.args.area.now in
    let whole : c.args.area.now.sectors ≡ length sectors = sym (length-sectors d c.args.area.now) in
    let long : c.args.area.now.sectors - 0 ≡ length sectors = omega arith in
    c.unwrap_or.ensures ∙ open-blank (reading unit) sectors (c.args.area.now.sectors - 0) c.first-2.result long (sym c.in_default.is ∙ c.first.ensures.value) c.first-2.ensures.value
