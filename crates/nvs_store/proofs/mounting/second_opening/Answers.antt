use Rattle.std.proofs.Common.{◌≡◌, ◌-◌, ℕ, List, length, sym, ◌∙◌, arith}
use Rattle.flash_sim.specs.Device.{Device}
use Rattle.flash_map.specs.Area.{unit_of, sectors_of}
use Rattle.item_laws.proofs.AreaReads.{length-sectors}
use Rattle.nvs_store.proofs.MountLemmas.{second-opening, no-opening}
use Rattle.nvs_store.proofs.mounting.second_opening.Goals as goal

pub returns : goal.returns
returns g c =
    let d : Device = g.F.Flash.device c.args.flash.now in
    let unit : ℕ = unit_of d c.args.area.now in
    let sectors : List (List ℕ) = sectors_of d c.args.area.now in
    let whole : c.args.area.now.sectors ≡ length sectors = sym (length-sectors d c.args.area.now) in
    let long : c.args.area.now.sectors - 0 ≡ length sectors = omega arith in
    second-opening unit sectors (c.args.area.now.sectors - 0) c.args.area.now.sectors c.in_ok-opening.opening c.first-2.result long whole (sym c.in_ok-opening.was ∙ c.first.ensures.value) c.first-2.ensures.value

pub returns-in_err-opening : goal.returns-in_err-opening
returns-in_err-opening g c =
    let d : Device = g.F.Flash.device c.args.flash.now in
    let unit : ℕ = unit_of d c.args.area.now in
    let sectors : List (List ℕ) = sectors_of d c.args.area.now in
    let whole : c.args.area.now.sectors ≡ length sectors = sym (length-sectors d c.args.area.now) in
    let long : c.args.area.now.sectors - 0 ≡ length sectors = omega arith in
    c.from_residual.ensures ∙ no-opening unit sectors (c.args.area.now.sectors - 0) long (sym c.in_err-opening.was ∙ c.first.ensures.value)
