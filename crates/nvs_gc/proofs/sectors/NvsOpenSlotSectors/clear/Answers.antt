use Rattle.std.proofs.Common.{◌≡◌, ◌<◌, ℕ, List, length, replicate, set, refl, sym, ap, ◌∙◌, arith}
use Rattle.std.proofs.lemmas.List.{length-replicate}
use Rattle.std.proofs.lemmas.Result.{on_ok_weaker, on_err_weaker}
use Rattle.flash_sim.specs.Device.{Device}
use Rattle.flash_map.specs.declared.area.Area.{Area}
use Rattle.flash_map.specs.declared.area.Role.TheVariants.{Nvs as nvs_role}
use Rattle.flash_map.specs.Area.{unit_of, sector_size, sectors_of, sector_at}
use Rattle.flash_map.specs.Units.{is_erased}
use Rattle.item_laws.proofs.AreaReads.{length-sectors}
use Rattle.item_laws.proofs.Lists.{there}
use Rattle.nvs_store.proofs.ScanLemmas.{erased-replicate}
use Rattle.item_store.specs.Steps.{Clears}
use Rattle.item_store.proofs.Areas.{size_there}
use Rattle.nvs_format.specs.Formats.{format_in}
use Rattle.nvs_format.proofs.StepLemmas.{stops_clearing}
use Rattle.nvs_gc.proofs.sectors.NvsOpenSlotSectors.clear.Goals as goal

emptied : (unit : ℕ) (old new : List (List ℕ)) (place size : ℕ) → place < length old → length (sector_at old place) ≡ size → new ≡ set old place (replicate size 255) → Clears (format_in unit) (sector_at old place) (sector_at new place)
emptied unit old new place size within long is =
    let here : sector_at new place ≡ replicate size 255 = ap (λ (s : List (List ℕ)). sector_at s place) is ∙ there old place (replicate size 255) within in
    record { clean = ap is_erased here ∙ erased-replicate size; ready = refl; long = ap length here ∙ length-replicate size 255 ∙ sym long }

pub returns-clause-clears : goal.returns-clause-clears
returns-clause-clears g c =
    let a : Device = g.F.Flash.device c.args.flash.now in
    let e : Device = g.F.Flash.device c.area_erase.new.flash in
    let area : Area = c.args.area.now in
    let count = length-sectors a area in
    let within : c.args.place < length (sectors_of a area) = omega (arith, c.requires.inside) in
    let long = size_there nvs_role a area (g.met.F.Flash.is_lawful c.args.flash.now) c.requires.area c.args.place c.requires.inside in
    on_ok_weaker c.area_erase.result (λ h. emptied (unit_of a area) (sectors_of a area) (sectors_of e area) c.args.place (sector_size a area) within long h) c.area_erase.ensures.erased

pub returns-clause-lost : goal.returns-clause-lost
returns-clause-lost g c =
    let a : Device = g.F.Flash.device c.args.flash.now in
    let e : Device = g.F.Flash.device c.area_erase.new.flash in
    let area : Area = c.args.area.now in
    on_err_weaker c.area_erase.result
    (λ same. stops_clearing (unit_of a area) (sector_at (sectors_of a area) c.args.place) (sector_at (sectors_of e area) c.args.place) (ap (λ (s : List (List ℕ)). sector_at s c.args.place) same))
    c.area_erase.ensures.same
