use Rattle.std.proofs.Common.{◌≡◌, ℕ, ◌+◌, ◌*◌, ◌≤◌, List, length, Some, sym, ap, subst, ◌∙◌, arith}
use Rattle.std.specs.Option.{option_map}
use Rattle.flash_sim.specs.Device.{Device}
use Rattle.flash_map.specs.declared.area.Geometry.{Geometry}
use Rattle.flash_map.specs.declared.area.Role.TheVariants.{Nvs as nvs_role}
use Rattle.flash_map.specs.Area.{unit_of, sector_at, sector_size, sectors_of}
use Rattle.item_store.proofs.Areas.{size_there}
use Rattle.nvs_store.specs.declared.scan.Found.{Found}
use Rattle.nvs_store.specs.Geometry.{slot_size}
use Rattle.nvs_store.specs.Sector.{slot_at, counting_entry}
use Rattle.nvs_store.specs.Scans.{placed_at as nvs_placed_at, IsInArea}
use Rattle.nvs_store.proofs.InArea.{slot-in}
use Rattle.nvs_store.proofs.Lookups.{used_inside}
use Rattle.nvs_store.proofs.SlotReads.{slot_size_bounds}
use Rattle.nvs_store.proofs.Views.{unit_is}
use Rattle.nvs_format.proofs.StepLemmas.{reads_as}
use Rattle.nvs_gc.proofs.sectors.read_again.Goals as goal

pub counting_entry-requires-clause-inside : goal.counting_entry-requires-clause-inside
counting_entry-requires-clause-inside g c =
    let d : Device = g.F.Flash.device c.args.flash.now in
    let unit : ℕ = unit_of d c.args.area.now in
    let b : List ℕ = sector_at (sectors_of d c.args.area.now) c.args.at.now.sector in
    let listed = c.requires.listed in
    let size = slot_size_bounds unit (unit_is d c.args.area.now (g.met.F.Flash.is_lawful c.args.flash.now) c.requires.area.lawful.in_bank) in
    let long : length c.sector_view.result.now ≡ length b = ap length c.sector_view.ensures.bytes in
    let large : slot_size unit ≤ length b = omega (arith, c.sector_view.ensures.len, c.requires.area.lawful.at_least) in
    let inside : (c.args.at.now.slot + 1) * slot_size unit ≤ length b = used_inside unit b c.args.at.now.slot (omega (arith, listed.0)) large (omega (arith, listed.1)) in
    subst (λ (x : Geometry). (c.args.at.now.slot + 1) * slot_size x.unit ≤ length c.sector_view.result.now) (sym c.geometry-unit.ensures)
    (subst (λ (n : ℕ). (c.args.at.now.slot + 1) * slot_size unit ≤ n) (sym long) inside)

pub returns-clause-own : goal.returns-clause-own
returns-clause-own g c =
    let d : Device = g.F.Flash.device c.args.flash.now in
    let unit : ℕ = unit_of d c.args.area.now in
    let b : List ℕ = sector_at (sectors_of d c.args.area.now) c.args.at.now.sector in
    let read : Some c.in-Some.found ≡ counting_entry unit (slot_at unit b c.args.at.now.slot) =
    sym c.in-Some.is ∙ c.counting_entry.ensures
    ∙ ap (λ (x : Geometry). counting_entry x.unit (slot_at x.unit c.sector_view.result.now c.args.at.now.slot)) c.geometry-unit.ensures
    ∙ ap (λ (xs : List ℕ). counting_entry unit (slot_at unit xs c.args.at.now.slot)) c.sector_view.ensures.bytes in
    let at : Some c.at.result ≡ option_map (nvs_placed_at c.args.at.now.sector) (counting_entry unit (slot_at unit b c.args.at.now.slot)) =
    ap (λ (f : Found). Some f) c.at.ensures ∙ ap (option_map (nvs_placed_at c.args.at.now.sector)) read in
    reads_as unit (sectors_of d c.args.area.now) c.args.at.now c.at.result at c.requires.there

pub returns-clause-in_area : goal.returns-clause-in_area
returns-clause-in_area g c =
    let d : Device = g.F.Flash.device c.args.flash.now in
    let unit : ℕ = unit_of d c.args.area.now in
    let b : List ℕ = sector_at (sectors_of d c.args.area.now) c.args.at.now.sector in
    let read : Some c.in-Some.found ≡ counting_entry unit (slot_at unit b c.args.at.now.slot) =
    sym c.in-Some.is ∙ c.counting_entry.ensures
    ∙ ap (λ (x : Geometry). counting_entry x.unit (slot_at x.unit c.sector_view.result.now c.args.at.now.slot)) c.geometry-unit.ensures
    ∙ ap (λ (xs : List ℕ). counting_entry unit (slot_at unit xs c.args.at.now.slot)) c.sector_view.ensures.bytes in
    let long = size_there nvs_role d c.args.area.now (g.met.F.Flash.is_lawful c.args.flash.now) c.requires.area c.args.at.now.sector c.requires.inside in
    subst (IsInArea c.args.area.now.sectors (sector_size d c.args.area.now)) (sym c.at.ensures)
    (slot-in unit b c.args.at.now.slot c.args.area.now.sectors (sector_size d c.args.area.now) c.args.at.now.sector c.in-Some.found read long c.requires.inside)
