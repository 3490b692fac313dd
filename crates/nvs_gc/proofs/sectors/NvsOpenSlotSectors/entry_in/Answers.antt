use Rattle.std.proofs.Common.{◌≡◌, ℕ, ◌+◌, ◌*◌, ◌≤◌, List, length, Some, sym, ap, subst, ◌∙◌, arith}
use Rattle.flash_sim.specs.Device.{Device}
use Rattle.flash_map.specs.declared.area.Geometry.{Geometry}
use Rattle.flash_map.specs.declared.area.Area.{Area}
use Rattle.flash_map.specs.declared.area.Role.TheVariants.{Nvs as nvs_role}
use Rattle.flash_map.specs.Area.{unit_of, sector_at, sector_size, sectors_of}
use Rattle.item_store.specs.declared.entry.Placed.{Placed}
use Rattle.item_store.proofs.Areas.{size_there}
use Rattle.nvs_store.specs.declared.scan.Found.{Found}
use Rattle.nvs_store.specs.Sector.{slot_at, counting_entry}
use Rattle.nvs_store.proofs.InArea.{slot-in}
use Rattle.nvs_store.specs.Geometry.{slot_size}
use Rattle.nvs_store.proofs.Lookups.{used_inside}
use Rattle.nvs_store.proofs.SlotReads.{slot_size_bounds}
use Rattle.nvs_store.proofs.Views.{unit_is}
use Rattle.nvs_gc.proofs.sectors.NvsOpenSlotSectors.entry_in.Goals as goal

pub counting_entry-requires-clause-inside : goal.counting_entry-requires-clause-inside
counting_entry-requires-clause-inside g c =
    let d : Device = g.F.Flash.device c.args.flash.now in
    let unit : ℕ = unit_of d c.args.area.now in
    let b : List ℕ = sector_at (sectors_of d c.args.area.now) c.args.place in
    let listed = c.requires.listed in
    let size = slot_size_bounds unit (unit_is d c.args.area.now (g.met.F.Flash.is_lawful c.args.flash.now) c.requires.area.lawful.in_bank) in
    let long : length c.sector_view.result.now ≡ length b = ap length c.sector_view.ensures.bytes in
    let large : slot_size unit ≤ length b = omega (arith, c.sector_view.ensures.len, c.requires.area.lawful.at_least) in
    let inside : (c.args.slot + 1) * slot_size unit ≤ length b = used_inside unit b c.args.slot (omega (arith, listed.0)) large (omega (arith, listed.1)) in
    subst (λ (x : Geometry). (c.args.slot + 1) * slot_size x.unit ≤ length c.sector_view.result.now) (sym c.geometry-unit.ensures)
    (subst (λ (n : ℕ). (c.args.slot + 1) * slot_size unit ≤ n) (sym long) inside)

pub returns-in-Some-clause-small : goal.returns-in-Some-clause-small
returns-in-Some-clause-small g c =
    let d : Device = g.F.Flash.device c.args.flash.now in
    let area : Area = c.args.area.now in
    let unit : ℕ = unit_of d area in
    let b : List ℕ = sector_at (sectors_of d area) c.args.place in
    let long = size_there nvs_role d area (g.met.F.Flash.is_lawful c.args.flash.now) c.requires.area c.args.place c.requires.inside in
    let read : Some c.in-Some.found ≡ counting_entry unit (slot_at unit b c.args.slot) =
    sym c.in-Some.is ∙ c.counting_entry.ensures
    ∙ ap (λ (x : Geometry). counting_entry x.unit (slot_at x.unit c.sector_view.result.now c.args.slot)) c.geometry-unit.ensures
    ∙ ap (λ (xs : List ℕ). counting_entry unit (slot_at unit xs c.args.slot)) c.sector_view.ensures.bytes in
    let other = (slot-in unit b c.args.slot area.sectors (sector_size d area) c.args.place c.in-Some.found read long c.requires.inside).ordinary in
    let same : c.placed.result.id ≡ c.in-Some.found.entry.id = ap (λ (p : Placed). p.id) c.placed.ensures.value ∙ ap (λ (f : Found). f.entry.id) c.at.ensures in
    let small = c.placed.ensures.small in
    omega (arith, same, other, small)
