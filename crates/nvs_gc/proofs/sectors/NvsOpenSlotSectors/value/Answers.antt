use Rattle.std.proofs.Common.{◌≡◌, ℕ, ◌+◌, ◌*◌, ◌≤◌, List, length, sym, ap, subst, ◌∙◌, arith}
use Rattle.flash_sim.specs.Device.{Device}
use Rattle.flash_map.specs.declared.area.Geometry.{Geometry}
use Rattle.flash_map.specs.Area.{unit_of, sector_at, sectors_of}
use Rattle.item_laws.proofs.AreaReads.{length-sectors}
use Rattle.nvs_store.specs.Geometry.{slot_size}
use Rattle.nvs_store.proofs.Lookups.{used_inside}
use Rattle.nvs_store.proofs.SlotReads.{slot_size_bounds}
use Rattle.nvs_store.proofs.Views.{unit_is}
use Rattle.nvs_format.specs.Formats.{format_in}
use Rattle.nvs_gc.proofs.sectors.NvsOpenSlotSectors.value.Goals as goal

pub sector_view-requires-clause-has_sector : goal.sector_view-requires-clause-has_sector
sector_view-requires-clause-has_sector g c =
    let count = length-sectors (g.F.Flash.device c.args.flash.now) c.args.area.now in
    omega (arith, c.requires.listed.within)

pub bytes_in-requires-clause-inside : goal.bytes_in-requires-clause-inside
bytes_in-requires-clause-inside g c =
    let d : Device = g.F.Flash.device c.args.flash.now in
    let unit : ℕ = unit_of d c.args.area.now in
    let b : List ℕ = sector_at (sectors_of d c.args.area.now) c.args.placed.now.sector in
    let listed = c.requires.listed in
    let size = slot_size_bounds unit (unit_is d c.args.area.now (g.met.F.Flash.is_lawful c.args.flash.now) c.requires.area.lawful.in_bank) in
    let long : length c.sector_view.result.now ≡ length b = ap length c.sector_view.ensures.bytes in
    let large : slot_size unit ≤ length b = omega (arith, c.sector_view.ensures.len, c.requires.area.lawful.at_least) in
    let inside : (c.args.placed.now.slot + 1) * slot_size unit ≤ length b = used_inside unit b c.args.placed.now.slot (omega (arith, listed.from)) large (omega (arith, listed.listed)) in
    subst (λ (x : Geometry). (c.args.placed.now.slot + 1) * slot_size x.unit ≤ length c.sector_view.result.now) (sym c.geometry-unit.ensures)
    (subst (λ (n : ℕ). (c.args.placed.now.slot + 1) * slot_size unit ≤ n) (sym long) inside)

pub returns-clause-bytes : goal.returns-clause-bytes
returns-clause-bytes g c =
    let d : Device = g.F.Flash.device c.args.flash.now in
    let unit : ℕ = unit_of d c.args.area.now in
    c.bytes_in.ensures ∙ ap (λ (x : Geometry). (format_in x.unit).bytes c.sector_view.result.now c.args.placed.now.slot) c.geometry-unit.ensures
    ∙ ap (λ (xs : List ℕ). (format_in unit).bytes xs c.args.placed.now.slot) c.sector_view.ensures.bytes
