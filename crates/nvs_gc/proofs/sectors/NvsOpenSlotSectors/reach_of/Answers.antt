use Rattle.std.proofs.Common.{◌≡◌, ℕ, ◌+◌, ◌*◌, ◌≤◌, List, length, sym, ap, subst, arith}
use Rattle.flash_sim.specs.Device.{Device}
use Rattle.flash_map.specs.declared.area.Geometry.{Geometry}
use Rattle.flash_map.specs.Area.{unit_of, sector_at, sectors_of}
use Rattle.item_store.specs.Lasts.{AreOthers}
use Rattle.nvs_store.specs.Geometry.{slot_size}
use Rattle.nvs_store.proofs.Lookups.{used_inside}
use Rattle.nvs_store.proofs.SlotReads.{slot_size_bounds}
use Rattle.nvs_store.proofs.Views.{unit_is}
use Rattle.nvs_format.specs.Formats.{format_in}
use Rattle.nvs_gc.proofs.sectors.NvsOpenSlotSectors.reach_of.Goals as goal

pub reach_in-requires-clause-inside : goal.reach_in-requires-clause-inside
reach_in-requires-clause-inside g c =
    let d : Device = g.F.Flash.device c.args.flash.now in
    let unit : ℕ = unit_of d c.args.area.now in
    let b : List ℕ = sector_at (sectors_of d c.args.area.now) c.args.place in
    let size = slot_size_bounds unit (unit_is d c.args.area.now (g.met.F.Flash.is_lawful c.args.flash.now) c.requires.area.lawful.in_bank) in
    let long : length c.sector_view.result.now ≡ length b = ap length c.sector_view.ensures.bytes in
    let large : slot_size unit ≤ length b = omega (arith, c.sector_view.ensures.len, c.requires.area.lawful.at_least) in
    let inside : (c.args.slots + 1) * slot_size unit ≤ length b = used_inside unit b c.args.slots (omega arith) large c.requires.listed in
    subst (λ (x : Geometry). (c.args.slots + 1) * slot_size x.unit ≤ length c.sector_view.result.now) (sym c.geometry-unit.ensures)
    (subst (λ (n : ℕ). (c.args.slots + 1) * slot_size unit ≤ n) (sym long) inside)

pub returns-clause-others : goal.returns-clause-others
returns-clause-others g c =
    let d : Device = g.F.Flash.device c.args.flash.now in
    let unit : ℕ = unit_of d c.args.area.now in
    subst (λ (xs : List ℕ). AreOthers (format_in unit) xs c.reach_in.result c.args.slots c.args.least c.args.most) c.sector_view.ensures.bytes
    (subst (λ (x : Geometry). AreOthers (format_in x.unit) c.sector_view.result.now c.reach_in.result c.args.slots c.args.least c.args.most) c.geometry-unit.ensures c.reach_in.ensures.others)
