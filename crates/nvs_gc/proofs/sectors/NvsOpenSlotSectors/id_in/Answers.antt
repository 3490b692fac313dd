use Rattle.std.proofs.Common.{◌≡◌, ℕ, ◌+◌, ◌*◌, ◌≤◌, List, length, sym, ap, subst, arith}
use Rattle.std.specs.Prelude.{IfSome}
use Rattle.flash_sim.specs.Device.{Device}
use Rattle.flash_map.specs.declared.area.Geometry.{Geometry}
use Rattle.flash_map.specs.Area.{unit_of, sector_at, sectors_of}
use Rattle.nvs_store.specs.Geometry.{slot_size}
use Rattle.nvs_store.proofs.Lookups.{used_inside}
use Rattle.nvs_store.proofs.SlotReads.{slot_size_bounds}
use Rattle.nvs_store.proofs.Views.{unit_is}
use Rattle.nvs_format.specs.Formats.{format_in}
use Rattle.nvs_gc.proofs.sectors.NvsOpenSlotSectors.id_in.Goals as goal

pub named_id-requires-clause-inside : goal.named_id-requires-clause-inside
named_id-requires-clause-inside g c =
    let d : Device = g.F.Flash.device c.args.flash.now in
    let unit : ℕ = unit_of d c.args.area.now in
    let b : List ℕ = sector_at (sectors_of d c.args.area.now) c.args.place in
    let listed = c.requires.listed in
    let size = slot_size_bounds unit (unit_is d c.args.area.now (g.met.F.Flash.is_lawful c.args.flash.now) c.requires.area.lawful.in_bank) in
    let long : length c.sector_view.result.now ≡ length b = ap length c.sector_view.ensures.bytes in
    let large : slot_size unit ≤ length b = omega (arith, c.sector_view.ensures.len, c.requires.area.lawful.at_least) in
    let inside : (c.args.slot + 1) * slot_size unit ≤ length b = used_inside unit b c.args.slot (omega (arith, listed.0)) large (omega (arith, listed.1)) in
    subst (λ (x : Geometry). (c.args.slot + 1) * slot_size x.unit ≤ length c.sector_view.result.now) (sym c.geometry-unit.ensures)
    (subst (λ (n : ℕ). (c.args.slot + 1) * slot_size unit ≤ n) (sym long) inside)

pub returns-clause-id : goal.returns-clause-id
returns-clause-id g c =
    let d : Device = g.F.Flash.device c.args.flash.now in
    let unit : ℕ = unit_of d c.args.area.now in
    subst (λ (xs : List ℕ). IfSome ((format_in unit).in_slot xs c.args.slot) (λ e. e.id ≡ c.named_id.result)) c.sector_view.ensures.bytes
    (subst (λ (x : Geometry). IfSome ((format_in x.unit).in_slot c.sector_view.result.now c.args.slot) (λ e. e.id ≡ c.named_id.result)) c.geometry-unit.ensures c.named_id.ensures.named)

pub returns-clause-small : goal.returns-clause-small
returns-clause-small g c =
    λ few. c.named_id.ensures.small
