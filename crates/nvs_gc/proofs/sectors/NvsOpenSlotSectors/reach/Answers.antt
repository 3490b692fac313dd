use Rattle.std.proofs.Common.{◌≡◌, ℕ, ◌+◌, ◌*◌, ◌≤◌, List, length, sym, ap, subst, ◌∙◌, arith}
use Rattle.flash_sim.specs.Device.{Device}
use Rattle.flash_map.specs.declared.area.Geometry.{Geometry}
use Rattle.flash_map.specs.Area.{unit_of, sector_at, sectors_of}
use Rattle.item_store.specs.Lasts.{AreOthers}
use Rattle.nvs_store.specs.Geometry.{slot_size}
use Rattle.nvs_store.specs.Sector.{used_slots}
use Rattle.nvs_store.proofs.Lookups.{used_inside}
use Rattle.nvs_store.proofs.SlotReads.{slot_size_bounds}
use Rattle.nvs_store.proofs.Views.{unit_is}
use Rattle.nvs_format.specs.Formats.{format_in}
use Rattle.nvs_gc.proofs.sectors.NvsOpenSlotSectors.reach.Goals as goal

pub reach_in-requires-clause-inside : goal.reach_in-requires-clause-inside
reach_in-requires-clause-inside g c =
    let d : Device = g.F.Flash.device c.args.flash.now in
    let unit : ℕ = unit_of d c.args.area.now in
    let bytes : List ℕ = c.sector_view-bytes.result.now in
    let size = slot_size_bounds unit (unit_is d c.args.area.now (g.met.F.Flash.is_lawful c.args.flash.now) c.requires.area.lawful.in_bank) in
    let large : slot_size unit ≤ length bytes = omega (arith, c.sector_view-bytes.ensures.len, c.requires.area.lawful.at_least) in
    let used : c.used_count.result ≡ length (used_slots unit bytes) = c.used_count.ensures.count ∙ ap (λ (x : Geometry). length (used_slots x.unit c.sector_view-bytes.result.now)) c.geometry-unit.ensures in
    let inside : (c.used_count.result + 1) * slot_size unit ≤ length bytes = used_inside unit bytes c.used_count.result (omega arith) large (omega (arith, used)) in
    subst (λ (x : Geometry). (c.used_count.result + 1) * slot_size x.unit ≤ length c.sector_view-bytes.result.now) (sym c.geometry-unit.ensures) inside

pub returns-clause-few : goal.returns-clause-few
returns-clause-few g c =
    let d : Device = g.F.Flash.device c.args.flash.now in
    let unit : ℕ = unit_of d c.args.area.now in
    let b : List ℕ = sector_at (sectors_of d c.args.area.now) c.args.place in
    let used : c.used_count.result ≡ length (used_slots unit b) =
    c.used_count.ensures.count ∙ ap (λ (x : Geometry). length (used_slots x.unit c.sector_view-bytes.result.now)) c.geometry-unit.ensures
    ∙ ap (λ (xs : List ℕ). length (used_slots unit xs)) c.sector_view-bytes.ensures.bytes in
    omega (arith, used, c.reach_in.ensures.few)

pub returns-clause-others : goal.returns-clause-others
returns-clause-others g c =
    let d : Device = g.F.Flash.device c.args.flash.now in
    let unit : ℕ = unit_of d c.args.area.now in
    let b : List ℕ = sector_at (sectors_of d c.args.area.now) c.args.place in
    let used : c.used_count.result ≡ length (used_slots unit b) =
    c.used_count.ensures.count ∙ ap (λ (x : Geometry). length (used_slots x.unit c.sector_view-bytes.result.now)) c.geometry-unit.ensures
    ∙ ap (λ (xs : List ℕ). length (used_slots unit xs)) c.sector_view-bytes.ensures.bytes in
    subst (λ (n : ℕ). AreOthers (format_in unit) b c.reach_in.result n c.args.ids.now.least c.args.ids.now.most) used
    (subst (λ (xs : List ℕ). AreOthers (format_in unit) xs c.reach_in.result c.used_count.result c.args.ids.now.least c.args.ids.now.most) c.sector_view-bytes.ensures.bytes
    (subst (λ (x : Geometry). AreOthers (format_in x.unit) c.sector_view-bytes.result.now c.reach_in.result c.used_count.result c.args.ids.now.least c.args.ids.now.most) c.geometry-unit.ensures c.reach_in.ensures.others))
