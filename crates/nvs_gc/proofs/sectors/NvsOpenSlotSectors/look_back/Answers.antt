use Rattle.std.proofs.Common.{◌≡◌, ℕ, ◌+◌, ◌*◌, ◌≤◌, List, length, Option, Some, None, sym, ap, subst, ◌∙◌, arith}
use Rattle.std.specs.Option.{option_map}
use Rattle.flash_sim.specs.Device.{Device}
use Rattle.flash_map.specs.declared.area.Geometry.{Geometry}
use Rattle.flash_map.specs.Area.{unit_of, sector_at, sectors_of}
use Rattle.item_laws.proofs.SlotCounts.{used_count_fits}
use Rattle.item_store.specs.declared.entry.Placed.{Placed}
use Rattle.item_store.specs.Lasts.{AreOthers}
use Rattle.item_store.specs.SectorFormat.{placed_at}
use Rattle.nvs_store.specs.declared.scan.SlotEntry.{SlotEntry}
use Rattle.nvs_store.specs.Geometry.{slot_size}
use Rattle.nvs_store.specs.Sector.{is_used, slot_at, counting_entry}
use Rattle.nvs_store.proofs.Lookups.{used_inside}
use Rattle.nvs_store.proofs.SlotReads.{slot_size_bounds}
use Rattle.nvs_store.proofs.Views.{unit_is}
use Rattle.nvs_format.specs.Formats.{entry_of, placed_of, format_in}
use Rattle.nvs_gc.proofs.sectors.NvsOpenSlotSectors.look_back.Goals as goal

pub returns-in-Some-clause-look : goal.returns-in-Some-clause-look
returns-in-Some-clause-look g c =
    let d : Device = g.F.Flash.device c.args.flash.now in
    let unit : ℕ = unit_of d c.args.area.now in
    let b : List ℕ = sector_at (sectors_of d c.args.area.now) c.args.place in
    let at : c.args.before + 1 ≡ 1 + c.args.before = omega arith in
    let read : Some c.in-Some.found ≡ counting_entry unit (slot_at unit b (1 + c.args.before)) =
    sym c.in-Some.is ∙ c.counting_entry.ensures
    ∙ ap (λ (x : Geometry). counting_entry x.unit (slot_at x.unit c.sector_view-bytes.result.now (c.args.before + 1))) c.geometry-unit.ensures
    ∙ ap (λ (xs : List ℕ). counting_entry unit (slot_at unit xs (c.args.before + 1))) c.sector_view-bytes.ensures.bytes
    ∙ ap (λ (n : ℕ). counting_entry unit (slot_at unit b n)) at in
    let is : c.placed.result ≡ placed_at c.args.place (entry_of c.in-Some.found) = c.placed.ensures.value ∙ ap placed_of c.at.ensures in
    record {
      entry = ap (λ (p : Placed). Some p) is ∙ ap (λ (o : Option SlotEntry). option_map (placed_at c.args.place) (option_map entry_of o)) read;
      few = c.reach_in-reach.ensures.few;
      others = subst (λ (xs : List ℕ). AreOthers (format_in unit) xs c.reach_in-reach.result c.args.before c.args.ids.now.least c.args.ids.now.most) c.sector_view-bytes.ensures.bytes
          (subst (λ (x : Geometry). AreOthers (format_in x.unit) c.sector_view-bytes.result.now c.reach_in-reach.result c.args.before c.args.ids.now.least c.args.ids.now.most) c.geometry-unit.ensures c.reach_in-reach.ensures.others);
    }

pub returns-in-None-clause-look : goal.returns-in-None-clause-look
returns-in-None-clause-look g c =
    let d : Device = g.F.Flash.device c.args.flash.now in
    let unit : ℕ = unit_of d c.args.area.now in
    let b : List ℕ = sector_at (sectors_of d c.args.area.now) c.args.place in
    let at : c.args.before + 1 ≡ 1 + c.args.before = omega arith in
    let read : None ≡ counting_entry unit (slot_at unit b (1 + c.args.before)) =
    sym c.in-None.is ∙ c.counting_entry.ensures
    ∙ ap (λ (x : Geometry). counting_entry x.unit (slot_at x.unit c.sector_view-bytes.result.now (c.args.before + 1))) c.geometry-unit.ensures
    ∙ ap (λ (xs : List ℕ). counting_entry unit (slot_at unit xs (c.args.before + 1))) c.sector_view-bytes.ensures.bytes
    ∙ ap (λ (n : ℕ). counting_entry unit (slot_at unit b n)) at in
    record {
      entry = ap (λ (o : Option SlotEntry). option_map (placed_at c.args.place) (option_map entry_of o)) read;
      few = c.reach_in-reach.ensures.few;
      others = subst (λ (xs : List ℕ). AreOthers (format_in unit) xs c.reach_in-reach.result c.args.before c.args.ids.now.least c.args.ids.now.most) c.sector_view-bytes.ensures.bytes
          (subst (λ (x : Geometry). AreOthers (format_in x.unit) c.sector_view-bytes.result.now c.reach_in-reach.result c.args.before c.args.ids.now.least c.args.ids.now.most) c.geometry-unit.ensures c.reach_in-reach.ensures.others);
    }

pub reach_in-reach-requires-clause-inside : goal.reach_in-reach-requires-clause-inside
reach_in-reach-requires-clause-inside g c =
    let d : Device = g.F.Flash.device c.args.flash.now in
    let unit : ℕ = unit_of d c.args.area.now in
    let b : List ℕ = sector_at (sectors_of d c.args.area.now) c.args.place in
    let size = slot_size_bounds unit (unit_is d c.args.area.now (g.met.F.Flash.is_lawful c.args.flash.now) c.requires.area.lawful.in_bank) in
    let long : length c.sector_view-bytes.result.now ≡ length b = ap length c.sector_view-bytes.ensures.bytes in
    let large : slot_size unit ≤ length b = omega (arith, c.sector_view-bytes.ensures.len, c.requires.area.lawful.at_least) in
    let listed = c.requires.listed in
    let inside : (c.args.before + 1) * slot_size unit ≤ length b = used_inside unit b c.args.before (omega arith) large (omega (arith, listed)) in
    subst (λ (x : Geometry). (c.args.before + 1) * slot_size x.unit ≤ length c.sector_view-bytes.result.now) (sym c.geometry-unit.ensures)
    (subst (λ (n : ℕ). (c.args.before + 1) * slot_size unit ≤ n) (sym long) inside)

pub counting_entry-requires-clause-inside : goal.counting_entry-requires-clause-inside
counting_entry-requires-clause-inside g c =
    let d : Device = g.F.Flash.device c.args.flash.now in
    let unit : ℕ = unit_of d c.args.area.now in
    let b : List ℕ = sector_at (sectors_of d c.args.area.now) c.args.place in
    let size = slot_size_bounds unit (unit_is d c.args.area.now (g.met.F.Flash.is_lawful c.args.flash.now) c.requires.area.lawful.in_bank) in
    let long : length c.sector_view-bytes.result.now ≡ length b = ap length c.sector_view-bytes.ensures.bytes in
    let large : slot_size unit ≤ length b = omega (arith, c.sector_view-bytes.ensures.len, c.requires.area.lawful.at_least) in
    let inside : (c.args.before + 1 + 1) * slot_size unit ≤ length b = used_inside unit b (c.args.before + 1) (omega arith) large c.requires.listed in
    subst (λ (x : Geometry). (c.args.before + 1 + 1) * slot_size x.unit ≤ length c.sector_view-bytes.result.now) (sym c.geometry-unit.ensures)
    (subst (λ (n : ℕ). (c.args.before + 1 + 1) * slot_size unit ≤ n) (sym long) inside)

pub overflow_add-before : goal.overflow_add-before
overflow_add-before g c =
    let d : Device = g.F.Flash.device c.args.flash.now in
    let unit : ℕ = unit_of d c.args.area.now in
    let b : List ℕ = sector_at (sectors_of d c.args.area.now) c.args.place in
    let few = used_count_fits is_used 1 (slot_size unit) b in
    let long : length c.sector_view-bytes.result.now ≡ length b = ap length c.sector_view-bytes.ensures.bytes in
    omega (arith, few, long, c.requires.listed, c.sector_view-bytes.ensures.len, c.requires.area.lawful.at_most)
