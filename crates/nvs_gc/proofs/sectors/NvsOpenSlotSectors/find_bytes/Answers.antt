use Rattle.std.proofs.Common.{◌≡◌, ℕ, ◌+◌, List, length, Some, ap, subst, ◌∙◌, arith}
use Rattle.flash_sim.specs.Device.{Device}
use Rattle.flash_map.specs.declared.area.Geometry.{Geometry}
use Rattle.flash_map.specs.Area.{unit_of, sector_at, sectors_of}
use Rattle.item_laws.proofs.SlotCounts.{used_count_fits}
use Rattle.item_store.specs.declared.entry.IdRange.{IdRange}
use Rattle.item_store.specs.declared.entry.Placed.{Placed}
use Rattle.item_store.specs.SectorFormat.{placed_at}
use Rattle.nvs_store.specs.Geometry.{slot_size}
use Rattle.nvs_store.specs.Sector.{is_used, used_slots}
use Rattle.nvs_store.specs.Holding.{FindsHolder}
use Rattle.nvs_format.specs.Formats.{entry_of, placed_of}
use Rattle.nvs_format.proofs.HolderLemmas.{none_held, first_held}
use Rattle.nvs_gc.proofs.sectors.NvsOpenSlotSectors.find_bytes.Goals as goal

pub returns-in-Some-clause-found : goal.returns-in-Some-clause-found
returns-in-Some-clause-found g c =
    let d : Device = g.F.Flash.device c.args.flash.now in
    let unit : ℕ = unit_of d c.args.area.now in
    let b : List ℕ = sector_at (sectors_of d c.args.area.now) c.args.place in
    let ids : IdRange = c.args.ids.now in
    let is : c.placed.result ≡ placed_at c.args.place (entry_of c.in-Some.found) = c.placed.ensures.value ∙ ap placed_of c.at.ensures in
    first_held unit b ids c.args.bytes.now c.args.place (1 + c.args.start.now.skipped) c.in-Some.found c.placed.result is
    (subst (FindsHolder unit b ids.least ids.most c.args.bytes.now c.args.start.now.skipped) c.in-Some.is
    (subst (λ (xs : List ℕ). FindsHolder unit xs ids.least ids.most c.args.bytes.now c.args.start.now.skipped c.find_holder.result) c.sector_view-sector.ensures.bytes
    (subst (λ (x : Geometry). FindsHolder x.unit c.sector_view-sector.result.now ids.least ids.most c.args.bytes.now c.args.start.now.skipped c.find_holder.result) c.geometry-unit.ensures c.find_holder.ensures)))

pub returns-in-Some-clause-small : goal.returns-in-Some-clause-small
returns-in-Some-clause-small g c =
    let unit : ℕ = c.geometry-unit.result.unit in
    let b : List ℕ = c.sector_view-sector.result.now in
    let found : FindsHolder unit b c.args.ids.now.least c.args.ids.now.most c.args.bytes.now c.args.start.now.skipped (Some c.in-Some.found) = c.in-Some.ensures in
    let below = found.listed in
    let few = used_count_fits is_used 1 (slot_size unit) b in
    let slot : c.placed.result.slot ≡ c.in-Some.found.slot = ap (λ (p : Placed). p.slot) (c.placed.ensures.value ∙ ap placed_of c.at.ensures) in
    omega (arith, slot, below, few, c.sector_view-sector.ensures.len)

pub returns-in-None-clause-found : goal.returns-in-None-clause-found
returns-in-None-clause-found g c =
    let d : Device = g.F.Flash.device c.args.flash.now in
    let unit : ℕ = unit_of d c.args.area.now in
    let b : List ℕ = sector_at (sectors_of d c.args.area.now) c.args.place in
    let ids : IdRange = c.args.ids.now in
    none_held unit b ids c.args.bytes.now (1 + c.args.start.now.skipped) (1 + length (used_slots unit b))
    (subst (FindsHolder unit b ids.least ids.most c.args.bytes.now c.args.start.now.skipped) c.in-None.is
    (subst (λ (xs : List ℕ). FindsHolder unit xs ids.least ids.most c.args.bytes.now c.args.start.now.skipped c.find_holder.result) c.sector_view-sector.ensures.bytes
    (subst (λ (x : Geometry). FindsHolder x.unit c.sector_view-sector.result.now ids.least ids.most c.args.bytes.now c.args.start.now.skipped c.find_holder.result) c.geometry-unit.ensures c.find_holder.ensures)))
