use Rattle.std.proofs.Common.{◌≡◌, ℕ, List, length, refl, sym, ap, ◌∙◌, arith}
use Rattle.std.specs.Prelude.{sum_by}
use Rattle.std.specs.List.{range_with_len}
use Rattle.item_laws.specs.Area.{open_sector}
use Rattle.item_laws.proofs.AreaReads.{length-sectors}
use Rattle.flash_sim.specs.Device.{Device}
use Rattle.flash_map.specs.declared.area.Area.{Area}
use Rattle.flash_map.specs.Area.{geometry_of, sectors_of}
use Rattle.item_store.specs.SectorFormat.{SectorFormat, IsSectorFormat}
use Rattle.item_store.proofs.Areas.{unit_is, large_there}
use Rattle.item_history.proofs.UsageSteps.{sector_total, sector_more, total_at_rest}
use Rattle.item_history.proofs.usage.total_cost.Goals as goal

pub overflow_add-cost : goal.overflow_add-cost
overflow_add-cost g c = omega (arith, c.loop-place.invariant.small, c.sector_cost-cost.ensures.small, c.requires.area.lawful.few)

pub loop-place-preserved : goal.loop-place-preserved
loop-place-preserved g c =
    let d : Device = g.F.Flash.device c.args.flash.now in
    let area : Area = c.args.area.now in
    let k : SectorFormat = g.T.SlotSectors.format_of (geometry_of d area) in
    let sectors : List (List ℕ) = sectors_of d area in
    let law : IsSectorFormat (g.T.SlotSectors.format_of (geometry_of d area)) = g.met.T.SlotSectors.lawful (geometry_of d area) (unit_is d area (g.met.F.Flash.is_lawful c.args.flash.now) c.requires.area.lawful) in
    let one = sector_more k sectors c.loop-place.place in
    let before = c.loop-place.invariant.so_far in
    let own = c.sector_cost-cost.ensures.cost in
    record {
      so_far = omega arith;
      small = omega (arith, c.loop-place.invariant.small, c.sector_cost-cost.ensures.small);
    }

pub returns : goal.returns
returns g c =
    let d : Device = g.F.Flash.device c.args.flash.now in
    let area : Area = c.args.area.now in
    let k : SectorFormat = g.T.SlotSectors.format_of (geometry_of d area) in
    let sectors : List (List ℕ) = sectors_of d area in
    let law : IsSectorFormat (g.T.SlotSectors.format_of (geometry_of d area)) = g.met.T.SlotSectors.lawful (geometry_of d area) (unit_is d area (g.met.F.Flash.is_lawful c.args.flash.now) c.requires.area.lawful) in
    let all : c.loop-place.place ≡ length sectors = omega (arith, length-sectors d area) in
    c.loop-place.invariant.so_far ∙ ap (λ (n : ℕ). sum_by (sector_total k sectors) (range_with_len 0 n)) all
    ∙ sym (total_at_rest k law sectors (open_sector k.reading sectors) refl (λ place inside. large_there g.T.SlotSectors.role d area (g.met.F.Flash.is_lawful c.args.flash.now) c.requires.area place (omega (arith, length-sectors d area))) c.requires.rested)
