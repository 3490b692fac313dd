use Rattle.std.proofs.Common.{◌≡◌, ℕ, ◌+◌, ◌-◌, ◌≤◌, List, map, arith}
use Rattle.flash_sim.specs.Device.{Device}
use Rattle.flash_map.specs.declared.area.Area.{Area}
use Rattle.flash_map.specs.Area.{geometry_of, sectors_of, sector_at}
use Rattle.item_store.specs.SectorFormat.{SectorFormat, IsSectorFormat, placed_at, entries}
use Rattle.item_store.proofs.Areas.{unit_is}
use Rattle.item_history.specs.declared.searches.Search.TheVariants.{Found, Left}
use Rattle.item_history.proofs.SearchSteps.{at_slot, behind_slots, none_passed, one_more, whole_sector, from_start, pass_more, found_more}
use Rattle.item_history.proofs.searches.pass_sector.Goals as goal

pub loop-count-init : goal.loop-count-init
loop-count-init g c =
    let d : Device = g.F.Flash.device c.args.flash.now in
    let area : Area = c.args.area.now in
    let k : SectorFormat = g.T.SlotSectors.format_of (geometry_of d area) in
    let sectors : List (List ℕ) = sectors_of d area in
    let law : IsSectorFormat (g.T.SlotSectors.format_of (geometry_of d area)) = g.met.T.SlotSectors.lawful (geometry_of d area) (unit_is d area (g.met.F.Flash.is_lawful c.args.flash.now) c.requires.area.lawful) in
    let count : c.slots-count.result ≡ k.count (sector_at sectors c.args.place) = c.slots-count.ensures.value in
    let first : c.first_slot-first.result ≡ k.first = c.first_slot-first.ensures.value (geometry_of d area) in
    record { inside = omega arith; passed = none_passed k (sector_at sectors c.args.place) c.args.place c.args.id c.args.n c.slots-count.result count }

pub overflow_add-slot : goal.overflow_add-slot
overflow_add-slot g c =
    let d : Device = g.F.Flash.device c.args.flash.now in
    let area : Area = c.args.area.now in
    let k : SectorFormat = g.T.SlotSectors.format_of (geometry_of d area) in
    let sectors : List (List ℕ) = sectors_of d area in
    let law : IsSectorFormat (g.T.SlotSectors.format_of (geometry_of d area)) = g.met.T.SlotSectors.lawful (geometry_of d area) (unit_is d area (g.met.F.Flash.is_lawful c.args.flash.now) c.requires.area.lawful) in
    let count : c.slots-count.result ≡ k.count (sector_at sectors c.args.place) = c.slots-count.ensures.value in
    let first : c.first_slot-first.result ≡ k.first = c.first_slot-first.ensures.value (geometry_of d area) in
    omega (arith, c.slots-count.ensures.few, c.first_slot-first.ensures.small, c.loop-count.invariant.inside)

pub pass_slot-requires-clause-slot : goal.pass_slot-requires-clause-slot
pass_slot-requires-clause-slot g c =
    let d : Device = g.F.Flash.device c.args.flash.now in
    let area : Area = c.args.area.now in
    let k : SectorFormat = g.T.SlotSectors.format_of (geometry_of d area) in
    let sectors : List (List ℕ) = sectors_of d area in
    let law : IsSectorFormat (g.T.SlotSectors.format_of (geometry_of d area)) = g.met.T.SlotSectors.lawful (geometry_of d area) (unit_is d area (g.met.F.Flash.is_lawful c.args.flash.now) c.requires.area.lawful) in
    let count : c.slots-count.result ≡ k.count (sector_at sectors c.args.place) = c.slots-count.ensures.value in
    let first : c.first_slot-first.result ≡ k.first = c.first_slot-first.ensures.value (geometry_of d area) in
    (omega arith, omega (arith, c.loop-count.invariant.inside))

pub returns-in-Found-clause-entry : goal.returns-in-Found-clause-entry
returns-in-Found-clause-entry g c =
    let d : Device = g.F.Flash.device c.args.flash.now in
    let area : Area = c.args.area.now in
    let k : SectorFormat = g.T.SlotSectors.format_of (geometry_of d area) in
    let sectors : List (List ℕ) = sectors_of d area in
    let law : IsSectorFormat (g.T.SlotSectors.format_of (geometry_of d area)) = g.met.T.SlotSectors.lawful (geometry_of d area) (unit_is d area (g.met.F.Flash.is_lawful c.args.flash.now) c.requires.area.lawful) in
    let count : c.slots-count.result ≡ k.count (sector_at sectors c.args.place) = c.slots-count.ensures.value in
    let first : c.first_slot-first.result ≡ k.first = c.first_slot-first.ensures.value (geometry_of d area) in
    let b : List ℕ = sector_at sectors c.args.place in
    let inside : c.loop-count.count ≤ k.count (sector_at sectors c.args.place) = c.loop-count.invariant.inside in
    let slot : ℕ = c.first_slot-first.result + (c.loop-count.count - 1) in
    let more = one_more k (sector_at sectors c.args.place) c.args.place c.loop-count.count (c.first_slot-first.result + (c.loop-count.count - 1)) (omega arith) (omega arith) (omega arith) in
    let here = pass_more c.args.id (at_slot k b c.args.place slot) (behind_slots k b c.args.place c.loop-count.count) (behind_slots k b c.args.place (c.loop-count.count - 1)) c.args.n c.loop-count.left (Found c.in-Found.placed) more c.loop-count.invariant.passed c.in-Found.ensures.entry in
    found_more c.args.id _ (behind_slots k b c.args.place (c.loop-count.count - 1)) (map (placed_at c.args.place) (entries k b)) c.args.n c.in-Found.placed (whole_sector k b c.args.place (c.loop-count.count - 1) (omega arith)) here

pub loop-count-preserved : goal.loop-count-preserved
loop-count-preserved g c =
    let d : Device = g.F.Flash.device c.args.flash.now in
    let area : Area = c.args.area.now in
    let k : SectorFormat = g.T.SlotSectors.format_of (geometry_of d area) in
    let sectors : List (List ℕ) = sectors_of d area in
    let law : IsSectorFormat (g.T.SlotSectors.format_of (geometry_of d area)) = g.met.T.SlotSectors.lawful (geometry_of d area) (unit_is d area (g.met.F.Flash.is_lawful c.args.flash.now) c.requires.area.lawful) in
    let count : c.slots-count.result ≡ k.count (sector_at sectors c.args.place) = c.slots-count.ensures.value in
    let first : c.first_slot-first.result ≡ k.first = c.first_slot-first.ensures.value (geometry_of d area) in
    let b : List ℕ = sector_at sectors c.args.place in
    let inside : c.loop-count.count ≤ k.count (sector_at sectors c.args.place) = c.loop-count.invariant.inside in
    let slot : ℕ = c.first_slot-first.result + (c.loop-count.count - 1) in
    let more = one_more k (sector_at sectors c.args.place) c.args.place c.loop-count.count (c.first_slot-first.result + (c.loop-count.count - 1)) (omega arith) (omega arith) (omega arith) in
    record {
      inside = omega arith;
      passed = pass_more c.args.id (at_slot k b c.args.place slot) (behind_slots k b c.args.place c.loop-count.count) (behind_slots k b c.args.place (c.loop-count.count - 1)) c.args.n c.loop-count.left (Left c.in-Left.more) more c.loop-count.invariant.passed c.in-Left.ensures.entry;
    }

pub returns-clause-entry : goal.returns-clause-entry
returns-clause-entry g c =
    let d : Device = g.F.Flash.device c.args.flash.now in
    let area : Area = c.args.area.now in
    let k : SectorFormat = g.T.SlotSectors.format_of (geometry_of d area) in
    let sectors : List (List ℕ) = sectors_of d area in
    let law : IsSectorFormat (g.T.SlotSectors.format_of (geometry_of d area)) = g.met.T.SlotSectors.lawful (geometry_of d area) (unit_is d area (g.met.F.Flash.is_lawful c.args.flash.now) c.requires.area.lawful) in
    let count : c.slots-count.result ≡ k.count (sector_at sectors c.args.place) = c.slots-count.ensures.value in
    let first : c.first_slot-first.result ≡ k.first = c.first_slot-first.ensures.value (geometry_of d area) in
    from_start k (sector_at sectors c.args.place) c.args.place c.args.id c.args.n c.loop-count.count (Left c.loop-count.left) (omega arith) c.loop-count.invariant.passed
