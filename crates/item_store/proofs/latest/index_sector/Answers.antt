use Rattle.std.proofs.Common.{◌≡◌, ℕ, ◌+◌, ◌-◌, List, ◌++◌, sym, ap, subst, ◌∙◌, arith}
use Rattle.std.specs.Option.{option_map, option_to_list}
use Rattle.item_laws.proofs.AreaReads.{length-sectors}
use Rattle.flash_sim.specs.Device.{Device}
use Rattle.flash_map.specs.declared.area.Area.{Area}
use Rattle.flash_map.specs.Area.{geometry_of, sectors_of, sector_at}
use Rattle.item_store.specs.SectorFormat.{SectorFormat, IsSectorFormat, placed_at}
use Rattle.item_store.specs.Latest.{Covers}
use Rattle.item_store.proofs.Areas.{unit_is, open_inside}
use Rattle.item_store.proofs.LiveSteps.{later_at, later_step, later_none, later_all, stand_behind}
use Rattle.item_store.proofs.latest.index_sector.Goals as goal

pub loop-left-init : goal.loop-left-init
loop-left-init g c =
    let d : Device = g.F.Flash.device c.args.flash.now in
    let area : Area = c.args.on.now.area.now in
    let k : SectorFormat = g.T.SlotSectors.format_of (geometry_of d area) in
    let sectors : List (List ℕ) = sectors_of d area in
    let law : IsSectorFormat (g.T.SlotSectors.format_of (geometry_of d area)) = g.met.T.SlotSectors.lawful (geometry_of d area) (unit_is d area (g.met.F.Flash.is_lawful c.args.flash.now) c.requires.on.area.lawful) in
    let count : c.slots-left.result ≡ k.count (sector_at sectors c.args.place) = c.slots-left.ensures.value in
    let first : c.first_slot-first.result ≡ k.first = c.first_slot-first.ensures.value (geometry_of d area) in
    record {
      within = omega arith;
      covers = subst (Covers k.ids c.args.last.now c.args.seen.now) (later_none k law sectors c.args.on.now.current c.args.place ∙ ap (later_at k law sectors c.args.on.now.current c.args.place) (sym count)) c.requires.covers;
    }

pub overflow_add-slot : goal.overflow_add-slot
overflow_add-slot g c =
    let d : Device = g.F.Flash.device c.args.flash.now in
    let area : Area = c.args.on.now.area.now in
    let k : SectorFormat = g.T.SlotSectors.format_of (geometry_of d area) in
    let sectors : List (List ℕ) = sectors_of d area in
    let count : c.slots-left.result ≡ k.count (sector_at sectors c.args.place) = c.slots-left.ensures.value in
    let first : c.first_slot-first.result ≡ k.first = c.first_slot-first.ensures.value (geometry_of d area) in
    omega (arith, c.slots-left.ensures.few, c.first_slot-first.ensures.small, c.loop-left.invariant.within)

pub index_slot-requires-clause-listed : goal.index_slot-requires-clause-listed
index_slot-requires-clause-listed g c =
    let d : Device = g.F.Flash.device c.args.flash.now in
    let area : Area = c.args.on.now.area.now in
    let k : SectorFormat = g.T.SlotSectors.format_of (geometry_of d area) in
    let sectors : List (List ℕ) = sectors_of d area in
    let count : c.slots-left.result ≡ k.count (sector_at sectors c.args.place) = c.slots-left.ensures.value in
    let first : c.first_slot-first.result ≡ k.first = c.first_slot-first.ensures.value (geometry_of d area) in
    (omega arith, omega (arith, c.loop-left.invariant.within))

pub loop-left-preserved : goal.loop-left-preserved
loop-left-preserved g c =
    let d : Device = g.F.Flash.device c.args.flash.now in
    let area : Area = c.args.on.now.area.now in
    let k : SectorFormat = g.T.SlotSectors.format_of (geometry_of d area) in
    let sectors : List (List ℕ) = sectors_of d area in
    let law : IsSectorFormat (g.T.SlotSectors.format_of (geometry_of d area)) = g.met.T.SlotSectors.lawful (geometry_of d area) (unit_is d area (g.met.F.Flash.is_lawful c.args.flash.now) c.requires.on.area.lawful) in
    let count : c.slots-left.result ≡ k.count (sector_at sectors c.args.place) = c.slots-left.ensures.value in
    let first : c.first_slot-first.result ≡ k.first = c.first_slot-first.ensures.value (geometry_of d area) in
    let low = open_inside k d area c.args.on.now.current c.requires.on.area.lawful c.requires.on.current in
    let long = length-sectors d area in
    let now = c.loop-left.invariant in
    let within = now.within in
    let some = c.loop-left-test.true in
    let slot : c.first_slot-first.result + (c.loop-left.left - 1) ≡ k.first + (c.loop-left.left - 1) = omega arith in
    let up : c.loop-left.left ≡ c.loop-left.left - 1 + 1 = omega arith in
    let there : Covers k.ids c.loop-left.last c.loop-left.seen (later_at k law sectors c.args.on.now.current c.args.place (c.loop-left.left - 1 + 1)) = subst (λ (m : ℕ). Covers k.ids c.loop-left.last c.loop-left.seen (later_at k law sectors c.args.on.now.current c.args.place m)) up now.covers in
    record {
      within = omega arith;
      covers = subst (Covers k.ids c.index_slot.new.last c.index_slot.new.seen)
          (ap (λ (j : ℕ). option_to_list (option_map (placed_at c.args.place) (k.in_slot (sector_at sectors c.args.place) j)) ++ later_at k law sectors c.args.on.now.current c.args.place (c.loop-left.left - 1 + 1)) slot ∙ later_step k law sectors c.args.on.now.current c.args.place (c.loop-left.left - 1) (omega arith))
          (c.index_slot.ensures (later_at k law sectors c.args.on.now.current c.args.place (c.loop-left.left - 1 + 1))
          (λ p found. stand_behind k law sectors c.args.on.now.current c.args.place (sym c.requires.on.current) (omega arith) (omega arith) c.requires.counts (c.loop-left.left - 1) (omega arith) p (ap (λ (j : ℕ). option_map (placed_at c.args.place) (k.in_slot (sector_at sectors c.args.place) j)) (sym slot) ∙ found)) there);
    }

pub returns : goal.returns
returns g c =
    let d : Device = g.F.Flash.device c.args.flash.now in
    let area : Area = c.args.on.now.area.now in
    let k : SectorFormat = g.T.SlotSectors.format_of (geometry_of d area) in
    let sectors : List (List ℕ) = sectors_of d area in
    let law : IsSectorFormat (g.T.SlotSectors.format_of (geometry_of d area)) = g.met.T.SlotSectors.lawful (geometry_of d area) (unit_is d area (g.met.F.Flash.is_lawful c.args.flash.now) c.requires.on.area.lawful) in
    let none : c.loop-left.left ≡ 0 = omega arith in
    subst (Covers k.ids c.loop-left.last c.loop-left.seen) (ap (later_at k law sectors c.args.on.now.current c.args.place) none ∙ later_all k law sectors c.args.on.now.current c.args.place c.requires.counts) c.loop-left.invariant.covers
