use Rattle.std.proofs.Common.{◌≡◌, ℕ, ◌+◌, ◌-◌, List, subst, arith}
use Rattle.item_laws.specs.NextIds.{IsLeastOf}
use Rattle.item_laws.proofs.NextIds.{at_most_self, kept_then}
use Rattle.item_store.specs.Listed.{items_on}
use Rattle.item_store.proofs.NextSteps.{pairs_to, least_start, least_step, least_end}
use Rattle.flash_sim.specs.Device.{Device}
use Rattle.flash_map.specs.declared.area.Area.{Area}
use Rattle.flash_map.specs.Area.{geometry_of, sectors_of, sector_at}
use Rattle.item_store.specs.SectorFormat.{SectorFormat, IsSectorFormat}
use Rattle.item_store.proofs.Areas.{unit_is}
use Rattle.item_store.proofs.store.Store.next_in.Goals as goal

pub slots-slots-requires : goal.slots-slots-requires
slots-slots-requires g c =
    record {
      area = c.requires.stands.area;
      inside = c.requires.inside;
    }

pub overflow_add-slot-end : goal.overflow_add-slot-end
overflow_add-slot-end g c =
    omega (arith, c.slots-slots.ensures.few, c.first_slot-first.ensures.small)

pub loop-slot-init : goal.loop-slot-init
loop-slot-init g c =
    let d : Device = g.F.Flash.device c.args.flash.now in
    let area : Area = c.args.self.now.area in
    let k : SectorFormat = g.T.SlotSectors.format_of (geometry_of d area) in
    let sectors : List (List ℕ) = sectors_of d area in
    let count : c.slots-slots.result ≡ k.count (sector_at sectors c.args.place) = c.slots-slots.ensures.value in
    let first : c.first_slot-first.result ≡ k.first = c.first_slot-first.ensures.value (geometry_of d area) in
    let none : 0 ≡ c.first_slot-first.result - c.first_slot-first.result = omega arith in
    record {
      some = c.requires.some;
      small = c.requires.small;
      kept = at_most_self c.args.least;
      least = subst (λ (n : ℕ). IsLeastOf (items_on g.T.SlotSectors.format_of d area) c.args.after (pairs_to k (sector_at sectors c.args.place) n) c.args.least) none (least_start k (items_on g.T.SlotSectors.format_of d area) c.args.after (sector_at sectors c.args.place) c.args.least);
    }

pub entry_in-placed-requires : goal.entry_in-placed-requires
entry_in-placed-requires g c =
    let d : Device = g.F.Flash.device c.args.flash.now in
    let area : Area = c.args.self.now.area in
    let k : SectorFormat = g.T.SlotSectors.format_of (geometry_of d area) in
    let sectors : List (List ℕ) = sectors_of d area in
    let count : c.slots-slots.result ≡ k.count (sector_at sectors c.args.place) = c.slots-slots.ensures.value in
    let first : c.first_slot-first.result ≡ k.first = c.first_slot-first.ensures.value (geometry_of d area) in
    record {
      area = c.requires.stands.area;
      inside = c.requires.inside;
      listed = (omega arith, omega arith);
    }

pub lesser_of-next-requires : goal.lesser_of-next-requires
lesser_of-next-requires g c =
    record {
      stands = c.requires.stands;
      some = c.loop-slot.invariant.some;
      small = c.loop-slot.invariant.small;
      own = c.entry_in-placed.ensures.small;
    }

pub loop-slot-preserved : goal.loop-slot-preserved
loop-slot-preserved g c =
    let d : Device = g.F.Flash.device c.args.flash.now in
    let area : Area = c.args.self.now.area in
    let k : SectorFormat = g.T.SlotSectors.format_of (geometry_of d area) in
    let sectors : List (List ℕ) = sectors_of d area in
    let count : c.slots-slots.result ≡ k.count (sector_at sectors c.args.place) = c.slots-slots.ensures.value in
    let first : c.first_slot-first.result ≡ k.first = c.first_slot-first.ensures.value (geometry_of d area) in
    let n : ℕ = c.loop-slot.slot - c.first_slot-first.result in
    let at : c.loop-slot.slot ≡ k.first + (c.loop-slot.slot - c.first_slot-first.result) = omega arith in
    let up : c.loop-slot.slot - c.first_slot-first.result + 1 ≡ c.loop-slot.slot + 1 - c.first_slot-first.result = omega arith in
    record {
      some = c.lesser_of-next.ensures.some;
      small = c.lesser_of-next.ensures.small;
      kept = kept_then c.args.least c.loop-slot.next c.lesser_of-next.result c.loop-slot.invariant.kept c.lesser_of-next.ensures.kept;
      least = subst (λ (n : ℕ). IsLeastOf (items_on g.T.SlotSectors.format_of d area) c.args.after (pairs_to k (sector_at sectors c.args.place) n) c.lesser_of-next.result) up
          (least_step k (items_on g.T.SlotSectors.format_of d area) c.args.after (sector_at sectors c.args.place) c.args.place (c.loop-slot.slot - c.first_slot-first.result) c.loop-slot.slot c.entry_in-placed.result c.loop-slot.next c.lesser_of-next.result at c.entry_in-placed.ensures.entry c.lesser_of-next.ensures.kept c.lesser_of-next.ensures.id c.loop-slot.invariant.least);
    }

pub returns : goal.returns
returns g c =
    let d : Device = g.F.Flash.device c.args.flash.now in
    let area : Area = c.args.self.now.area in
    let k : SectorFormat = g.T.SlotSectors.format_of (geometry_of d area) in
    let sectors : List (List ℕ) = sectors_of d area in
    let law : IsSectorFormat (g.T.SlotSectors.format_of (geometry_of d area)) = g.met.T.SlotSectors.lawful (geometry_of d area) (unit_is d area (g.met.F.Flash.is_lawful c.args.flash.now) c.requires.stands.area.lawful) in
    let count : c.slots-slots.result ≡ k.count (sector_at sectors c.args.place) = c.slots-slots.ensures.value in
    let first : c.first_slot-first.result ≡ k.first = c.first_slot-first.ensures.value (geometry_of d area) in
    let all : c.loop-slot.slot - c.first_slot-first.result ≡ k.count (sector_at sectors c.args.place) = omega arith in
    record {
      some = c.loop-slot.invariant.some;
      small = c.loop-slot.invariant.small;
      kept = c.loop-slot.invariant.kept;
      least = least_end k law (items_on g.T.SlotSectors.format_of d area) c.args.after (sector_at sectors c.args.place) (c.loop-slot.slot - c.first_slot-first.result) c.loop-slot.next all c.loop-slot.invariant.least;
    }
