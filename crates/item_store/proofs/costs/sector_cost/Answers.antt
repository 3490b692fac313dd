use Rattle.std.proofs.Common.{◌≡◌, ℕ, ◌+◌, ◌-◌, List, sym, ap, ◌∙◌, arith}
use Rattle.item_laws.specs.PairRounds.{copies_cost}
use Rattle.item_laws.specs.Live.{live_in, live_to, cost_of}
use Rattle.item_store.specs.Seen.{holds_live}
use Rattle.item_store.proofs.CopyLoop.{to_cost}
use Rattle.flash_sim.specs.Device.{Device}
use Rattle.flash_map.specs.declared.area.Area.{Area}
use Rattle.flash_map.specs.Area.{geometry_of, sectors_of, sector_at}
use Rattle.item_store.specs.SectorFormat.{SectorFormat, IsSectorFormat, slots}
use Rattle.item_store.proofs.Areas.{unit_is}
use Rattle.item_store.proofs.costs.sector_cost.Goals as goal

pub overflow_add-slot-end : goal.overflow_add-slot-end
overflow_add-slot-end g c =
    omega (arith, c.slots-slots.ensures.few, c.first_slot-first.ensures.small)

pub loop-slot-init : goal.loop-slot-init
loop-slot-init g c =
    let d : Device = g.F.Flash.device c.args.flash.now in
    let area : Area = c.args.area.now in
    let k : SectorFormat = g.T.SlotSectors.format_of (geometry_of d area) in
    let sectors : List (List ℕ) = sectors_of d area in
    let none : 0 ≡ c.first_slot-first.result - c.first_slot-first.result = omega arith in
    record { so_far = ap (λ (n : ℕ). copies_cost k.cost (live_to (slots k) sectors c.args.place n)) none; small = omega arith }

pub has-is-requires : goal.has-is-requires
has-is-requires g c =
    omega (arith, c.slots-slots.ensures.few)

pub slot_cost-cost-requires-clause-listed : goal.slot_cost-cost-requires-clause-listed
slot_cost-cost-requires-clause-listed g c =
    let d : Device = g.F.Flash.device c.args.flash.now in
    let area : Area = c.args.area.now in
    let k : SectorFormat = g.T.SlotSectors.format_of (geometry_of d area) in
    let sectors : List (List ℕ) = sectors_of d area in
    let count : c.slots-slots.result ≡ k.count (sector_at sectors c.args.place) = c.slots-slots.ensures.value in
    let first : c.first_slot-first.result ≡ k.first = c.first_slot-first.ensures.value (geometry_of d area) in
    (omega arith, omega arith)

pub slot_cost-cost-requires-clause-live : goal.slot_cost-cost-requires-clause-live
slot_cost-cost-requires-clause-live g c =
    let d : Device = g.F.Flash.device c.args.flash.now in
    let area : Area = c.args.area.now in
    let k : SectorFormat = g.T.SlotSectors.format_of (geometry_of d area) in
    let sectors : List (List ℕ) = sectors_of d area in
    let count : c.slots-slots.result ≡ k.count (sector_at sectors c.args.place) = c.slots-slots.ensures.value in
    let first : c.first_slot-first.result ≡ k.first = c.first_slot-first.ensures.value (geometry_of d area) in
    let back : k.first + (c.loop-slot.slot - c.first_slot-first.result) ≡ c.loop-slot.slot = omega arith in
    c.has-is.ensures ∙ c.requires.live (c.loop-slot.slot - c.first_slot-first.result) (omega arith) ∙ ap (holds_live k sectors c.args.place) back

pub overflow_add-cost : goal.overflow_add-cost
overflow_add-cost g c =
    omega (arith, c.slots-slots.ensures.few, c.loop-slot.invariant.small, c.slot_cost-cost.ensures.small)

pub loop-slot-preserved : goal.loop-slot-preserved
loop-slot-preserved g c =
    let d : Device = g.F.Flash.device c.args.flash.now in
    let area : Area = c.args.area.now in
    let k : SectorFormat = g.T.SlotSectors.format_of (geometry_of d area) in
    let sectors : List (List ℕ) = sectors_of d area in
    let law : IsSectorFormat (g.T.SlotSectors.format_of (geometry_of d area)) = g.met.T.SlotSectors.lawful (geometry_of d area) (unit_is d area (g.met.F.Flash.is_lawful c.args.flash.now) c.requires.area.lawful) in
    let count : c.slots-slots.result ≡ k.count (sector_at sectors c.args.place) = c.slots-slots.ensures.value in
    let first : c.first_slot-first.result ≡ k.first = c.first_slot-first.ensures.value (geometry_of d area) in
    let n : ℕ = c.loop-slot.slot - c.first_slot-first.result in
    let back : n + k.first ≡ c.loop-slot.slot = omega arith in
    let up : n + 1 ≡ c.loop-slot.slot + 1 - c.first_slot-first.result = omega arith in
    let one : copies_cost k.cost (live_to (slots k) sectors c.args.place (n + 1)) ≡ copies_cost k.cost (live_to (slots k) sectors c.args.place n) + cost_of (slots k) (live_in (slots k) sectors c.args.place (n + k.first)) =
    to_cost k law k.cost sectors c.args.place n c.requires.within (omega arith) in
    let own : c.slot_cost-cost.result ≡ cost_of (slots k) (live_in (slots k) sectors c.args.place (n + k.first)) = c.slot_cost-cost.ensures.cost ∙ ap (λ (j : ℕ). cost_of (slots k) (live_in (slots k) sectors c.args.place j)) (sym back) in
    let before = c.loop-slot.invariant.so_far in
    let all : c.loop-slot.cost + c.slot_cost-cost.result ≡ copies_cost k.cost (live_to (slots k) sectors c.args.place (n + 1)) = omega arith in
    record {
      so_far = all ∙ ap (λ (m : ℕ). copies_cost k.cost (live_to (slots k) sectors c.args.place m)) up;
      small = omega (arith, c.loop-slot.invariant.small, c.slot_cost-cost.ensures.small);
    }

pub returns-clause-cost : goal.returns-clause-cost
returns-clause-cost g c =
    let d : Device = g.F.Flash.device c.args.flash.now in
    let area : Area = c.args.area.now in
    let k : SectorFormat = g.T.SlotSectors.format_of (geometry_of d area) in
    let sectors : List (List ℕ) = sectors_of d area in
    let count : c.slots-slots.result ≡ k.count (sector_at sectors c.args.place) = c.slots-slots.ensures.value in
    let first : c.first_slot-first.result ≡ k.first = c.first_slot-first.ensures.value (geometry_of d area) in
    let all : c.loop-slot.slot - c.first_slot-first.result ≡ k.count (sector_at sectors c.args.place) = omega arith in
    c.loop-slot.invariant.so_far ∙ ap (λ (m : ℕ). copies_cost k.cost (live_to (slots k) sectors c.args.place m)) all

pub returns-clause-small : goal.returns-clause-small
returns-clause-small g c =
    omega (arith, c.slots-slots.ensures.few, c.loop-slot.invariant.small)
