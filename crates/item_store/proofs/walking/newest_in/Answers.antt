use Rattle.std.proofs.Common.{◌≡◌, ℕ, ◌+◌, ◌-◌, min, List, None, sym, ap, ◌∙◌, arith}
use Rattle.std.specs.List.{last_or}
use Rattle.item_laws.proofs.AreaReads.{length-sectors}
use Rattle.item_store.proofs.OlderSteps.{placed_to, newest_here, newest_none}
use Rattle.item_store.proofs.Placings.{read_listed}
use Rattle.flash_sim.specs.Device.{Device}
use Rattle.flash_map.specs.declared.area.Area.{Area}
use Rattle.flash_map.specs.Area.{geometry_of, sectors_of, sector_at}
use Rattle.item_store.specs.SectorFormat.{SectorFormat, IsSectorFormat}
use Rattle.item_store.proofs.Areas.{unit_is}
use Rattle.item_store.proofs.walking.newest_in.Goals as goal

pub slots-requires : goal.slots-requires
slots-requires g c =
    record {
      area = c.requires.area;
      inside = c.requires.inside;
    }

pub loop-count-init : goal.loop-count-init
loop-count-init g c =
    let d : Device = g.F.Flash.device c.args.flash.now in
    let area : Area = c.args.area.now in
    let k : SectorFormat = g.T.SlotSectors.format_of (geometry_of d area) in
    let sectors : List (List ℕ) = sectors_of d area in
    let listed : c.slots.result ≡ k.count (sector_at sectors c.args.place) = c.slots.ensures.value in
    let first : c.first_slot-first.result ≡ k.first = c.first_slot-first.ensures.value (geometry_of d area) in
    let is : c.min-count.result ≡ min (k.count (sector_at sectors c.args.place)) c.args.limit = omega arith in
    record {
      inside = omega arith;
      later = ap (λ (n : ℕ). last_or None (placed_to k (sector_at sectors c.args.place) c.args.place n)) is;
    }

pub overflow_add-slot : goal.overflow_add-slot
overflow_add-slot g c =
    let d : Device = g.F.Flash.device c.args.flash.now in
    let area : Area = c.args.area.now in
    let k : SectorFormat = g.T.SlotSectors.format_of (geometry_of d area) in
    let sectors : List (List ℕ) = sectors_of d area in
    let listed : c.slots.result ≡ k.count (sector_at sectors c.args.place) = c.slots.ensures.value in
    let first : c.first_slot-first.result ≡ k.first = c.first_slot-first.ensures.value (geometry_of d area) in
    omega (arith, c.slots.ensures.few, c.first_slot-first.ensures.small, c.loop-count.invariant.inside)

pub entry_in-requires : goal.entry_in-requires
entry_in-requires g c =
    let d : Device = g.F.Flash.device c.args.flash.now in
    let area : Area = c.args.area.now in
    let k : SectorFormat = g.T.SlotSectors.format_of (geometry_of d area) in
    let sectors : List (List ℕ) = sectors_of d area in
    let listed : c.slots.result ≡ k.count (sector_at sectors c.args.place) = c.slots.ensures.value in
    let first : c.first_slot-first.result ≡ k.first = c.first_slot-first.ensures.value (geometry_of d area) in
    record {
      area = c.requires.area;
      inside = c.requires.inside;
      listed = (omega arith, omega (arith, c.loop-count.invariant.inside));
    }

pub returns-in-Some : goal.returns-in-Some
returns-in-Some g c =
    let d : Device = g.F.Flash.device c.args.flash.now in
    let area : Area = c.args.area.now in
    let k : SectorFormat = g.T.SlotSectors.format_of (geometry_of d area) in
    let sectors : List (List ℕ) = sectors_of d area in
    let law : IsSectorFormat (g.T.SlotSectors.format_of (geometry_of d area)) = g.met.T.SlotSectors.lawful (geometry_of d area) (unit_is d area (g.met.F.Flash.is_lawful c.args.flash.now) c.requires.area.lawful) in
    let listed : c.slots.result ≡ k.count (sector_at sectors c.args.place) = c.slots.ensures.value in
    let first : c.first_slot-first.result ≡ k.first = c.first_slot-first.ensures.value (geometry_of d area) in
    record {
      last = newest_here k law (sector_at sectors c.args.place) c.args.place c.loop-count.count (c.first_slot-first.result + (c.loop-count.count - 1)) c.in-Some.placed _ (omega arith) (omega arith) (sym c.in-Some.is ∙ c.entry_in.ensures.entry) c.loop-count.invariant.later;
      listed = (read_listed k law sectors c.args.place (c.first_slot-first.result + (c.loop-count.count - 1)) c.in-Some.placed (omega (arith, length-sectors d area, c.requires.inside)) (omega arith) (omega (arith, c.loop-count.invariant.inside)) (sym c.in-Some.is ∙ c.entry_in.ensures.entry)).0;
      sector = (read_listed k law sectors c.args.place (c.first_slot-first.result + (c.loop-count.count - 1)) c.in-Some.placed (omega (arith, length-sectors d area, c.requires.inside)) (omega arith) (omega (arith, c.loop-count.invariant.inside)) (sym c.in-Some.is ∙ c.entry_in.ensures.entry)).1;
    }

pub loop-count-preserved : goal.loop-count-preserved
loop-count-preserved g c =
    let d : Device = g.F.Flash.device c.args.flash.now in
    let area : Area = c.args.area.now in
    let k : SectorFormat = g.T.SlotSectors.format_of (geometry_of d area) in
    let sectors : List (List ℕ) = sectors_of d area in
    let law : IsSectorFormat (g.T.SlotSectors.format_of (geometry_of d area)) = g.met.T.SlotSectors.lawful (geometry_of d area) (unit_is d area (g.met.F.Flash.is_lawful c.args.flash.now) c.requires.area.lawful) in
    let listed : c.slots.result ≡ k.count (sector_at sectors c.args.place) = c.slots.ensures.value in
    let first : c.first_slot-first.result ≡ k.first = c.first_slot-first.ensures.value (geometry_of d area) in
    record {
      inside = omega (arith, c.loop-count.invariant.inside);
      later = newest_none k law (sector_at sectors c.args.place) c.args.place c.loop-count.count (c.first_slot-first.result + (c.loop-count.count - 1)) _ (omega arith) (omega arith) (sym c.in_default.is ∙ c.entry_in.ensures.entry) c.loop-count.invariant.later;
    }

pub returns : goal.returns
returns g c =
    let d : Device = g.F.Flash.device c.args.flash.now in
    let area : Area = c.args.area.now in
    let k : SectorFormat = g.T.SlotSectors.format_of (geometry_of d area) in
    let sectors : List (List ℕ) = sectors_of d area in
    let none : 0 ≡ c.loop-count.count = omega arith in
    record {
      last = ap (λ (n : ℕ). last_or None (placed_to k (sector_at sectors c.args.place) c.args.place n)) none ∙ c.loop-count.invariant.later;
      listed = tt;
      sector = tt;
    }
