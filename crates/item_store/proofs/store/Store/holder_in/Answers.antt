use Rattle.std.proofs.Common.{◌≡◌, ℕ, ◌+◌, ◌-◌, ◌*◌, ◌^◌, ◌<◌, ◌≤◌, List, Option, Some, None, refl, sym, ap, subst, ◌∙◌, arith, true}
use Rattle.std.specs.Prelude.{is_some, IfSome}
use Rattle.std.specs.FinMap.{get}
use Rattle.flash_sim.specs.Device.{Device}
use Rattle.flash_map.specs.declared.area.Area.{Area}
use Rattle.flash_map.specs.Area.{geometry_of, sectors_of, sector_at}
use Rattle.flash_map.proofs.MapLemmas.{not_some}
use Rattle.item_laws.specs.Bytes.{HasBytes}
use Rattle.item_laws.specs.Items.{Items}
use Rattle.item_store.specs.declared.entry.IdRange.{IdRange}
use Rattle.item_store.specs.declared.entry.Placed.{Placed}
use Rattle.item_store.specs.declared.holding.Holder.{Holder}
use Rattle.item_store.specs.Asking.{IsHolderAt, FindsHolderIn}
use Rattle.item_store.specs.Holding.{held_from, held_in, holder_views, IsFirstHolder, FindsBytes}
use Rattle.item_store.specs.Listed.{items_on}
use Rattle.item_store.specs.SectorFormat.{SectorFormat, IsSectorFormat}
use Rattle.item_store.proofs.Areas.{unit_is}
use Rattle.item_store.proofs.HeldSteps.{held-all, held-less, one-less, one-found, none-less, same-most, equal-most, rest-within, some-within, found-searches}
use Rattle.item_store.proofs.HoldingSteps.{is-kept, none-step, none-end, no-holder, holder-placed, holder-gives, holder-item}
use Rattle.item_store.proofs.KnownSlots.{known_in, known_on}
use Rattle.item_store.proofs.ReadFacts.{within_on}
use Rattle.item_store.proofs.store.Store.holder_in.Given.{Over}
use Rattle.item_store.proofs.store.Store.holder_in.Goals.{then-ne+else-is_some, else-ne}
use Rattle.std.proofs.lemmas.Bool.{false≢true}
use Rattle.item_store.proofs.store.Store.holder_in.Goals as goal

from-first : (first skipped : ℕ) → first ≤ first + skipped
from-first first skipped = omega arith

from-slot : (first own skipped slot : ℕ) → first ≡ own → own + skipped ≤ slot → first ≤ slot
from-slot first own skipped slot is from = omega arith

top-by : (id own most step : ℕ) → id ≡ own → own ≤ most → most + step < 2 ^ 32 → id + step < 2 ^ 32
top-by id own most step is to top = omega arith

-- an item with the bytes, found by the entry of its id
found-holder : (k : SectorFormat) (b : List ℕ) (items : Items) (ids : IdRange) (step : ℕ) (bytes : List ℕ) (id : ℕ) (o : Option Holder) → is_some o ≡ true → (get items id ≡ Some bytes → HasBytes ids.least ids.most items id bytes)
    → IsHolderAt id step items bytes o → FindsHolderIn k b items ids step bytes o
found-holder k b items ids step bytes id None some has at = absurd (false≢true some)
found-holder k b items ids step bytes id (Some holder) some has at =
    (subst (λ (n : ℕ). HasBytes ids.least ids.most items n bytes) (sym at.0) (has at.1), at.2 ∙ ap (λ (n : ℕ). get items (n + step)) (sym at.0))

-- what is known of the holder, whether it was looked at or not
known : (g : Over) (c : goal.Joined-ne g) → let d = g.F.Flash.device c.args.flash.now in
    (c.if-ne.dead ≡ Some c.in-Some.holder.id)
    × (get (items_on g.T.SlotSectors.format_of d c.args.self.now.area) c.in-Some.holder.id ≡ Some c.args.bytes.now → ⊥)
known g c = elim c.if-ne.branch [
  | then-ne+else-is_some w ↦
      let none : w.holder_at-found.result ≡ None = not_some w.holder_at-found.result (sym w.is_some.ensures ∙ w.if-is_some.false) in
      (w.dead-is, subst (IsHolderAt c.in-Some.holder.id c.args.step (items_on g.T.SlotSectors.format_of (g.F.Flash.device c.args.flash.now) c.args.self.now.area) c.args.bytes.now) none w.holder_at-found.ensures.holder)
  | else-ne w ↦
      let d : Device = g.F.Flash.device c.args.flash.now in
      let items : Items = items_on g.T.SlotSectors.format_of d c.args.self.now.area in
      let same : c.loop-holder.dead ≡ Some c.in-Some.holder.id = is-kept c.loop-holder.dead c.in-Some.holder.id (sym c.ne.ensures ∙ w.if-ne.false) in
      (w.dead-is ∙ same, subst (λ (o : Option ℕ). IfSome o (λ id. get items id ≡ Some c.args.bytes.now → ⊥)) same c.loop-holder.invariant.dead)
]

-- what was viewed of it
viewed : (g : Over) (c : goal.Joined-ne g) → c.if-ne.steps ≤ c.loop-holder.steps + holder_views c.args.self.now.area.sectors
viewed g c = elim c.if-ne.branch [
  | then-ne+else-is_some w ↦
      let none : w.holder_at-found.result ≡ None = not_some w.holder_at-found.result (sym w.is_some.ensures ∙ w.if-is_some.false) in
      let few = w.holder_at-found.ensures.none none in
      omega (arith, w.steps-is, c.find_bytes.ensures.step, few)
  | else-ne w ↦ omega (arith, w.steps-is, c.find_bytes.ensures.step)
]

pub loop-holder-init : goal.loop-holder-init
loop-holder-init g c =
    let d : Device = g.F.Flash.device c.args.flash.now in
    let area : Area = c.args.self.now.area in
    let k : SectorFormat = g.T.SlotSectors.format_of (geometry_of d area) in
    let b : List ℕ = sector_at (sectors_of d area) c.args.place in
    let all : held_from k b c.args.ids.now c.args.bytes.now (k.first + 0) (k.count b - 0) * holder_views area.sectors ≡ held_in k b c.args.ids.now c.args.bytes.now * holder_views area.sectors =
    ap (λ (n : ℕ). n * holder_views area.sectors) (held-all k c.args.ids.now c.args.bytes.now b) in
    record { listed = omega arith; none = λ slot e from to read holds has. absurd (omega arith); few = λ absent. refl; held = same-most c.args.steps.now (held_from k b c.args.ids.now c.args.bytes.now (k.first + 0) (k.count b - 0) * holder_views area.sectors) (held_in k b c.args.ids.now c.args.bytes.now * holder_views area.sectors) all; part = equal-most (held_from k b c.args.ids.now c.args.bytes.now (k.first + 0) (k.count b - 0)) (held_in k b c.args.ids.now c.args.bytes.now) (held-all k c.args.ids.now c.args.bytes.now b); dead = tt }

pub find_bytes-requires : goal.find_bytes-requires
find_bytes-requires g c =
    let d : Device = g.F.Flash.device c.args.flash.now in
    let area : Area = c.args.self.now.area in
    let law : IsSectorFormat (g.T.SlotSectors.format_of (geometry_of d area)) = g.met.T.SlotSectors.lawful (geometry_of d area) (unit_is d area (g.met.F.Flash.is_lawful c.args.flash.now) c.requires.stands.area.lawful) in
    record {
      area = c.requires.stands.area;
      inside = c.requires.inside;
      listed = c.loop-holder.invariant.listed;
      known = known_in g.T.SlotSectors.format_of d area c.tops-tops.result.now (known_on g.T.SlotSectors.role g.T.SlotSectors.format_of g.T.SlotSectors.kept d c.args.self.now law (g.met.F.Flash.is_lawful c.args.flash.now) c.requires.stands c.tops-tops.result.now c.tops-tops.ensures) c.args.place c.known_slots-known.result
          (c.known_slots-known.ensures (geometry_of d area));
      within = within_on g.T.SlotSectors.role g.T.SlotSectors.format_of g.T.SlotSectors.kept d c.args.self.now law (g.met.F.Flash.is_lawful c.args.flash.now) c.requires.stands c.args.place c.requires.inside;
    }

pub holder_at-found-requires : goal.holder_at-found-requires
holder_at-found-requires g c =
    let d : Device = g.F.Flash.device c.args.flash.now in
    let area : Area = c.args.self.now.area in
    let k : SectorFormat = g.T.SlotSectors.format_of (geometry_of d area) in
    let sectors : List (List ℕ) = sectors_of d area in
    let law : IsSectorFormat (g.T.SlotSectors.format_of (geometry_of d area)) = g.met.T.SlotSectors.lawful (geometry_of d area) (unit_is d area (g.met.F.Flash.is_lawful c.args.flash.now) c.requires.stands.area.lawful) in
    let items : Items = items_on g.T.SlotSectors.format_of d area in
    let holder : IsFirstHolder k (sector_at sectors c.args.place) c.args.place c.args.ids.now c.args.bytes.now (k.first + c.loop-holder.skipped) c.in-Some.holder =
    subst (FindsBytes k (sector_at sectors c.args.place) c.args.place c.args.ids.now c.args.bytes.now c.loop-holder.skipped) c.in-Some.is c.find_bytes.ensures.found in
    record {
      stands = c.requires.stands;
      placed = holder-placed g.T.SlotSectors.role g.T.SlotSectors.format_of g.T.SlotSectors.kept d c.args.self.now law (g.met.F.Flash.is_lawful c.args.flash.now) c.requires.stands c.args.ids.now c.args.bytes.now c.args.place (k.first + c.loop-holder.skipped) c.in-Some.holder c.requires.inside (from-first k.first c.loop-holder.skipped) holder;
      holds = holder-gives g.T.SlotSectors.role g.T.SlotSectors.format_of g.T.SlotSectors.kept d c.args.self.now law (g.met.F.Flash.is_lawful c.args.flash.now) c.requires.stands c.args.ids.now c.args.bytes.now c.args.place (k.first + c.loop-holder.skipped) c.in-Some.holder c.requires.inside (from-first k.first c.loop-holder.skipped) holder c.requires.some_bytes;
      small = subst (λ (o : Option Placed). IfSome o (λ p. p.slot < 2 ^ 16)) c.in-Some.is c.find_bytes.ensures.small;
      step = c.requires.step;
      top = top-by c.in-Some.holder.id holder.entry.id c.args.ids.now.most c.args.step (ap (λ (q : Placed). q.id) holder.is) holder.holds.to c.requires.top;
    }

pub returns-then-is_some : goal.returns-then-is_some
returns-then-is_some g c =
    let d : Device = g.F.Flash.device c.args.flash.now in
    let area : Area = c.args.self.now.area in
    let k : SectorFormat = g.T.SlotSectors.format_of (geometry_of d area) in
    let law : IsSectorFormat (g.T.SlotSectors.format_of (geometry_of d area)) = g.met.T.SlotSectors.lawful (geometry_of d area) (unit_is d area (g.met.F.Flash.is_lawful c.args.flash.now) c.requires.stands.area.lawful) in
    let b : List ℕ = sector_at (sectors_of d area) c.args.place in
    let holder : IsFirstHolder k b c.args.place c.args.ids.now c.args.bytes.now (k.first + c.loop-holder.skipped) c.in-Some.holder =
    subst (FindsBytes k b c.args.place c.args.ids.now c.args.bytes.now c.loop-holder.skipped) c.in-Some.is c.find_bytes.ensures.found in
    let items : Items = items_on g.T.SlotSectors.format_of d area in
    let less =
    held-less k c.args.ids.now c.args.bytes.now b c.args.place c.loop-holder.skipped (c.in-Some.holder.slot - k.first + 1) c.in-Some.holder holder refl in
    record {
      holder = found-holder k b items c.args.ids.now c.args.step c.args.bytes.now c.in-Some.holder.id c.holder_at-found.result (sym c.is_some.ensures ∙ c.if-is_some.true) (holder-item g.T.SlotSectors.role g.T.SlotSectors.format_of g.T.SlotSectors.kept d c.args.self.now law (g.met.F.Flash.is_lawful c.args.flash.now) c.requires.stands c.args.ids.now c.args.bytes.now c.args.place (k.first + c.loop-holder.skipped) c.in-Some.holder c.requires.inside (from-first k.first c.loop-holder.skipped) holder) c.holder_at-found.ensures.holder;
      absent = λ absent. absurd (no-holder k b c.args.place c.args.ids.now c.args.bytes.now c.loop-holder.skipped c.in-Some.holder holder absent);
      present = found-searches area.sectors (held_in k b c.args.ids.now c.args.bytes.now) c.args.steps.now c.holder_at-found.new.steps c.holder_at-found.result (sym c.is_some.ensures ∙ c.if-is_some.true)
          (some-within (held_from k b c.args.ids.now c.args.bytes.now (k.first + (c.in-Some.holder.slot - k.first + 1)) (k.count b - (c.in-Some.holder.slot - k.first + 1)))
          (held_from k b c.args.ids.now c.args.bytes.now (k.first + c.loop-holder.skipped) (k.count b - c.loop-holder.skipped)) (held_in k b c.args.ids.now c.args.bytes.now) less c.loop-holder.invariant.part)
          (one-found (holder_views area.sectors) (area.sectors + 4) c.args.steps.now (held_in k b c.args.ids.now c.args.bytes.now) c.loop-holder.steps (held_from k b c.args.ids.now c.args.bytes.now (k.first + c.loop-holder.skipped) (k.count b - c.loop-holder.skipped)) c.holder_at-found.new.steps
          (held_from k b c.args.ids.now c.args.bytes.now (k.first + (c.in-Some.holder.slot - k.first + 1)) (k.count b - (c.in-Some.holder.slot - k.first + 1)))
          c.loop-holder.invariant.held less
          (omega (arith, c.find_bytes.ensures.step, c.holder_at-found.ensures.steps)));
    }

pub overflow_sub-skipped : goal.overflow_sub-skipped
overflow_sub-skipped g c =
    let d : Device = g.F.Flash.device c.args.flash.now in
    let area : Area = c.args.self.now.area in
    let k : SectorFormat = g.T.SlotSectors.format_of (geometry_of d area) in
    let sectors : List (List ℕ) = sectors_of d area in
    let holder : IsFirstHolder k (sector_at sectors c.args.place) c.args.place c.args.ids.now c.args.bytes.now (k.first + c.loop-holder.skipped) c.in-Some.holder =
    subst (FindsBytes k (sector_at sectors c.args.place) c.args.place c.args.ids.now c.args.bytes.now c.loop-holder.skipped) c.in-Some.is c.find_bytes.ensures.found in
    from-slot c.first_slot-first.result k.first c.loop-holder.skipped c.in-Some.holder.slot (c.first_slot-first.ensures.value (geometry_of d area)) holder.from

pub overflow_add-skipped : goal.overflow_add-skipped
overflow_add-skipped g c =
    let small : c.in-Some.holder.slot < 2 ^ 16 = subst (λ (o : Option Placed). IfSome o (λ p. p.slot < 2 ^ 16)) c.in-Some.is c.find_bytes.ensures.small in
    omega (arith, small)

pub loop-holder-smaller : goal.loop-holder-smaller
loop-holder-smaller g c =
    let d : Device = g.F.Flash.device c.args.flash.now in
    let area : Area = c.args.self.now.area in
    let k : SectorFormat = g.T.SlotSectors.format_of (geometry_of d area) in
    let sectors : List (List ℕ) = sectors_of d area in
    let items : Items = items_on g.T.SlotSectors.format_of d area in
    let holder : IsFirstHolder k (sector_at sectors c.args.place) c.args.place c.args.ids.now c.args.bytes.now (k.first + c.loop-holder.skipped) c.in-Some.holder =
    subst (FindsBytes k (sector_at sectors c.args.place) c.args.place c.args.ids.now c.args.bytes.now c.loop-holder.skipped) c.in-Some.is c.find_bytes.ensures.found in
    let from = holder.from in let listed = holder.listed in
    omega (arith, from, listed, c.first_slot-first.ensures.value (geometry_of d area), c.loop-holder.invariant.listed)

pub loop-holder-preserved : goal.loop-holder-preserved
loop-holder-preserved g c =
    let d : Device = g.F.Flash.device c.args.flash.now in
    let area : Area = c.args.self.now.area in
    let k : SectorFormat = g.T.SlotSectors.format_of (geometry_of d area) in
    let sectors : List (List ℕ) = sectors_of d area in
    let b : List ℕ = sector_at sectors c.args.place in
    let items : Items = items_on g.T.SlotSectors.format_of d area in
    let holder : IsFirstHolder k (sector_at sectors c.args.place) c.args.place c.args.ids.now c.args.bytes.now (k.first + c.loop-holder.skipped) c.in-Some.holder =
    subst (FindsBytes k (sector_at sectors c.args.place) c.args.place c.args.ids.now c.args.bytes.now c.loop-holder.skipped) c.in-Some.is c.find_bytes.ensures.found in
    let all = known g c in
    let from = holder.from in let listed = holder.listed in
    let up : c.in-Some.holder.slot - c.first_slot-first.result + 1 ≡ c.in-Some.holder.slot - k.first + 1 = ap (λ (n : ℕ). c.in-Some.holder.slot - n + 1) (c.first_slot-first.ensures.value (geometry_of d area)) in
    record {
      listed = omega (arith, from, listed, up);
      none = none-step k b items c.args.ids.now c.args.bytes.now c.args.place c.loop-holder.skipped c.loop-holder.invariant.none c.in-Some.holder (c.in-Some.holder.slot - c.first_slot-first.result + 1) holder up all.1;
      few = λ absent. absurd (no-holder k b c.args.place c.args.ids.now c.args.bytes.now c.loop-holder.skipped c.in-Some.holder holder absent);
      held = one-less (holder_views area.sectors) c.args.steps.now (held_in k b c.args.ids.now c.args.bytes.now) c.loop-holder.steps (held_from k b c.args.ids.now c.args.bytes.now (k.first + c.loop-holder.skipped) (k.count b - c.loop-holder.skipped)) c.if-ne.steps
          (held_from k b c.args.ids.now c.args.bytes.now (k.first + (c.in-Some.holder.slot - c.first_slot-first.result + 1)) (k.count b - (c.in-Some.holder.slot - c.first_slot-first.result + 1)))
          c.loop-holder.invariant.held (held-less k c.args.ids.now c.args.bytes.now b c.args.place c.loop-holder.skipped (c.in-Some.holder.slot - c.first_slot-first.result + 1) c.in-Some.holder holder up) (viewed g c);
      part = rest-within (held_from k b c.args.ids.now c.args.bytes.now (k.first + (c.in-Some.holder.slot - c.first_slot-first.result + 1)) (k.count b - (c.in-Some.holder.slot - c.first_slot-first.result + 1)))
          (held_from k b c.args.ids.now c.args.bytes.now (k.first + c.loop-holder.skipped) (k.count b - c.loop-holder.skipped)) (held_in k b c.args.ids.now c.args.bytes.now)
          (held-less k c.args.ids.now c.args.bytes.now b c.args.place c.loop-holder.skipped (c.in-Some.holder.slot - c.first_slot-first.result + 1) c.in-Some.holder holder up) c.loop-holder.invariant.part;
      dead = subst (λ (o : Option ℕ). IfSome o (λ id. get items id ≡ Some c.args.bytes.now → ⊥)) (sym all.0) all.1;
    }

pub returns-clause-holder : goal.returns-clause-holder
returns-clause-holder g c =
    let d : Device = g.F.Flash.device c.args.flash.now in
    let area : Area = c.args.self.now.area in
    let k : SectorFormat = g.T.SlotSectors.format_of (geometry_of d area) in
    let sectors : List (List ℕ) = sectors_of d area in
    let b : List ℕ = sector_at sectors c.args.place in
    let items : Items = items_on g.T.SlotSectors.format_of d area in
    none-end k b items c.args.ids.now c.args.bytes.now c.args.place c.loop-holder.skipped c.loop-holder.invariant.none
    (subst (FindsBytes k b c.args.place c.args.ids.now c.args.bytes.now c.loop-holder.skipped) c.in_default.is c.find_bytes.ensures.found)

pub returns-clause-absent : goal.returns-clause-absent
returns-clause-absent g c = λ absent.
    let same = c.loop-holder.invariant.few absent in
    omega (arith, same, c.find_bytes.ensures.step)

pub returns-clause-present : goal.returns-clause-present
returns-clause-present g c =
    let d : Device = g.F.Flash.device c.args.flash.now in
    let area : Area = c.args.self.now.area in
    let k : SectorFormat = g.T.SlotSectors.format_of (geometry_of d area) in
    let b : List ℕ = sector_at (sectors_of d area) c.args.place in
    none-less (holder_views area.sectors) c.args.steps.now (held_in k b c.args.ids.now c.args.bytes.now) c.loop-holder.steps (held_from k b c.args.ids.now c.args.bytes.now (k.first + c.loop-holder.skipped) (k.count b - c.loop-holder.skipped)) c.find_bytes.new.steps
    c.loop-holder.invariant.held c.find_bytes.ensures.step
