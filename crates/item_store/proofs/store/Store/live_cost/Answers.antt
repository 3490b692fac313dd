use Rattle.std.proofs.Common.{◌≡◌, ℕ, ◌+◌, ◌-◌, ◌<◌, Bool, cond, List, length, sym, ap, subst, ◌∙◌, arith}
use Rattle.std.specs.Prelude.{sum_by}
use Rattle.std.specs.List.{range_with_len}
use Rattle.std.proofs.lemmas.Bool.{le-ltb}
use Rattle.item_laws.proofs.AreaReads.{length-sectors, next_there, previous_there}
use Rattle.item_laws.proofs.Places.{after, before}
use Rattle.item_store.specs.Seen.{HasSeen, behind}
use Rattle.item_store.proofs.CostSteps.{sector_costs, cost_behind, start_seen, start_cost, more_seen, more_cost, all_cost, left, fewer_left}
use Rattle.item_store.proofs.ReadFacts.{current_on, costs_on}
use Rattle.flash_sim.specs.Device.{Device}
use Rattle.flash_map.specs.declared.area.Area.{Area}
use Rattle.flash_map.specs.Area.{geometry_of, sectors_of}
use Rattle.item_store.specs.SectorFormat.{SectorFormat, IsSectorFormat}
use Rattle.item_store.proofs.Areas.{unit_is}
use Rattle.item_store.proofs.store.Store.live_cost.Goals as goal

pub next-oldest-requires : goal.next-oldest-requires
next-oldest-requires g c =
    let d : Device = g.F.Flash.device c.args.flash.now in
    let area : Area = c.args.self.now.area in
    let k : SectorFormat = g.T.SlotSectors.format_of (geometry_of d area) in
    let sectors : List (List ℕ) = sectors_of d area in
    let law : IsSectorFormat (g.T.SlotSectors.format_of (geometry_of d area)) = g.met.T.SlotSectors.lawful (geometry_of d area) (unit_is d area (g.met.F.Flash.is_lawful c.args.flash.now) c.requires.area.lawful) in
    current_on g.T.SlotSectors.role g.T.SlotSectors.format_of g.T.SlotSectors.kept d c.args.self.now law (g.met.F.Flash.is_lawful c.args.flash.now) c.requires

pub loop-place-init : goal.loop-place-init
loop-place-init g c =
    let d : Device = g.F.Flash.device c.args.flash.now in
    let area : Area = c.args.self.now.area in
    let k : SectorFormat = g.T.SlotSectors.format_of (geometry_of d area) in
    let sectors : List (List ℕ) = sectors_of d area in
    let law : IsSectorFormat (g.T.SlotSectors.format_of (geometry_of d area)) = g.met.T.SlotSectors.lawful (geometry_of d area) (unit_is d area (g.met.F.Flash.is_lawful c.args.flash.now) c.requires.area.lawful) in
    let long = length-sectors d area in
    let low : c.args.self.now.current < length sectors = (let within = current_on g.T.SlotSectors.role g.T.SlotSectors.format_of g.T.SlotSectors.kept d c.args.self.now law (g.met.F.Flash.is_lawful c.args.flash.now) c.requires in omega arith) in
    let old : c.next-oldest.result ≡ after (length sectors) c.args.self.now.current = c.next-oldest.ensures.value ∙ next_there d area c.args.self.now.current in
    record {
      within = omega arith;
      seen = subst (HasSeen k.ids c.new-seen.result) (sym (start_seen k sectors c.args.self.now.current low)) (c.new-seen.ensures k.ids);
      cost = start_cost k sectors c.args.self.now.current low;
      small = (let start : left area.sectors c.args.self.now.current c.args.self.now.current ≡ c.args.self.now.current + (area.sectors - (c.args.self.now.current + 1)) = ap (λ (t : Bool). cond t (c.args.self.now.current - (c.args.self.now.current + 1)) (c.args.self.now.current + (area.sectors - (c.args.self.now.current + 1)))) (le-ltb c.args.self.now.current c.args.self.now.current (omega arith)) in omega arith);
    }

pub cost_in-cost-requires-clause-inside : goal.cost_in-cost-requires-clause-inside
cost_in-cost-requires-clause-inside g c =
    c.loop-place.invariant.within

pub cost_in-cost-requires-clause-seen : goal.cost_in-cost-requires-clause-seen
cost_in-cost-requires-clause-seen g c =
    c.loop-place.invariant.seen

pub previous-place-requires : goal.previous-place-requires
previous-place-requires g c =
    c.loop-place.invariant.within

pub overflow_add-cost : goal.overflow_add-cost
overflow_add-cost g c =
    let d : Device = g.F.Flash.device c.args.flash.now in
    let area : Area = c.args.self.now.area in
    let k : SectorFormat = g.T.SlotSectors.format_of (geometry_of d area) in
    let sectors : List (List ℕ) = sectors_of d area in
    let law : IsSectorFormat (g.T.SlotSectors.format_of (geometry_of d area)) = g.met.T.SlotSectors.lawful (geometry_of d area) (unit_is d area (g.met.F.Flash.is_lawful c.args.flash.now) c.requires.area.lawful) in
    let long = length-sectors d area in
    let low : c.args.self.now.current < length sectors = (let within = current_on g.T.SlotSectors.role g.T.SlotSectors.format_of g.T.SlotSectors.kept d c.args.self.now law (g.met.F.Flash.is_lawful c.args.flash.now) c.requires in omega arith) in
    let old : c.next-oldest.result ≡ after (length sectors) c.args.self.now.current = c.next-oldest.ensures.value ∙ next_there d area c.args.self.now.current in
    omega (arith, c.loop-place.invariant.small, c.cost_in-cost.ensures.small, c.requires.area.lawful.few)

pub loop-place-preserved : goal.loop-place-preserved
loop-place-preserved g c =
    let d : Device = g.F.Flash.device c.args.flash.now in
    let area : Area = c.args.self.now.area in
    let k : SectorFormat = g.T.SlotSectors.format_of (geometry_of d area) in
    let sectors : List (List ℕ) = sectors_of d area in
    let law : IsSectorFormat (g.T.SlotSectors.format_of (geometry_of d area)) = g.met.T.SlotSectors.lawful (geometry_of d area) (unit_is d area (g.met.F.Flash.is_lawful c.args.flash.now) c.requires.area.lawful) in
    let long = length-sectors d area in
    let low : c.args.self.now.current < length sectors = (let within = current_on g.T.SlotSectors.role g.T.SlotSectors.format_of g.T.SlotSectors.kept d c.args.self.now law (g.met.F.Flash.is_lawful c.args.flash.now) c.requires in omega arith) in
    let old : c.next-oldest.result ≡ after (length sectors) c.args.self.now.current = c.next-oldest.ensures.value ∙ next_there d area c.args.self.now.current in
    let now = c.loop-place.invariant in
    let inside : c.loop-place.place < length sectors = omega (arith, now.within) in
    let apart : c.loop-place.place ≡ after (length sectors) c.args.self.now.current → ⊥ = λ (e : c.loop-place.place ≡ after (length sectors) c.args.self.now.current). c.loop-place-test.true (e ∙ sym old) in
    let back : c.previous-place.result ≡ before (length sectors) c.loop-place.place = c.previous-place.ensures.value ∙ previous_there d area c.loop-place.place in
    record {
      within = c.previous-place.ensures.within;
      seen = subst (HasSeen k.ids c.cost_in-cost.new.seen) (more_seen k sectors c.args.self.now.current low c.loop-place.place inside apart ∙ ap (behind k sectors c.args.self.now.current) (sym back)) c.cost_in-cost.ensures.seen;
      cost = (let own = c.cost_in-cost.ensures.cost in let before_it = now.cost in let more = more_cost k sectors c.args.self.now.current low c.loop-place.place inside apart in
          let sum : c.loop-place.cost + c.cost_in-cost.result ≡ cost_behind k sectors c.args.self.now.current low (before (length sectors) c.loop-place.place) = omega arith in sum ∙ ap (cost_behind k sectors c.args.self.now.current low) (sym back));
      small = (let less : left area.sectors c.args.self.now.current c.previous-place.result < left area.sectors c.args.self.now.current c.loop-place.place = subst (λ (p : ℕ). left area.sectors c.args.self.now.current p < left area.sectors c.args.self.now.current c.loop-place.place) (sym (c.previous-place.ensures.value))
          (fewer_left area.sectors c.args.self.now.current c.loop-place.place (omega arith) now.within (λ (e : c.loop-place.place ≡ after area.sectors c.args.self.now.current). c.loop-place-test.true (e ∙ sym c.next-oldest.ensures.value))) in omega (arith, now.small, c.cost_in-cost.ensures.small));
    }

pub loop-place-smaller : goal.loop-place-smaller
loop-place-smaller g c =
    let d : Device = g.F.Flash.device c.args.flash.now in
    let area : Area = c.args.self.now.area in
    let k : SectorFormat = g.T.SlotSectors.format_of (geometry_of d area) in
    let sectors : List (List ℕ) = sectors_of d area in
    let law : IsSectorFormat (g.T.SlotSectors.format_of (geometry_of d area)) = g.met.T.SlotSectors.lawful (geometry_of d area) (unit_is d area (g.met.F.Flash.is_lawful c.args.flash.now) c.requires.area.lawful) in
    let long = length-sectors d area in
    let low : c.args.self.now.current < length sectors = (let within = current_on g.T.SlotSectors.role g.T.SlotSectors.format_of g.T.SlotSectors.kept d c.args.self.now law (g.met.F.Flash.is_lawful c.args.flash.now) c.requires in omega arith) in
    let old : c.next-oldest.result ≡ after (length sectors) c.args.self.now.current = c.next-oldest.ensures.value ∙ next_there d area c.args.self.now.current in
    let now = c.loop-place.invariant in
    let inside : c.loop-place.place < length sectors = omega (arith, now.within) in
    let apart : c.loop-place.place ≡ after (length sectors) c.args.self.now.current → ⊥ = λ (e : c.loop-place.place ≡ after (length sectors) c.args.self.now.current). c.loop-place-test.true (e ∙ sym old) in
    let back : c.previous-place.result ≡ before (length sectors) c.loop-place.place = c.previous-place.ensures.value ∙ previous_there d area c.loop-place.place in
    subst (λ (p : ℕ). left area.sectors c.args.self.now.current p < left area.sectors c.args.self.now.current c.loop-place.place) (sym (c.previous-place.ensures.value))
    (fewer_left area.sectors c.args.self.now.current c.loop-place.place (omega arith) now.within (λ (e : c.loop-place.place ≡ after area.sectors c.args.self.now.current). c.loop-place-test.true (e ∙ sym c.next-oldest.ensures.value)))

pub overflow_add-result : goal.overflow_add-result
overflow_add-result g c =
    let d : Device = g.F.Flash.device c.args.flash.now in
    let area : Area = c.args.self.now.area in
    let k : SectorFormat = g.T.SlotSectors.format_of (geometry_of d area) in
    let sectors : List (List ℕ) = sectors_of d area in
    let law : IsSectorFormat (g.T.SlotSectors.format_of (geometry_of d area)) = g.met.T.SlotSectors.lawful (geometry_of d area) (unit_is d area (g.met.F.Flash.is_lawful c.args.flash.now) c.requires.area.lawful) in
    let long = length-sectors d area in
    let low : c.args.self.now.current < length sectors = (let within = current_on g.T.SlotSectors.role g.T.SlotSectors.format_of g.T.SlotSectors.kept d c.args.self.now law (g.met.F.Flash.is_lawful c.args.flash.now) c.requires in omega arith) in
    let old : c.next-oldest.result ≡ after (length sectors) c.args.self.now.current = c.next-oldest.ensures.value ∙ next_there d area c.args.self.now.current in
    omega (arith, c.loop-place.invariant.small, c.cost_in.ensures.small, c.requires.area.lawful.few)

pub returns : goal.returns
returns g c =
    let d : Device = g.F.Flash.device c.args.flash.now in
    let area : Area = c.args.self.now.area in
    let k : SectorFormat = g.T.SlotSectors.format_of (geometry_of d area) in
    let sectors : List (List ℕ) = sectors_of d area in
    let law : IsSectorFormat (g.T.SlotSectors.format_of (geometry_of d area)) = g.met.T.SlotSectors.lawful (geometry_of d area) (unit_is d area (g.met.F.Flash.is_lawful c.args.flash.now) c.requires.area.lawful) in
    let long = length-sectors d area in
    let low : c.args.self.now.current < length sectors = (let within = current_on g.T.SlotSectors.role g.T.SlotSectors.format_of g.T.SlotSectors.kept d c.args.self.now law (g.met.F.Flash.is_lawful c.args.flash.now) c.requires in omega arith) in
    let old : c.next-oldest.result ≡ after (length sectors) c.args.self.now.current = c.next-oldest.ensures.value ∙ next_there d area c.args.self.now.current in
    let at : c.loop-place.place ≡ after (length sectors) c.args.self.now.current = c.loop-place-test.false ∙ old in
    let high : after (length sectors) c.args.self.now.current < length sectors = (let within = c.next-oldest.ensures.within in omega arith) in
    let before_it : c.loop-place.cost ≡ cost_behind k sectors c.args.self.now.current low (after (length sectors) c.args.self.now.current) = c.loop-place.invariant.cost ∙ ap (cost_behind k sectors c.args.self.now.current low) at in
    let own : c.cost_in.result ≡ sector_costs k sectors (after (length sectors) c.args.self.now.current) = c.cost_in.ensures.cost ∙ ap (sector_costs k sectors) old in
    let all = all_cost k sectors c.args.self.now.current low high in
    let sum : c.loop-place.cost + c.cost_in.result ≡ sum_by (sector_costs k sectors) (range_with_len 0 (length sectors)) = omega arith in
    sum ∙ sym (costs_on g.T.SlotSectors.role g.T.SlotSectors.format_of g.T.SlotSectors.kept d c.args.self.now law (g.met.F.Flash.is_lawful c.args.flash.now) c.requires)

pub cost_in-requires-clause-seen : goal.cost_in-requires-clause-seen
cost_in-requires-clause-seen g c =
    let d : Device = g.F.Flash.device c.args.flash.now in
    let area : Area = c.args.self.now.area in
    let k : SectorFormat = g.T.SlotSectors.format_of (geometry_of d area) in
    let sectors : List (List ℕ) = sectors_of d area in
    let law : IsSectorFormat (g.T.SlotSectors.format_of (geometry_of d area)) = g.met.T.SlotSectors.lawful (geometry_of d area) (unit_is d area (g.met.F.Flash.is_lawful c.args.flash.now) c.requires.area.lawful) in
    let long = length-sectors d area in
    let low : c.args.self.now.current < length sectors = (let within = current_on g.T.SlotSectors.role g.T.SlotSectors.format_of g.T.SlotSectors.kept d c.args.self.now law (g.met.F.Flash.is_lawful c.args.flash.now) c.requires in omega arith) in
    let old : c.next-oldest.result ≡ after (length sectors) c.args.self.now.current = c.next-oldest.ensures.value ∙ next_there d area c.args.self.now.current in
    let at : c.loop-place.place ≡ c.next-oldest.result = c.loop-place-test.false in
    subst (λ (p : ℕ). HasSeen k.ids c.loop-place.seen (behind k sectors c.args.self.now.current p)) at c.loop-place.invariant.seen
