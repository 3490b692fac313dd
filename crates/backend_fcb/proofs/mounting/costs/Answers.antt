use Rattle.std.proofs.Common.{◌≡◌, ℕ, ◌+◌, Option, Some, None, get_or, set, refl, sym, ap, subst, ◌∙◌, arith}
use Rattle.flash_sim.specs.Device.{Device}
use Rattle.flash_map.specs.declared.area.Area.{Area}
use Rattle.flash_map.specs.declared.area.Geometry.{Geometry}
use Rattle.flash_map.specs.Area.{value_limit, unit_of}
use Rattle.fcb_ring.specs.declared.record.RecordAt.{RecordAt}
use Rattle.fcb_ring.specs.Standing.{entries_on}
use Rattle.backend_fcb.proofs.WalkLemmas.{at-listed, for-listed, at-smaller}
use Rattle.record_settings.specs.Room.{put_cost}
use Rattle.backend_fcb.proofs.CostSteps.{SumsOf, sums_of-start, sums_of-few, sums_of-step, sums_of-end, few-records, sector-few}
use Rattle.backend_fcb.proofs.mounting.costs.Goals as goal

pub loop-at-init : goal.loop-at-init
loop-at-init g c = sums_of-start (value_limit c.args.ring.now.area) (unit_of (g.F.Flash.device c.args.flash.now) c.args.ring.now.area) (entries_on (g.F.Flash.device c.args.flash.now) c.args.ring.now.area) c.next-at.result c.next-at.ensures.next

pub body-requires-clause-record : goal.body-requires-clause-record
body-requires-clause-record g c =
    let so_far = c.loop-at.invariant in
    at-listed (entries_on (g.F.Flash.device c.args.flash.now) c.args.ring.now.area) c.loop-at.at so_far.done so_far.later c.in-Some.entry so_far.at c.in-Some.is

pub bounds-costs-entry : goal.bounds-costs-entry
bounds-costs-entry g c =
    let so_far = c.loop-at.invariant in
    sector-few (g.F.Flash.device c.args.flash.now) c.args.ring.now (g.met.F.Flash.is_lawful c.args.flash.now) c.requires c.in-Some.entry
    (at-listed (entries_on (g.F.Flash.device c.args.flash.now) c.args.ring.now.area) c.loop-at.at so_far.done so_far.later c.in-Some.entry so_far.at c.in-Some.is)

pub overflow_add-costs : goal.overflow_add-costs
overflow_add-costs g c =
    let d : Device = g.F.Flash.device c.args.flash.now in
    let so_far : SumsOf (value_limit c.args.ring.now.area) (unit_of (g.F.Flash.device c.args.flash.now) c.args.ring.now.area) (entries_on (g.F.Flash.device c.args.flash.now) c.args.ring.now.area) (Some c.in-Some.entry) c.loop-at.costs =
    subst (λ (o : Option RecordAt). SumsOf (value_limit c.args.ring.now.area) (unit_of (g.F.Flash.device c.args.flash.now) c.args.ring.now.area) (entries_on (g.F.Flash.device c.args.flash.now) c.args.ring.now.area) o c.loop-at.costs) c.in-Some.is c.loop-at.invariant in
    let few = sector-few d c.args.ring.now (g.met.F.Flash.is_lawful c.args.flash.now) c.requires c.in-Some.entry
    (at-listed (entries_on d c.args.ring.now.area) (Some c.in-Some.entry) so_far.done so_far.later c.in-Some.entry so_far.at refl) in
    let most = sums_of-few (value_limit c.args.ring.now.area) (unit_of d c.args.ring.now.area) (entries_on d c.args.ring.now.area) c.in-Some.entry c.loop-at.costs so_far c.in-Some.entry.sector few in
    let all = few-records d c.args.ring.now (g.met.F.Flash.is_lawful c.args.flash.now) c.requires in
    omega (arith, most, all, c.from.ensures, c.put_cost-cost.ensures.small)

pub bounds-costs-entry-in-Some : goal.bounds-costs-entry-in-Some
bounds-costs-entry-in-Some g c =
    let so_far = c.loop-at.invariant in
    sector-few (g.F.Flash.device c.args.flash.now) c.args.ring.now (g.met.F.Flash.is_lawful c.args.flash.now) c.requires c.in-Some.entry
    (at-listed (entries_on (g.F.Flash.device c.args.flash.now) c.args.ring.now.area) c.loop-at.at so_far.done so_far.later c.in-Some.entry so_far.at c.in-Some.is)

pub next-at-requires-in-Some-clause-after : goal.next-at-requires-in-Some-clause-after
next-at-requires-in-Some-clause-after g c =
    let so_far = c.loop-at.invariant in
    let list = entries_on (g.F.Flash.device c.args.flash.now) c.args.ring.now.area in
    for-listed list c.in-Some.entry (at-listed list c.loop-at.at so_far.done so_far.later c.in-Some.entry so_far.at c.in-Some.is)

pub loop-at-smaller : goal.loop-at-smaller
loop-at-smaller g c =
    let so_far = c.loop-at.invariant in
    let list = entries_on (g.F.Flash.device c.args.flash.now) c.args.ring.now.area in
    at-smaller list c.loop-at.at c.in-Some.entry c.next-at-in-Some.result c.in-Some.is (at-listed list c.loop-at.at so_far.done so_far.later c.in-Some.entry so_far.at c.in-Some.is) c.next-at-in-Some.ensures.next

pub loop-at-preserved : goal.loop-at-preserved
loop-at-preserved g c =
    let d : Device = g.F.Flash.device c.args.flash.now in
    let so_far : SumsOf (value_limit c.args.ring.now.area) (unit_of (g.F.Flash.device c.args.flash.now) c.args.ring.now.area) (entries_on (g.F.Flash.device c.args.flash.now) c.args.ring.now.area) (Some c.in-Some.entry) c.loop-at.costs =
    subst (λ (o : Option RecordAt). SumsOf (value_limit c.args.ring.now.area) (unit_of (g.F.Flash.device c.args.flash.now) c.args.ring.now.area) (entries_on (g.F.Flash.device c.args.flash.now) c.args.ring.now.area) o c.loop-at.costs) c.in-Some.is c.loop-at.invariant in
    let few = sector-few d c.args.ring.now (g.met.F.Flash.is_lawful c.args.flash.now) c.requires c.in-Some.entry
    (at-listed (entries_on d c.args.ring.now.area) (Some c.in-Some.entry) so_far.done so_far.later c.in-Some.entry so_far.at refl) in
    let unit : c.geometry-unit.result.unit ≡ unit_of d c.args.ring.now.area = ap (λ (x : Geometry). x.unit) c.geometry-unit.ensures ∙ ap (λ (x : Area). unit_of d x) c.area.ensures in
    subst (λ (n : ℕ). SumsOf (value_limit c.args.ring.now.area) (unit_of (g.F.Flash.device c.args.flash.now) c.args.ring.now.area) (entries_on (g.F.Flash.device c.args.flash.now) c.args.ring.now.area) c.next-at-in-Some.result (set c.loop-at.costs c.in-Some.entry.sector (get_or c.loop-at.costs c.in-Some.entry.sector 0 + n))) (sym c.from.ensures)
    (sums_of-step (value_limit c.args.ring.now.area) (unit_of d c.args.ring.now.area) (entries_on d c.args.ring.now.area) c.in-Some.entry c.loop-at.costs so_far few c.body.result.now c.body.ensures.body c.put_cost-cost.result (c.put_cost-cost.ensures.cost ∙ ap (λ (u : ℕ). put_cost (value_limit c.args.ring.now.area) u c.body.result.now) unit) c.put_cost-cost.ensures.small
    c.next-at-in-Some.result c.next-at-in-Some.ensures.next)

pub returns : goal.returns
returns g c place lt =
    let d : Device = g.F.Flash.device c.args.flash.now in
    let so_far : SumsOf (value_limit c.args.ring.now.area) (unit_of (g.F.Flash.device c.args.flash.now) c.args.ring.now.area) (entries_on (g.F.Flash.device c.args.flash.now) c.args.ring.now.area) None c.loop-at.costs =
    subst (λ (o : Option RecordAt). SumsOf (value_limit c.args.ring.now.area) (unit_of (g.F.Flash.device c.args.flash.now) c.args.ring.now.area) (entries_on (g.F.Flash.device c.args.flash.now) c.args.ring.now.area) o c.loop-at.costs) c.in_default.is c.loop-at.invariant in
    sums_of-end (value_limit c.args.ring.now.area) (unit_of d c.args.ring.now.area) (entries_on d c.args.ring.now.area) c.loop-at.costs so_far place lt
