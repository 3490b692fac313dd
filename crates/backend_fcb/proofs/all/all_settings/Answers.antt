use Rattle.std.proofs.Common.{Option, Some, subst}
use Rattle.flash_map.specs.Area.{value_limit}
use Rattle.fcb_ring.specs.declared.record.RecordAt.{RecordAt}
use Rattle.fcb_ring.specs.Standing.{entries_on}
use Rattle.backend_fcb.proofs.AllSteps.{Gathers, gathers-start, gathers-step, gathers-end}
use Rattle.backend_fcb.proofs.WalkLemmas.{at-listed, for-listed, at-smaller}
use Rattle.backend_fcb.proofs.all.all_settings.Goals as goal

pub loop-at-init : goal.loop-at-init
loop-at-init g c = gathers-start (value_limit c.args.ring.now.area) (entries_on (g.F.Flash.device c.args.flash.now) c.args.ring.now.area) c.next-at.result c.next-at.ensures.next c.new-found.result c.new-found.ensures.empty

pub body-requires-clause-record : goal.body-requires-clause-record
body-requires-clause-record g c =
    let so_far = c.loop-at.invariant in
    at-listed (entries_on (g.F.Flash.device c.args.flash.now) c.args.ring.now.area) c.loop-at.at so_far.done so_far.later c.in-Some.entry so_far.at c.in-Some.is

pub next-at-requires-in-Some-clause-after : goal.next-at-requires-in-Some-clause-after
next-at-requires-in-Some-clause-after g c =
    let so_far = c.loop-at.invariant in
    let list = entries_on (g.F.Flash.device c.args.flash.now) c.args.ring.now.area in
    for-listed list c.in-Some.entry (at-listed list c.loop-at.at so_far.done so_far.later c.in-Some.entry so_far.at c.in-Some.is)

pub loop-at-smaller : goal.loop-at-smaller
loop-at-smaller g c =
    let so_far = c.loop-at.invariant in
    let list = entries_on (g.F.Flash.device c.args.flash.now) c.args.ring.now.area in
    at-smaller list c.loop-at.at c.in-Some.entry c.next-at-in-Some.result c.in-Some.is (at-listed list c.loop-at.at so_far.done so_far.later c.in-Some.entry so_far.at c.in-Some.is) c.next-at-in-Some.ensures.next

pub loop-at-preserved : goal.loop-at-preserved
loop-at-preserved g c =
    let list = entries_on (g.F.Flash.device c.args.flash.now) c.args.ring.now.area in
    let so_far : Gathers (value_limit c.args.ring.now.area) (entries_on (g.F.Flash.device c.args.flash.now) c.args.ring.now.area) (Some c.in-Some.entry) c.loop-at.found =
    subst (λ (o : Option RecordAt). Gathers (value_limit c.args.ring.now.area) (entries_on (g.F.Flash.device c.args.flash.now) c.args.ring.now.area) o c.loop-at.found) c.in-Some.is c.loop-at.invariant in
    gathers-step (value_limit c.args.ring.now.area) list c.in-Some.entry c.loop-at.found so_far c.body.result.now c.body.ensures.body c.next-at-in-Some.result c.next-at-in-Some.ensures.next c.apply.new.found c.in_ok-apply.ensures

pub returns : goal.returns
returns g c =
    gathers-end (value_limit c.args.ring.now.area) (entries_on (g.F.Flash.device c.args.flash.now) c.args.ring.now.area) c.loop-at.found
    (subst (λ (o : Option RecordAt). Gathers (value_limit c.args.ring.now.area) (entries_on (g.F.Flash.device c.args.flash.now) c.args.ring.now.area) o c.loop-at.found) c.in_default.is c.loop-at.invariant)
