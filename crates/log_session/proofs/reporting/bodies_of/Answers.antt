use Rattle.std.proofs.Common.{[], ◌∷◌, ◌++◌, List, ℕ, sym, ap, ◌∙◌}
use Rattle.flash_map.specs.Area.{unit_of, sectors_of}
use Rattle.fcb_ring.specs.Standing.{entries_on}
use Rattle.fcb_ring.proofs.WalkLemmas.{at-listed, at-smaller, for-listed}
use Rattle.event_ring.proofs.ItemLemmas.{log-is}
use Rattle.log_session.proofs.WalkSteps.{all_reported, none_reported, one_reported}
use Rattle.log_session.proofs.reporting.bodies_of.Goals as goal

pub loop-at-init : goal.loop-at-init
loop-at-init g c = none_reported (entries_on (g.F.Flash.device c.args.flash.now) c.args.log.now.ring.area) c.next-at.result c.new-bodies.result c.next-at.ensures.next c.new-bodies.ensures

pub body-requires-clause-listed : goal.body-requires-clause-listed
body-requires-clause-listed g c =
    let so_far = c.loop-at.invariant in
    at-listed (entries_on (g.F.Flash.device c.args.flash.now) c.args.log.now.ring.area) c.loop-at.at so_far.done so_far.later c.in-Some.record so_far.is_at c.in-Some.is

pub next-at-requires-in-Some-clause-after : goal.next-at-requires-in-Some-clause-after
next-at-requires-in-Some-clause-after g c =
    let so_far = c.loop-at.invariant in
    let list = entries_on (g.F.Flash.device c.args.flash.now) c.args.log.now.ring.area in
    for-listed list c.in-Some.record (at-listed list c.loop-at.at so_far.done so_far.later c.in-Some.record so_far.is_at c.in-Some.is)

pub loop-at-smaller : goal.loop-at-smaller
loop-at-smaller g c =
    let so_far = c.loop-at.invariant in
    let list = entries_on (g.F.Flash.device c.args.flash.now) c.args.log.now.ring.area in
    at-smaller list c.loop-at.at c.in-Some.record c.next-at-in-Some.result c.in-Some.is (at-listed list c.loop-at.at so_far.done so_far.later c.in-Some.record so_far.is_at c.in-Some.is) c.next-at-in-Some.ensures.next

pub loop-at-preserved : goal.loop-at-preserved
loop-at-preserved g c =
    one_reported (entries_on (g.F.Flash.device c.args.flash.now) c.args.log.now.ring.area) c.loop-at.at c.loop-at.bodies c.push.new.self c.in-Some.record c.body.result.now c.next-at-in-Some.result c.loop-at.invariant c.in-Some.is
    c.body.ensures.body c.next-at-in-Some.ensures.next (c.in_ok-push.ensures.ok ∙ ap (λ (b : List ℕ). c.loop-at.bodies ++ b ∷ []) c.in_ok-body.ensures)

pub returns : goal.returns
returns g c =
    let d = g.F.Flash.device c.args.flash.now in
    let area = c.args.log.now.ring.area in
    all_reported (entries_on d area) c.loop-at.at c.loop-at.bodies c.loop-at.invariant c.in_default.is ∙ sym (log-is (unit_of d area) (sectors_of d area))
