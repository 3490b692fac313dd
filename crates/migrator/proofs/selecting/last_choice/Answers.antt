use Rattle.std.proofs.Common.{ℕ, Option, Some, sym, subst}
use Rattle.fcb_ring.specs.declared.record.RecordAt.{RecordAt}
use Rattle.fcb_ring.specs.Standing.{entries_on}
use Rattle.fcb_ring.proofs.WalkLemmas.{at-listed, for-listed, at-smaller}
use Rattle.migrator.proofs.Choices.{Finds, finds-start, finds-step, finds-end}
use Rattle.migrator.proofs.selecting.last_choice.Goals as goal

pub loop-at-init : goal.loop-at-init
loop-at-init g c = finds-start c.args.map.now (entries_on (g.F.Flash.device c.args.flash.now) c.args.ring.now.area) c.next-at.result c.next-at.ensures.next

pub body-requires-clause-record : goal.body-requires-clause-record
body-requires-clause-record g c =
    let so_far = c.loop-at.invariant in
    at-listed (entries_on (g.F.Flash.device c.args.flash.now) c.args.ring.now.area) c.loop-at.at so_far.done so_far.later c.in-Some.record so_far.at c.in-Some.is

pub next-at-requires-in-Some-clause-after : goal.next-at-requires-in-Some-clause-after
next-at-requires-in-Some-clause-after g c =
    let so_far = c.loop-at.invariant in
    let list = entries_on (g.F.Flash.device c.args.flash.now) c.args.ring.now.area in
    for-listed list c.in-Some.record (at-listed list c.loop-at.at so_far.done so_far.later c.in-Some.record so_far.at c.in-Some.is)

pub loop-at-smaller : goal.loop-at-smaller
loop-at-smaller g c =
    let so_far = c.loop-at.invariant in
    let list = entries_on (g.F.Flash.device c.args.flash.now) c.args.ring.now.area in
    at-smaller list c.loop-at.at c.in-Some.record c.next-at-in-Some.result c.in-Some.is (at-listed list c.loop-at.at so_far.done so_far.later c.in-Some.record so_far.at c.in-Some.is) c.next-at-in-Some.ensures.next

pub loop-at-preserved : goal.loop-at-preserved
loop-at-preserved g c =
    let list = entries_on (g.F.Flash.device c.args.flash.now) c.args.ring.now.area in
    let so_far : Finds c.args.map.now (entries_on (g.F.Flash.device c.args.flash.now) c.args.ring.now.area) (Some c.in-Some.record) c.loop-at.last =
    subst (λ (o : Option RecordAt). Finds c.args.map.now (entries_on (g.F.Flash.device c.args.flash.now) c.args.ring.now.area) o c.loop-at.last) c.in-Some.is c.loop-at.invariant in
    subst (λ (o : Option (RecordAt × ℕ)). Finds c.args.map.now (entries_on (g.F.Flash.device c.args.flash.now) c.args.ring.now.area) c.next-at-in-Some.result o) (sym c.newer-last.ensures)
    (finds-step c.args.map.now list c.in-Some.record c.loop-at.last so_far c.body.result.now c.body.ensures.body c.next-at-in-Some.result c.next-at-in-Some.ensures.next c.named-index.result c.named-index.ensures)

pub returns : goal.returns
returns g c =
    let list = entries_on (g.F.Flash.device c.args.flash.now) c.args.ring.now.area in
    finds-end c.args.map.now list c.loop-at.last
    (subst (λ (o : Option RecordAt). Finds c.args.map.now (entries_on (g.F.Flash.device c.args.flash.now) c.args.ring.now.area) o c.loop-at.last) c.in_default.is c.loop-at.invariant)
