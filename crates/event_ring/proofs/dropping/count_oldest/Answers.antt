use Rattle.std.proofs.Common.{◌<◌, ◌^◌, Option, subst, arith}
use Rattle.fcb_ring.specs.declared.record.RecordAt.{RecordAt}
use Rattle.fcb_ring.specs.Standing.{entries_on}
use Rattle.fcb_ring.proofs.WalkLemmas.{at-listed, for-listed, at-smaller}
use Rattle.event_ring.proofs.CountSteps.{Counts, counts-start, counts-step, counted-all, counted-prefix, counted-few, sector-same, sector-other}
use Rattle.event_ring.proofs.DropSteps.{left-used}
use Rattle.event_ring.proofs.dropping.count_oldest.Goals as goal

pub loop-at-init : goal.loop-at-init
loop-at-init g c = counts-start (entries_on (g.F.Flash.device c.args.flash.now) c.args.ring.now.area) c.args.ring.now.oldest c.next-at.result c.next-at.ensures.next

pub next-at-requires-in-Some-clause-after : goal.next-at-requires-in-Some-clause-after
next-at-requires-in-Some-clause-after g c =
    let so_far = c.loop-at.invariant in
    let list = entries_on (g.F.Flash.device c.args.flash.now) c.args.ring.now.area in
    for-listed list c.in-Some.record (at-listed list c.loop-at.at so_far.done so_far.later c.in-Some.record so_far.is_at c.in-Some.is)

pub loop-at-smaller : goal.loop-at-smaller
loop-at-smaller g c =
    let so_far = c.loop-at.invariant in
    let list = entries_on (g.F.Flash.device c.args.flash.now) c.args.ring.now.area in
    at-smaller list c.loop-at.at c.in-Some.record c.next-at-in-Some.result c.in-Some.is (at-listed list c.loop-at.at so_far.done so_far.later c.in-Some.record so_far.is_at c.in-Some.is) c.next-at-in-Some.ensures.next

pub loop-at-preserved : goal.loop-at-preserved
loop-at-preserved g c =
    let d = g.F.Flash.device c.args.flash.now in
    let ring = c.args.ring.now in
    let some = (left-used d ring c.requires.mounted c.requires.left).0 in
    let here = sector-same ring.used ring.oldest c.in-Some.record.sector some c.oldest-oldest.result c.oldest-oldest.ensures c.ne.result c.ne.ensures c.if-ne.false in
    counts-step (entries_on d ring.area) ring.oldest c.in-Some.record c.loop-at.count (subst (λ (o : Option RecordAt). Counts (entries_on d ring.area) ring.oldest o c.loop-at.count) c.in-Some.is c.loop-at.invariant) here
    c.next-at-in-Some.result c.next-at-in-Some.ensures.next

pub overflow_add-count : goal.overflow_add-count
overflow_add-count g c =
    let d = g.F.Flash.device c.args.flash.now in
    let ring = c.args.ring.now in
    let some = (left-used d ring c.requires.mounted c.requires.left).0 in
    let few : c.loop-at.count < 2 ^ 16 = counted-few d ring (g.met.F.Flash.is_lawful c.args.flash.now) c.requires.mounted some c.loop-at.count c.loop-at.at c.loop-at.invariant in
    omega arith

pub returns-then-ne : goal.returns-then-ne
returns-then-ne g c =
    let d = g.F.Flash.device c.args.flash.now in
    let ring = c.args.ring.now in
    let some = (left-used d ring c.requires.mounted c.requires.left).0 in
    let other = sector-other ring.used ring.oldest c.in-Some.record.sector some c.oldest-oldest.result c.oldest-oldest.ensures c.ne.result c.ne.ensures c.if-ne.true in
    counted-prefix d ring (g.met.F.Flash.is_lawful c.args.flash.now) c.requires.mounted some c.loop-at.count c.in-Some.record
    (subst (λ (o : Option RecordAt). Counts (entries_on d ring.area) ring.oldest o c.loop-at.count) c.in-Some.is c.loop-at.invariant) other

pub returns : goal.returns
returns g c =
    let d = g.F.Flash.device c.args.flash.now in
    let ring = c.args.ring.now in
    let some = (left-used d ring c.requires.mounted c.requires.left).0 in
    counted-all d ring (g.met.F.Flash.is_lawful c.args.flash.now) c.requires.mounted some c.loop-at.count
    (subst (λ (o : Option RecordAt). Counts (entries_on d ring.area) ring.oldest o c.loop-at.count) c.in_default.is c.loop-at.invariant)
