use Rattle.std.proofs.Common.{ℕ, true, false, subst}
use Rattle.std.specs.Prelude.{OnOk}
use Rattle.flash_map.specs.Area.{OthersStay}
use Rattle.fcb_ring.specs.Changing.{AppendEnds, WritesRecord, kept_room, stays_for, place_for}
use Rattle.fcb_ring.specs.Gains.{GainsRecord, CutRing}
use Rattle.event_ring.proofs.EndLemmas.{one-program, put-ends}
use Rattle.event_ring.proofs.DueSteps.{put-left}
use Rattle.event_ring.proofs.appending.put.Goals as goal

pub append-requires-clause-short : goal.append-requires-clause-short
append-requires-clause-short g c = one-program (g.F.Flash.device c.args.flash.now) c.args.ring.now (g.met.F.Flash.is_lawful c.args.flash.now) c.requires.mounted c.args.body.now c.requires.short

pub returns-clause-ends : goal.returns-clause-ends
returns-clause-ends g c =
    let d = g.F.Flash.device c.args.flash.now in
    let e = g.F.Flash.device c.append.new.flash in
    let ring = c.args.ring.now in
    let none = c.requires.mounted.reserve in
    put-ends d ring (g.met.F.Flash.is_lawful c.args.flash.now) c.requires.mounted c.args.body.now c.requires.short e c.append.new.self c.append.result
    (g.met.F.Flash.is_lawful c.append.new.flash) c.append.ensures.touches.banks c.append.ensures.area c.append.ensures.reserve
    (subst (λ (k : ℕ). OthersStay d e ring.area (place_for d ring c.args.body.now k)) none c.append.ensures.others)
    c.append.ensures.touches.off
    (subst (λ (k : ℕ). AppendEnds d e ring c.append.new.self c.args.body.now k c.append.result) none c.append.ensures.ends)
    (subst (λ (k : ℕ). OnOk c.append.result (GainsRecord d e ring.area (place_for d ring c.args.body.now k) c.args.body.now true)) none c.append.ensures.gains)
    (λ lost on. subst (λ (k : ℕ). CutRing (stays_for d ring c.args.body.now k) d e ring c.args.body.now) none (c.append.ensures.torn lost on))

pub returns-clause-left : goal.returns-clause-left
returns-clause-left g c =
    let d = g.F.Flash.device c.args.flash.now in
    let ring = c.args.ring.now in
    put-left d (g.F.Flash.device c.append.new.flash) ring (place_for d ring c.args.body.now (kept_room ring false)) c.requires.mounted c.append.ensures.touches.banks c.append.ensures.others

pub returns-clause-bytes : goal.returns-clause-bytes
returns-clause-bytes g c =
    let d = g.F.Flash.device c.args.flash.now in
    let ring = c.args.ring.now in
    subst (λ (k : ℕ). OnOk c.append.result (WritesRecord (stays_for d ring c.args.body.now k) d (g.F.Flash.device c.append.new.flash) ring c.args.body.now)) c.requires.mounted.reserve c.append.ensures.bytes
