use Rattle.std.proofs.Common.{◌≡◌, ℕ, Bool, List, Option, Some, None, sym, ap, subst, ◌∙◌, true, false}
use Rattle.std.specs.Bool.{MatchBool}
use Rattle.flash_sim.specs.Device.{Device}
use Rattle.flash_map.specs.On.{on}
use Rattle.backend_api.specs.Map.{Map, IsStored}
use Rattle.mirror.proofs.Comparisons.{IsWithinSoFar, within-end, within-smaller, within-start, within-step}
use Rattle.mirror.proofs.comparing.is_within.Goals as goal

pub loop-at-init : goal.loop-at-init
loop-at-init g c =
    let d : Device = g.F.Flash.device c.args.flash.now in
    within-start (on g.K.Backend.contents d (g.K.Backend.mounted_on c.args.store.now)) (on g.K.Backend.contents d (g.K.Backend.mounted_on c.args.other.now)) c.next_name-at.result c.next_name-at.ensures

pub loop-at-smaller : goal.loop-at-smaller
loop-at-smaller g c =
    let d : Device = g.F.Flash.device c.args.flash.now in
    let m = on g.K.Backend.contents d (g.K.Backend.mounted_on c.args.store.now) in
    let n = on g.K.Backend.contents d (g.K.Backend.mounted_on c.args.other.now) in
    within-smaller m n c.loop-at.at c.in-Some.name c.next_name-at-in-Some.result c.in-Some.is (subst (λ (o : Option (List ℕ)). IsWithinSoFar m n o) c.in-Some.is c.loop-at.invariant) c.next_name-at-in-Some.ensures

pub loop-at-preserved : goal.loop-at-preserved
loop-at-preserved g c =
    let d : Device = g.F.Flash.device c.args.flash.now in
    let m = on g.K.Backend.contents d (g.K.Backend.mounted_on c.args.store.now) in
    let n = on g.K.Backend.contents d (g.K.Backend.mounted_on c.args.other.now) in
    within-step m n c.in-Some.name c.next_name-at-in-Some.result (subst (λ (o : Option (List ℕ)). IsWithinSoFar m n o) c.in-Some.is c.loop-at.invariant) c.if-not-has_same.ensures c.next_name-at-in-Some.ensures

pub returns : goal.returns
returns g c =
    let d : Device = g.F.Flash.device c.args.flash.now in
    let m = on g.K.Backend.contents d (g.K.Backend.mounted_on c.args.store.now) in
    let n = on g.K.Backend.contents d (g.K.Backend.mounted_on c.args.other.now) in
    within-end m n (subst (λ (o : Option (List ℕ)). IsWithinSoFar m n o) c.in_default.is c.loop-at.invariant)
