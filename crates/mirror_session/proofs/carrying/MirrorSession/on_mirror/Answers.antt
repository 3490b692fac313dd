use Rattle.std.specs.Prelude.{OnErr, is_some}
use Rattle.std.proofs.Common.{◌≡◌, ◌∙◌, ◌&&◌, Bool, true, false, None, Result, Ok, Err, ap, subst, rules}
use Rattle.flash_sim.specs.Device.{Device}
use Rattle.mirror_session.specs.Bench.{meanings, moment}
use Rattle.mirror_session.specs.Owing.{OwesAt}
use Rattle.mirror_session.proofs.QuietLemmas.{off_dark, off_down}
use Rattle.mirror_session.proofs.carrying.MirrorSession.on_mirror.Goals as goal

-- what holds however a call ends
on-err : {T E : Type 0} (result : Result T E) (P : Type 0) → P → OnErr result P
on-err (Ok x) P is = tt
on-err (Err x) P is = is

pub returns-then-not-is_on-clause-done : goal.returns-then-not-is_on-clause-done
returns-then-not-is_on-clause-done g c =
    let K = g.K.Backend in
    let m = meanings K.damage K.contents K.rests K.room g.K.Priced.prices K.owes in
    let d = g.B.Flash.device c.args.bench.now in
    let dark : d.is_on ≡ false = search rules in
    rw (c.off.ensures) (off_dark m c.args.map.now d (is_some c.args.self.now.mirror) c.args.line.now dark c.requires.needs)

pub returns-in-None-clause-done : goal.returns-in-None-clause-done
returns-in-None-clause-done g c =
    let K = g.K.Backend in
    let m = meanings K.damage K.contents K.rests K.room g.K.Priced.prices K.owes in
    let d = g.B.Flash.device c.args.bench.now in
    let none : c.args.self.now.mirror ≡ None = search rules in
    rw (c.off-in-None.ensures) (off_down m c.args.map.now d (is_some c.args.self.now.mirror) c.args.line.now (ap (λ o. is_some o) none) c.requires.needs)

pub returns-then-not-is_on-clause-left : goal.returns-then-not-is_on-clause-left
returns-then-not-is_on-clause-left g c due most some within owes = owes

pub returns-in-None-clause-left : goal.returns-in-None-clause-left
returns-in-None-clause-left g c due most some within owes = owes

pub returns-in-Some-clause-left : goal.returns-in-Some-clause-left
returns-in-Some-clause-left g c due most some within owes =
    let K = g.K.Backend in
    let d = g.B.Flash.device c.args.bench.now in
    let up : is_some c.args.self.now.mirror ≡ true = ap (λ o. is_some o) c.in-Some.is in
    c.with_power.ensures.left due most some within (subst (λ (whole : Bool). OwesAt K.owes c.args.map.now (moment d whole) due most) up owes)

-- with power on and the mirror up
up_now : (d : Device) (whole : Bool) → d.is_on ≡ true → whole ≡ true → (d.is_on && whole) ≡ true
up_now d whole power up = ap (λ (b : Bool). b && whole) power ∙ up

pub returns-in-Some-clause-on : goal.returns-in-Some-clause-on
returns-in-Some-clause-on g c =
    let d = g.B.Flash.device c.args.bench.now in
    let power : d.is_on ≡ true = search rules in
    let up : is_some c.args.self.now.mirror ≡ true = ap (λ o. is_some o) c.in-Some.is in
    on-err c.with_power.result ((d.is_on && is_some c.args.self.now.mirror) ≡ true) (up_now d (is_some c.args.self.now.mirror) power up)
