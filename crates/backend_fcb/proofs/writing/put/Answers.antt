use Rattle.std.proofs.Common.{◌≤◌, ◌≡◌, ℕ, ◌+◌, ◌<◌, [], ◌∷◌, length, true, false, Bool, Result, Ok, Err, is_err, OnOk, OnErr, None, refl, sym, ap, subst, ◌∙◌, arith}
use Rattle.std.proofs.lemmas.Bool.{both_ways}
use Rattle.flash_sim.specs.Device.{Device}
use Rattle.flash_map.specs.declared.area.Area.{Area}
use Rattle.flash_map.specs.Spending.{SpendsAtMost}
use Rattle.flash_map.specs.Touches.{Touches}
use Rattle.flash_map.proofs.Rounding.{padding}
use Rattle.fcb_ring.proofs.AreaLemmas.{has_size}
use Rattle.flash_map.specs.Area.{unit_of}
use Rattle.fcb_ring.specs.declared.ring.Ring.{Ring}
use Rattle.fcb_ring.specs.Changing.{kept_room}
use Rattle.fcb_ring.specs.Changing.{append_lost}
use Rattle.fcb_ring.specs.declared.writing.AppendFault.TheVariants.{Full, PowerLost}
use Rattle.fcb_ring.specs.Writing.{record_cost}
use Rattle.backend_fcb.specs.Changing.{Collects, TryEnds, PutEnds, collect_units}
use Rattle.fcb_ring.specs.Chance.{HasNoChance}
use Rattle.backend_fcb.specs.Standing.{damage_on, settings_on}
use Rattle.backend_fcb.proofs.PutSteps.{IsSearching, searching-start, kept-same, searching-touches, searching-lost, searching-more, searching-ends, searching-stops, searching-most, searching-cut, ok-other, lost-other}
use Rattle.fcb_ring.specs.Standing.{erases_on}
use Rattle.backend_fcb.proofs.writing.put.Goals as goal

ok-by : {T E P : Type 0} (r : Result T E) → OnOk r P → is_err r ≡ false → P
ok-by (Ok x) p e = p
ok-by (Err x) p e = absurd (both_ways true e refl)

err-by : {T E P : Type 0} (r : Result T E) → OnErr r P → is_err r ≡ true → P
err-by (Ok x) p e = absurd (both_ways false refl e)
err-by (Err x) p e = p

pub loop-round-init : goal.loop-round-init
loop-round-init g c = record { within = omega arith; so_far = searching-start (g.F.Flash.device c.args.flash.now) c.args.ring.now (length c.args.body.now) (kept_room c.args.ring.now c.args.into_reserve) c.requires.ready }

pub returns-in-Ok-clause-touches : goal.returns-in-Ok-clause-touches
returns-in-Ok-clause-touches g c =
    let a : Device = g.F.Flash.device c.args.flash.now in
    let d : Device = g.F.Flash.device c.loop-round.flash in
    let before : Ring = c.args.ring.now in
    let now : Ring = c.loop-round.ring in
    let len : ℕ = length c.args.body.now in
    let kept : ℕ = kept_room before c.args.into_reserve in
    let so_far : IsSearching a d before now (length c.args.body.now) (kept_room before c.args.into_reserve) c.loop-round._round = c.loop-round.invariant.so_far in
    let room = kept-same a d before now len kept c.loop-round._round so_far c.args.into_reserve in
    let e : Device = g.F.Flash.device c.try_append.new.flash in
    let after : Ring = c.try_append.new.ring in
    let ends : TryEnds {T = Unit {0}} d e now after c.args.body.now kept (Ok (tt {0})) = subst (λ (k : ℕ). TryEnds {T = Unit {0}} d e now after c.args.body.now k (Ok (tt {0}))) room c.in-Ok.ensures.ends in
    searching-touches a d before now len kept c.loop-round._round so_far e false c.in-Ok.ensures.touches

pub returns-in-Ok-clause-ends : goal.returns-in-Ok-clause-ends
returns-in-Ok-clause-ends g c =
    let a : Device = g.F.Flash.device c.args.flash.now in
    let d : Device = g.F.Flash.device c.loop-round.flash in
    let before : Ring = c.args.ring.now in
    let now : Ring = c.loop-round.ring in
    let len : ℕ = length c.args.body.now in
    let kept : ℕ = kept_room before c.args.into_reserve in
    let so_far : IsSearching a d before now (length c.args.body.now) (kept_room before c.args.into_reserve) c.loop-round._round = c.loop-round.invariant.so_far in
    let room = kept-same a d before now len kept c.loop-round._round so_far c.args.into_reserve in
    let e : Device = g.F.Flash.device c.try_append.new.flash in
    let after : Ring = c.try_append.new.ring in
    let ends : TryEnds {T = Unit {0}} d e now after c.args.body.now kept (Ok (tt {0})) = subst (λ (k : ℕ). TryEnds {T = Unit {0}} d e now after c.args.body.now k (Ok (tt {0}))) room c.in-Ok.ensures.ends in
    searching-stops a d before now len kept c.loop-round._round so_far e after c.args.body.now (Ok (tt {0})) c.args.rounds refl (ok-other (Unit {0}) (tt {0})) ends

pub returns-in-Ok-clause-at_most : goal.returns-in-Ok-clause-at_most
returns-in-Ok-clause-at_most g c =
    let a : Device = g.F.Flash.device c.args.flash.now in
    let d : Device = g.F.Flash.device c.loop-round.flash in
    let before : Ring = c.args.ring.now in
    let now : Ring = c.loop-round.ring in
    let len : ℕ = length c.args.body.now in
    let kept : ℕ = kept_room before c.args.into_reserve in
    let so_far : IsSearching a d before now (length c.args.body.now) (kept_room before c.args.into_reserve) c.loop-round._round = c.loop-round.invariant.so_far in
    let room = kept-same a d before now len kept c.loop-round._round so_far c.args.into_reserve in
    let e : Device = g.F.Flash.device c.try_append.new.flash in
    let after : Ring = c.try_append.new.ring in
    let ends : TryEnds {T = Unit {0}} d e now after c.args.body.now kept (Ok (tt {0})) = subst (λ (k : ℕ). TryEnds {T = Unit {0}} d e now after c.args.body.now k (Ok (tt {0}))) room c.in-Ok.ensures.ends in
    searching-most a d before now len kept c.loop-round._round so_far e after c.args.body.now (Ok (tt {0})) c.args.rounds (omega arith) ends

pub returns-in-Err-TooLong-clause-touches : goal.returns-in-Err-TooLong-clause-touches
returns-in-Err-TooLong-clause-touches g c = absurd (rw c.in-Err-TooLong.field-0-is at c.in-Err-TooLong.ensures.ends)

pub returns-in-Err-TooLong-clause-ends : goal.returns-in-Err-TooLong-clause-ends
returns-in-Err-TooLong-clause-ends g c = absurd (rw c.in-Err-TooLong.field-0-is at c.in-Err-TooLong.ensures.ends)

pub returns-in-Err-TooLong-clause-at_most : goal.returns-in-Err-TooLong-clause-at_most
returns-in-Err-TooLong-clause-at_most g c = absurd (rw c.in-Err-TooLong.field-0-is at c.in-Err-TooLong.ensures.ends)

pub returns-in-Err-PowerLost-clause-touches : goal.returns-in-Err-PowerLost-clause-touches
returns-in-Err-PowerLost-clause-touches g c =
    let a : Device = g.F.Flash.device c.args.flash.now in
    let d : Device = g.F.Flash.device c.loop-round.flash in
    let before : Ring = c.args.ring.now in
    let now : Ring = c.loop-round.ring in
    let len : ℕ = length c.args.body.now in
    let kept : ℕ = kept_room before c.args.into_reserve in
    let so_far : IsSearching a d before now (length c.args.body.now) (kept_room before c.args.into_reserve) c.loop-round._round = c.loop-round.invariant.so_far in
    let room = kept-same a d before now len kept c.loop-round._round so_far c.args.into_reserve in
    let e : Device = g.F.Flash.device c.try_append.new.flash in
    let after : Ring = c.try_append.new.ring in
    let ends : TryEnds {T = Unit {0}} d e now after c.args.body.now kept (Err PowerLost) = subst (λ (k : ℕ). TryEnds {T = Unit {0}} d e now after c.args.body.now k (Err PowerLost)) room (rw c.in-Err-PowerLost.field-0-is at c.in-Err-PowerLost.ensures.ends) in
    searching-touches a d before now len kept c.loop-round._round so_far e true (rw c.in-Err-PowerLost.field-0-is at c.in-Err-PowerLost.ensures.touches)

pub returns-in-Err-PowerLost-clause-ends : goal.returns-in-Err-PowerLost-clause-ends
returns-in-Err-PowerLost-clause-ends g c =
    let a : Device = g.F.Flash.device c.args.flash.now in
    let d : Device = g.F.Flash.device c.loop-round.flash in
    let before : Ring = c.args.ring.now in
    let now : Ring = c.loop-round.ring in
    let len : ℕ = length c.args.body.now in
    let kept : ℕ = kept_room before c.args.into_reserve in
    let so_far : IsSearching a d before now (length c.args.body.now) (kept_room before c.args.into_reserve) c.loop-round._round = c.loop-round.invariant.so_far in
    let room = kept-same a d before now len kept c.loop-round._round so_far c.args.into_reserve in
    let e : Device = g.F.Flash.device c.try_append.new.flash in
    let after : Ring = c.try_append.new.ring in
    let ends : TryEnds {T = Unit {0}} d e now after c.args.body.now kept (Err PowerLost) = subst (λ (k : ℕ). TryEnds {T = Unit {0}} d e now after c.args.body.now k (Err PowerLost)) room (rw c.in-Err-PowerLost.field-0-is at c.in-Err-PowerLost.ensures.ends) in
    searching-stops a d before now len kept c.loop-round._round so_far {T = Unit {0}} e after c.args.body.now (Err PowerLost) c.args.rounds refl (lost-other (Unit {0})) ends

pub returns-in-Err-PowerLost-clause-at_most : goal.returns-in-Err-PowerLost-clause-at_most
returns-in-Err-PowerLost-clause-at_most g c =
    let a : Device = g.F.Flash.device c.args.flash.now in
    let d : Device = g.F.Flash.device c.loop-round.flash in
    let before : Ring = c.args.ring.now in
    let now : Ring = c.loop-round.ring in
    let len : ℕ = length c.args.body.now in
    let kept : ℕ = kept_room before c.args.into_reserve in
    let so_far : IsSearching a d before now (length c.args.body.now) (kept_room before c.args.into_reserve) c.loop-round._round = c.loop-round.invariant.so_far in
    let room = kept-same a d before now len kept c.loop-round._round so_far c.args.into_reserve in
    let e : Device = g.F.Flash.device c.try_append.new.flash in
    let after : Ring = c.try_append.new.ring in
    let ends : TryEnds {T = Unit {0}} d e now after c.args.body.now kept (Err PowerLost) = subst (λ (k : ℕ). TryEnds {T = Unit {0}} d e now after c.args.body.now k (Err PowerLost)) room (rw c.in-Err-PowerLost.field-0-is at c.in-Err-PowerLost.ensures.ends) in
    searching-most a d before now len kept c.loop-round._round so_far {T = Unit {0}} e after c.args.body.now (Err PowerLost) c.args.rounds (omega arith) ends

pub returns-then-is_err-clause-touches : goal.returns-then-is_err-clause-touches
returns-then-is_err-clause-touches g c =
    let a : Device = g.F.Flash.device c.args.flash.now in
    let d : Device = g.F.Flash.device c.loop-round.flash in
    let before : Ring = c.args.ring.now in
    let now : Ring = c.loop-round.ring in
    let len : ℕ = length c.args.body.now in
    let kept : ℕ = kept_room before c.args.into_reserve in
    let so_far : IsSearching a d before now (length c.args.body.now) (kept_room before c.args.into_reserve) c.loop-round._round = c.loop-round.invariant.so_far in
    let room = kept-same a d before now len kept c.loop-round._round so_far c.args.into_reserve in
    let e : Device = g.F.Flash.device c.try_append.new.flash in
    let full : TryEnds {T = Unit {0}} d e now c.try_append.new.ring c.args.body.now kept (Err Full) = subst (λ (k : ℕ). TryEnds {T = Unit {0}} d e now c.try_append.new.ring c.args.body.now k (Err Full)) room (rw c.in-Err-Full.field-0-is at c.in-Err-Full.ensures.ends) in
    let f : Device = g.F.Flash.device c.collect.new.flash in
    let ring : Ring = c.try_append.new.ring in
    let did = c.collect.ensures in
    let most : SpendsAtMost d f (collect_units d now) = subst (λ (r : Ring). SpendsAtMost d f (collect_units d r)) full.1 (subst (λ (x : Device). SpendsAtMost x f (collect_units x ring)) full.0 did.at_most) in
    let touches : Touches (now.area ∷ []) d f true =
    subst (λ (r : Ring). Touches (r.area ∷ []) d f true) full.1 (subst (λ (x : Device). Touches (ring.area ∷ []) x f true) full.0 (subst (λ (b : Bool). Touches (ring.area ∷ []) e f b) (sym c.is_err.ensures.value ∙ c.if-is_err.true) did.touches)) in
    searching-touches a d before now len kept c.loop-round._round so_far f true touches

pub returns-then-is_err-clause-at_most : goal.returns-then-is_err-clause-at_most
returns-then-is_err-clause-at_most g c =
    let a : Device = g.F.Flash.device c.args.flash.now in
    let d : Device = g.F.Flash.device c.loop-round.flash in
    let before : Ring = c.args.ring.now in
    let now : Ring = c.loop-round.ring in
    let len : ℕ = length c.args.body.now in
    let kept : ℕ = kept_room before c.args.into_reserve in
    let so_far : IsSearching a d before now (length c.args.body.now) (kept_room before c.args.into_reserve) c.loop-round._round = c.loop-round.invariant.so_far in
    let room = kept-same a d before now len kept c.loop-round._round so_far c.args.into_reserve in
    let e : Device = g.F.Flash.device c.try_append.new.flash in
    let full : TryEnds {T = Unit {0}} d e now c.try_append.new.ring c.args.body.now kept (Err Full) = subst (λ (k : ℕ). TryEnds {T = Unit {0}} d e now c.try_append.new.ring c.args.body.now k (Err Full)) room (rw c.in-Err-Full.field-0-is at c.in-Err-Full.ensures.ends) in
    let f : Device = g.F.Flash.device c.collect.new.flash in
    let ring : Ring = c.try_append.new.ring in
    let did = c.collect.ensures in
    let most : SpendsAtMost d f (collect_units d now) = subst (λ (r : Ring). SpendsAtMost d f (collect_units d r)) full.1 (subst (λ (x : Device). SpendsAtMost x f (collect_units x ring)) full.0 did.at_most) in
    searching-lost a d before now len kept c.loop-round._round so_far f most c.args.rounds (omega arith)

pub returns-then-is_err-clause-ends : goal.returns-then-is_err-clause-ends
returns-then-is_err-clause-ends g c =
    let a : Device = g.F.Flash.device c.args.flash.now in
    let d : Device = g.F.Flash.device c.loop-round.flash in
    let before : Ring = c.args.ring.now in
    let now : Ring = c.loop-round.ring in
    let len : ℕ = length c.args.body.now in
    let kept : ℕ = kept_room before c.args.into_reserve in
    let so_far : IsSearching a d before now (length c.args.body.now) (kept_room before c.args.into_reserve) c.loop-round._round = c.loop-round.invariant.so_far in
    let room = kept-same a d before now len kept c.loop-round._round so_far c.args.into_reserve in
    let e : Device = g.F.Flash.device c.try_append.new.flash in
    let full : TryEnds {T = Unit {0}} d e now c.try_append.new.ring c.args.body.now kept (Err Full) = subst (λ (k : ℕ). TryEnds {T = Unit {0}} d e now c.try_append.new.ring c.args.body.now k (Err Full)) room (rw c.in-Err-Full.field-0-is at c.in-Err-Full.ensures.ends) in
    let f : Device = g.F.Flash.device c.collect.new.flash in
    let ring : Ring = c.try_append.new.ring in
    let did = c.collect.ensures in
    let most : SpendsAtMost d f (collect_units d now) = subst (λ (r : Ring). SpendsAtMost d f (collect_units d r)) full.1 (subst (λ (x : Device). SpendsAtMost x f (collect_units x ring)) full.0 did.at_most) in
    let failed = sym c.is_err.ensures.value ∙ c.if-is_err.true in
    let settings : settings_on f now.area ≡ settings_on d now.area = subst (λ (r : Ring). settings_on f r.area ≡ settings_on d r.area) full.1 (subst (λ (x : Device). settings_on f ring.area ≡ settings_on x ring.area) full.0 did.settings) in
    let undamaged : damage_on f now.area ≡ None = subst (λ (r : Ring). damage_on f r.area ≡ None) full.1 did.undamaged in
    let lost : d.is_on ≡ true → HasNoChance f now.area = subst (λ (r : Ring). d.is_on ≡ true → HasNoChance f r.area) full.1 (subst (λ (x : Device). x.is_on ≡ true → HasNoChance f ring.area) full.0 (err-by c.collect.result did.stopped failed).lost) in
    let due : erases_on f now.area ≤ 1 = subst (λ (r : Ring). erases_on f r.area ≤ 1) full.1 (err-by c.collect.result did.stopped failed).due in
    searching-cut a d before now len kept c.loop-round._round so_far f c.collect.new.ring c.args.body.now refl full.2 (err-by c.collect.result did.stopped failed).down undamaged due settings lost

pub loop-round-preserved : goal.loop-round-preserved
loop-round-preserved g c =
    let a : Device = g.F.Flash.device c.args.flash.now in
    let d : Device = g.F.Flash.device c.loop-round.flash in
    let before : Ring = c.args.ring.now in
    let now : Ring = c.loop-round.ring in
    let len : ℕ = length c.args.body.now in
    let kept : ℕ = kept_room before c.args.into_reserve in
    let so_far : IsSearching a d before now (length c.args.body.now) (kept_room before c.args.into_reserve) c.loop-round._round = c.loop-round.invariant.so_far in
    let room = kept-same a d before now len kept c.loop-round._round so_far c.args.into_reserve in
    let e : Device = g.F.Flash.device c.try_append.new.flash in
    let full : TryEnds {T = Unit {0}} d e now c.try_append.new.ring c.args.body.now kept (Err Full) = subst (λ (k : ℕ). TryEnds {T = Unit {0}} d e now c.try_append.new.ring c.args.body.now k (Err Full)) room (rw c.in-Err-Full.field-0-is at c.in-Err-Full.ensures.ends) in
    let f : Device = g.F.Flash.device c.collect.new.flash in
    let ring : Ring = c.try_append.new.ring in
    let did = c.collect.ensures in
    let most : SpendsAtMost d f (collect_units d now) = subst (λ (r : Ring). SpendsAtMost d f (collect_units d r)) full.1 (subst (λ (x : Device). SpendsAtMost x f (collect_units x ring)) full.0 did.at_most) in
    let touches : Touches (now.area ∷ []) d f false =
    subst (λ (r : Ring). Touches (r.area ∷ []) d f false) full.1 (subst (λ (x : Device). Touches (ring.area ∷ []) x f false) full.0 (subst (λ (b : Bool). Touches (ring.area ∷ []) e f b) (sym c.is_err.ensures.value ∙ c.if-is_err.false) did.touches)) in
    let ok = sym c.is_err.ensures.value ∙ c.if-is_err.false in
    let settings : settings_on f now.area ≡ settings_on d now.area = subst (λ (r : Ring). settings_on f r.area ≡ settings_on d r.area) full.1 (subst (λ (x : Device). settings_on f ring.area ≡ settings_on x ring.area) full.0 did.settings) in
    let used : c.collect.new.ring.used ≡ now.used = (ok-by c.collect.result did.collected ok).used ∙ ap (λ (r : Ring). r.used) full.1 in
    let reserve : c.collect.new.ring.reserve ≡ now.reserve = (ok-by c.collect.result did.collected ok).reserve ∙ ap (λ (r : Ring). r.reserve) full.1 in
    let collects : Collects d f now c.collect.new.ring = subst (λ (r : Ring). Collects d f r c.collect.new.ring) full.1 (subst (λ (x : Device). Collects x f ring c.collect.new.ring) full.0 (ok-by c.collect.result did.collected ok).collects) in
    let left : before.used + 1 ≡ before.area.sectors = omega (arith, full.3, so_far.used, ap (λ (x : Area). x.sectors) so_far.area) in
    let some : 0 < record_cost (unit_of a before.area) (length c.args.body.now) = omega (arith, c.requires.some, (padding (unit_of a before.area) (has_size a before.area (g.met.F.Flash.is_lawful c.args.flash.now) c.requires.ready.stands.area).is_unit).no_less (length c.args.body.now)) in
    record {
      within = omega arith;
      so_far = searching-more a d before now len kept c.loop-round._round so_far f c.collect.new.ring some (omega (arith, c.requires.few)) full.2 touches (did.area ∙ ap (λ (r : Ring). r.area) full.1) settings most (ok-by c.collect.result did.collected ok).ready used reserve collects c.requires.ready;
    }

pub returns-clause-touches : goal.returns-clause-touches
returns-clause-touches g c =
    let a : Device = g.F.Flash.device c.args.flash.now in
    let d : Device = g.F.Flash.device c.loop-round.flash in
    let before : Ring = c.args.ring.now in
    let now : Ring = c.loop-round.ring in
    let len : ℕ = length c.args.body.now in
    let kept : ℕ = kept_room before c.args.into_reserve in
    let so_far : IsSearching a d before now (length c.args.body.now) (kept_room before c.args.into_reserve) c.loop-round._round = c.loop-round.invariant.so_far in
    let room = kept-same a d before now len kept c.loop-round._round so_far c.args.into_reserve in
    let e : Device = g.F.Flash.device c.try_append-2.new.flash in
    let after : Ring = c.try_append-2.new.ring in
    let all : c.loop-round._round ≡ c.args.rounds = omega arith in
    let ends : TryEnds d e now after c.args.body.now kept c.try_append-2.result = subst (λ (k : ℕ). TryEnds d e now after c.args.body.now k c.try_append-2.result) room c.try_append-2.ensures.ends in
    searching-touches a d before now len kept c.loop-round._round so_far e (append_lost c.try_append-2.result) c.try_append-2.ensures.touches

pub returns-clause-ends : goal.returns-clause-ends
returns-clause-ends g c =
    let a : Device = g.F.Flash.device c.args.flash.now in
    let d : Device = g.F.Flash.device c.loop-round.flash in
    let before : Ring = c.args.ring.now in
    let now : Ring = c.loop-round.ring in
    let len : ℕ = length c.args.body.now in
    let kept : ℕ = kept_room before c.args.into_reserve in
    let so_far : IsSearching a d before now (length c.args.body.now) (kept_room before c.args.into_reserve) c.loop-round._round = c.loop-round.invariant.so_far in
    let room = kept-same a d before now len kept c.loop-round._round so_far c.args.into_reserve in
    let e : Device = g.F.Flash.device c.try_append-2.new.flash in
    let after : Ring = c.try_append-2.new.ring in
    let all : c.loop-round._round ≡ c.args.rounds = omega arith in
    let ends : TryEnds d e now after c.args.body.now kept c.try_append-2.result = subst (λ (k : ℕ). TryEnds d e now after c.args.body.now k c.try_append-2.result) room c.try_append-2.ensures.ends in
    subst (λ (n : ℕ). PutEnds a e before after c.args.body.now kept n c.try_append-2.result) all (searching-ends a d before now len kept c.loop-round._round so_far e after c.args.body.now c.try_append-2.result refl ends)

pub returns-clause-at_most : goal.returns-clause-at_most
returns-clause-at_most g c =
    let a : Device = g.F.Flash.device c.args.flash.now in
    let d : Device = g.F.Flash.device c.loop-round.flash in
    let before : Ring = c.args.ring.now in
    let now : Ring = c.loop-round.ring in
    let len : ℕ = length c.args.body.now in
    let kept : ℕ = kept_room before c.args.into_reserve in
    let so_far : IsSearching a d before now (length c.args.body.now) (kept_room before c.args.into_reserve) c.loop-round._round = c.loop-round.invariant.so_far in
    let room = kept-same a d before now len kept c.loop-round._round so_far c.args.into_reserve in
    let e : Device = g.F.Flash.device c.try_append-2.new.flash in
    let after : Ring = c.try_append-2.new.ring in
    let all : c.loop-round._round ≡ c.args.rounds = omega arith in
    let ends : TryEnds d e now after c.args.body.now kept c.try_append-2.result = subst (λ (k : ℕ). TryEnds d e now after c.args.body.now k c.try_append-2.result) room c.try_append-2.ensures.ends in
    searching-most a d before now len kept c.loop-round._round so_far e after c.args.body.now c.try_append-2.result c.args.rounds (omega arith) ends
