use Rattle.std.proofs.Common.{ap, subst, refl, ◌∙◌, ◌≡◌, ◌∷◌, [], true, false, Option, Some, None}
use Rattle.flash_map.specs.declared.area.Area.{Area}
use Rattle.flash_map.specs.Area.{sectors_of}
use Rattle.flash_map.specs.Spending.{Spends, SpendsAtMost}
use Rattle.flash_map.specs.Touches.{Touches}
use Rattle.flash_map.proofs.Touches.{untouched}
use Rattle.fcb_ring.specs.Changing.{StopsErasing}
use Rattle.fcb_ring.specs.Standing.{states_on, erases_due, erases_on, mounted_on, KeepsEntries}
use Rattle.fcb_ring.proofs.ring.Ring.mount.Goals as goal

not_lost : false ≡ true → ⊥
not_lost e = cc

not_both : {T : Type 0} (o : Option T) (x : T) → o ≡ None → o ≡ Some x → ⊥
not_both o x none some = cc

pub inspect-requires : goal.inspect-requires
inspect-requires g c = c.requires

pub finish-requires-clause-stands : goal.finish-requires-clause-stands
finish-requires-clause-stands g c = c.in-Ok.ensures.ok

pub finish-requires-clause-not_finished : goal.finish-requires-clause-not_finished
finish-requires-clause-not_finished g c = c.in-Ok.ensures.ring.3

pub returns-in-Err-clause-touches : goal.returns-in-Err-clause-touches
returns-in-Err-clause-touches g c = untouched (c.args.area ∷ []) (g.F.Flash.device c.args.flash.now)

pub returns-in-Err-clause-ends : goal.returns-in-Err-clause-ends
returns-in-Err-clause-ends g c = (c.in-Err.ensures.damaged, refl)

pub returns-in-Err-clause-idle : goal.returns-in-Err-clause-idle
returns-in-Err-clause-idle g c none = refl

pub returns-in-Err-clause-erased : goal.returns-in-Err-clause-erased
returns-in-Err-clause-erased g c = tt

pub returns-in-Err-clause-part : goal.returns-in-Err-clause-part
returns-in-Err-clause-part g c lost = absurd (not_lost lost)

pub returns-in-Err-clause-list : goal.returns-in-Err-clause-list
returns-in-Err-clause-list g c none = absurd (not_both _ c.in-Err.damaged none c.in-Err.ensures.damaged)

pub returns-in-Err-finish-clause-touches : goal.returns-in-Err-finish-clause-touches
returns-in-Err-finish-clause-touches g c =
    let d = g.F.Flash.device c.args.flash.now in
    let e = g.F.Flash.device c.finish.new.flash in
    subst (λ (x : Area). Touches (x ∷ []) d e true) c.in-Ok.ensures.ring.0 c.in-Err-finish.ensures.touches

pub returns-in-Err-finish-clause-erased : goal.returns-in-Err-finish-clause-erased
returns-in-Err-finish-clause-erased g c = tt

pub returns-in-Err-finish-clause-list : goal.returns-in-Err-finish-clause-list
returns-in-Err-finish-clause-list g c none =
    let d = g.F.Flash.device c.args.flash.now in
    let e = g.F.Flash.device c.finish.new.flash in
    subst (λ (x : Area). KeepsEntries d e x) c.in-Ok.ensures.ring.0 c.in-Err-finish.ensures.list

pub returns-in-Ok-finish-clause-touches : goal.returns-in-Ok-finish-clause-touches
returns-in-Ok-finish-clause-touches g c =
    let d = g.F.Flash.device c.args.flash.now in
    let e = g.F.Flash.device c.finish.new.flash in
    subst (λ (x : Area). Touches (x ∷ []) d e false) c.in-Ok.ensures.ring.0 c.in-Ok-finish.ensures.touches

pub returns-in-Ok-finish-clause-ends : goal.returns-in-Ok-finish-clause-ends
returns-in-Ok-finish-clause-ends g c =
    let d = g.F.Flash.device c.args.flash.now in
    let e = g.F.Flash.device c.finish.new.flash in
    let done = c.in-Ok-finish.ensures.finished in
    let is = c.in-Ok.ensures.ring in (
      c.in-Ok.ensures.damaged,
      done.stands,
      done.ready,
      done.area ∙ is.0,
      done.reserve ∙ is.1,
      subst (λ (x : Area). Spends d e (erases_on d x)) is.0 done.units,
    )

pub returns-in-Ok-finish-clause-erased : goal.returns-in-Ok-finish-clause-erased
returns-in-Ok-finish-clause-erased g c =
    let d = g.F.Flash.device c.args.flash.now in
    let e = g.F.Flash.device c.finish.new.flash in
    subst (λ (x : Area). sectors_of e x ≡ mounted_on d x) c.in-Ok.ensures.ring.0 c.in-Ok-finish.ensures.finished.erased

pub returns-in-Ok-finish-clause-part : goal.returns-in-Ok-finish-clause-part
returns-in-Ok-finish-clause-part g c lost = absurd (not_lost lost)

pub returns-in-Ok-finish-clause-list : goal.returns-in-Ok-finish-clause-list
returns-in-Ok-finish-clause-list g c none =
    let d = g.F.Flash.device c.args.flash.now in
    let e = g.F.Flash.device c.finish.new.flash in
    subst (λ (x : Area). KeepsEntries d e x) c.in-Ok.ensures.ring.0 c.in-Ok-finish.ensures.list

pub returns-in-Err-finish-clause-ends : goal.returns-in-Err-finish-clause-ends
returns-in-Err-finish-clause-ends g c =
    let d = g.F.Flash.device c.args.flash.now in
    let e = g.F.Flash.device c.finish.new.flash in
    (c.in-Ok.ensures.damaged, subst (λ (x : Area). SpendsAtMost d e (erases_due (states_on d x))) c.in-Ok.ensures.ring.0 c.in-Err-finish.ensures.stopped.bound)

pub returns-in-Err-finish-clause-idle : goal.returns-in-Err-finish-clause-idle
returns-in-Err-finish-clause-idle g c none =
    let d = g.F.Flash.device c.args.flash.now in
    c.in-Err-finish.ensures.idle (ap (λ (x : Area). erases_due (states_on d x)) c.in-Ok.ensures.ring.0 ∙ none)

pub returns-in-Ok-finish-clause-idle : goal.returns-in-Ok-finish-clause-idle
returns-in-Ok-finish-clause-idle g c none =
    let d = g.F.Flash.device c.args.flash.now in
    c.in-Ok-finish.ensures.idle (ap (λ (x : Area). erases_due (states_on d x)) c.in-Ok.ensures.ring.0 ∙ none)

pub returns-in-Err-finish-clause-part : goal.returns-in-Err-finish-clause-part
returns-in-Err-finish-clause-part g c lost =
    let d = g.F.Flash.device c.args.flash.now in
    let e = g.F.Flash.device c.finish.new.flash in
    subst (λ (x : Area). StopsErasing d e x) c.in-Ok.ensures.ring.0 c.in-Err-finish.ensures.stopped.part
