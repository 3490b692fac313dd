use Rattle.std.proofs.Common.{◌≤◌, ℕ, List, inl}
use Rattle.std.specs.Result.{IsErr}
use Rattle.std.proofs.lemmas.Bool.{false≢true}
use Rattle.fcb_ring.specs.declared.ring.Ring.{Ring}
use Rattle.fcb_ring.proofs.AppendLemmas.{is_err_by}
use Rattle.migrator.specs.Choosing.{ChoiceIsCut, ChooseEnds}
use Rattle.fcb_ring.specs.Standing.{erases_on}
use Rattle.migrator.proofs.Spent.{choice-behind, choice-first}
use Rattle.flash_sim.specs.Device.{Device}
use Rattle.std.proofs.Common.{[], ◌∷◌, true, false, Result, Ok, Err, ap, subst, ◌∙◌}
use Rattle.flash_map.specs.declared.area.Area.{Area}
use Rattle.flash_map.specs.Touches.{Touches}
use Rattle.flash_map.proofs.Touches.{then}
use Rattle.fcb_ring.specs.Changing.{append_lost}
use Rattle.fcb_ring.specs.declared.writing.AppendFault.{AppendFault}
use Rattle.migrator.proofs.Putting.{put-behind, put-lost, put-full, put-ok, adds-behind, room-behind, left-used}
use Rattle.migrator.proofs.ErrLemmas.{not-ok}
use Rattle.migrator.proofs.selecting.collect_and_put.Goals as goal

pub unreachable-requires-in-Err-Full : goal.unreachable-requires-in-Err-Full
unreachable-requires-in-Err-Full g c =
    let one = c.in_ok-collect.ensures in
    let full = put-full c.args.map.now (g.F.Flash.device c.collect.new.flash) (g.F.Flash.device c.put_choice.new.flash) c.collect.new.ring c.put_choice.new.ring c.args.index c.put_choice.result
    (c.in-Err-Full.is ∙ ap (λ (x : AppendFault). Err x) c.in-Err-Full.field-0-is) (c.put_choice.ensures.ends c.args.map.now c.requires.store) in
    room-behind c.args.map.now (g.F.Flash.device c.args.flash.now) (g.F.Flash.device c.collect.new.flash) c.args.ring.now c.collect.new.ring c.args.index (g.met.F.Flash.is_lawful c.collect.new.flash)
    one.touches.banks one.area (left-used (g.F.Flash.device c.args.flash.now) c.args.ring.now c.requires.mounted c.requires.left) one.collected full.0

pub returns-in-Ok-clause-touches : goal.returns-in-Ok-clause-touches
returns-in-Ok-clause-touches g c =
    let one = c.in_ok-collect.ensures in
    then one.touches
    (subst (λ (x : Area). Touches (x ∷ []) (g.F.Flash.device c.collect.new.flash) (g.F.Flash.device c.put_choice.new.flash) false) one.area
    (subst (λ (r : Result (Unit {0}) AppendFault). Touches (c.collect.new.ring.area ∷ []) (g.F.Flash.device c.collect.new.flash) (g.F.Flash.device c.put_choice.new.flash) (append_lost r)) c.in-Ok.is c.put_choice.ensures.touches))

pub returns-in-Ok-clause-chosen : goal.returns-in-Ok-clause-chosen
returns-in-Ok-clause-chosen g c =
    let one = c.in_ok-collect.ensures in
    let put = put-ok c.args.map.now (g.F.Flash.device c.collect.new.flash) (g.F.Flash.device c.put_choice.new.flash) c.collect.new.ring c.put_choice.new.ring c.args.index c.put_choice.result _ c.in-Ok.is (c.put_choice.ensures.ends c.args.map.now c.requires.store) in
    adds-behind c.args.map.now (g.F.Flash.device c.args.flash.now) (g.F.Flash.device c.collect.new.flash) (g.F.Flash.device c.put_choice.new.flash) c.args.ring.now c.collect.new.ring c.args.index (g.met.F.Flash.is_lawful c.collect.new.flash)
    one.touches.banks one.area (left-used (g.F.Flash.device c.args.flash.now) c.args.ring.now c.requires.mounted c.requires.left) one.collected put.2

pub returns-in_err-collect-clause-at_most : goal.returns-in_err-collect-clause-at_most
returns-in_err-collect-clause-at_most g c = choice-first (g.F.Flash.device c.args.flash.now) (g.F.Flash.device c.collect.new.flash) c.args.ring.now.area c.collect.ensures.at_most

pub returns-in-Ok-clause-at_most : goal.returns-in-Ok-clause-at_most
returns-in-Ok-clause-at_most g c =
    let a : Device = g.F.Flash.device c.args.flash.now in
    let b : Device = g.F.Flash.device c.collect.new.flash in
    let e : Device = g.F.Flash.device c.put_choice.new.flash in
    choice-behind a b e c.args.ring.now.area c.collect.new.ring.area c.in_ok-collect.ensures.touches.banks c.in_ok-collect.ensures.area c.collect.ensures.at_most c.put_choice.ensures.at_most

pub returns-in-Err-PowerLost-clause-at_most : goal.returns-in-Err-PowerLost-clause-at_most
returns-in-Err-PowerLost-clause-at_most g c =
    let a : Device = g.F.Flash.device c.args.flash.now in
    let b : Device = g.F.Flash.device c.collect.new.flash in
    let e : Device = g.F.Flash.device c.put_choice.new.flash in
    choice-behind a b e c.args.ring.now.area c.collect.new.ring.area c.in_ok-collect.ensures.touches.banks c.in_ok-collect.ensures.area c.collect.ensures.at_most c.put_choice.ensures.at_most

pub collect-requires-clause-mounted : goal.collect-requires-clause-mounted
collect-requires-clause-mounted g c = c.requires.mounted

pub collect-requires-clause-left : goal.collect-requires-clause-left
collect-requires-clause-left g c = c.requires.left

pub put_choice-requires : goal.put_choice-requires
put_choice-requires g c = record { mounted = c.in_ok-collect.ensures.collected.open_ring }

pub returns-in_err-collect-clause-area : goal.returns-in_err-collect-clause-area
returns-in_err-collect-clause-area g c = c.collect.ensures.area

pub returns-in-Ok-clause-area : goal.returns-in-Ok-clause-area
returns-in-Ok-clause-area g c = c.put_choice.ensures.area ∙ c.in_ok-collect.ensures.area

pub returns-in-Err-PowerLost-clause-area : goal.returns-in-Err-PowerLost-clause-area
returns-in-Err-PowerLost-clause-area g c = c.put_choice.ensures.area ∙ c.in_ok-collect.ensures.area

pub returns-in-Ok-clause-ends : goal.returns-in-Ok-clause-ends
returns-in-Ok-clause-ends g c =
    let one = c.in_ok-collect.ensures in
    let a : Device = g.F.Flash.device c.args.flash.now in
    let b : Device = g.F.Flash.device c.collect.new.flash in
    let e : Device = g.F.Flash.device c.put_choice.new.flash in
    let put = put-ok c.args.map.now b e c.collect.new.ring c.put_choice.new.ring c.args.index c.put_choice.result _ c.in-Ok.is (c.put_choice.ensures.ends c.args.map.now c.requires.store) in
    put-behind {E = Unit {0}} c.args.map.now a b e c.args.ring.now c.collect.new.ring c.put_choice.new.ring c.args.index (Ok tt) one.area one.collected.active (put.0, put.1)

pub returns-in-Err-PowerLost-clause-ends : goal.returns-in-Err-PowerLost-clause-ends
returns-in-Err-PowerLost-clause-ends g c =
    let one = c.in_ok-collect.ensures in
    let a : Device = g.F.Flash.device c.args.flash.now in
    let b : Device = g.F.Flash.device c.collect.new.flash in
    let e : Device = g.F.Flash.device c.put_choice.new.flash in
    let put = put-lost c.args.map.now a b e c.args.ring.now c.collect.new.ring c.put_choice.new.ring c.args.index c.put_choice.result (c.in-Err-PowerLost.is ∙ ap (λ (x : AppendFault). Err x) c.in-Err-PowerLost.field-0-is) (c.put_choice.ensures.ends c.args.map.now c.requires.store) in
    put-behind {E = Unit {0}} c.args.map.now a b e c.args.ring.now c.collect.new.ring c.put_choice.new.ring c.args.index (Err tt) one.area one.collected.active put

pub returns-in-Err-PowerLost-clause-chosen : goal.returns-in-Err-PowerLost-clause-chosen
returns-in-Err-PowerLost-clause-chosen g c = tt

pub returns-in-Err-PowerLost-clause-touches : goal.returns-in-Err-PowerLost-clause-touches
returns-in-Err-PowerLost-clause-touches g c =
    let one = c.in_ok-collect.ensures in
    then one.touches
    (subst (λ (x : Area). Touches (x ∷ []) (g.F.Flash.device c.collect.new.flash) (g.F.Flash.device c.put_choice.new.flash) true) one.area
    (subst (λ (r : Result (Unit {0}) AppendFault). Touches (c.collect.new.ring.area ∷ []) (g.F.Flash.device c.collect.new.flash) (g.F.Flash.device c.put_choice.new.flash) (append_lost r))
    (c.in-Err-PowerLost.is ∙ ap (λ (x : AppendFault). Err x) c.in-Err-PowerLost.field-0-is) c.put_choice.ensures.touches))

pub returns-in_err-collect-clause-left : goal.returns-in_err-collect-clause-left
returns-in_err-collect-clause-left g c = c.collect.ensures.left

pub returns-in-Ok-clause-left : goal.returns-in-Ok-clause-left
returns-in-Ok-clause-left g c = subst (λ (x : Area). erases_on (g.F.Flash.device c.put_choice.new.flash) x ≤ 1) c.in_ok-collect.ensures.area c.put_choice.ensures.left

pub returns-in-Err-PowerLost-clause-left : goal.returns-in-Err-PowerLost-clause-left
returns-in-Err-PowerLost-clause-left g c = subst (λ (x : Area). erases_on (g.F.Flash.device c.put_choice.new.flash) x ≤ 1) c.in_ok-collect.ensures.area c.put_choice.ensures.left

pub returns-in_err-collect-clause-touches : goal.returns-in_err-collect-clause-touches
returns-in_err-collect-clause-touches g c =
    is_err_by c.from_residual.result (λ b. Touches (c.args.ring.now.area ∷ []) (g.F.Flash.device c.args.flash.now) (g.F.Flash.device c.collect.new.flash) b) c.from_residual.ensures.0 c.in_err-collect.ensures.touches

cut-by : {T E : Type 0} (areas : List Area) (old new : Device) (before after : Ring) (index : ℕ) (r : Result T E) → IsErr r → ChoiceIsCut areas old new before.area after index → ChooseEnds areas old new before after index r
cut-by areas old new before after index (Ok x) is cut = absurd (false≢true is)
cut-by areas old new before after index (Err e) is cut = cut

pub returns-in_err-collect-clause-ends : goal.returns-in_err-collect-clause-ends
returns-in_err-collect-clause-ends g c =
    cut-by c.args.map.now (g.F.Flash.device c.args.flash.now) (g.F.Flash.device c.collect.new.flash) c.args.ring.now c.collect.new.ring c.args.index c.from_residual.result c.from_residual.ensures.0
    (inl c.in_err-collect.ensures.active, c.in_err-collect.ensures.undamaged, c.in_err-collect.ensures.down)

pub returns-in_err-collect-clause-chosen : goal.returns-in_err-collect-clause-chosen
returns-in_err-collect-clause-chosen g c = not-ok _ c.from_residual.result c.from_residual.ensures.0
