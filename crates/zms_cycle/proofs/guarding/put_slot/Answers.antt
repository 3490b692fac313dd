use Rattle.std.proofs.Common.{ℕ, List, ◌≡◌, ◌≤◌, ◌*◌, inr}
use Rattle.zms_cycle.specs.Changes.{guarded, with_slot}
use Rattle.flash_sim.specs.declared.flash.Bank.{Bank}
use Rattle.flash_sim.specs.Bank.{bank_at}
use Rattle.zms_cycle.proofs.EmptyCalls.{same_bytes}
use Rattle.flash_map.proofs.Results.{not_ok}
use Rattle.flash_map.proofs.Touches.{then}
use Rattle.flash_map.specs.Touches.{Touches}
use Rattle.std.proofs.Common.{◌+◌, arith, [], ◌∷◌, Some, ◌∙◌, sym, subst, ap, Bool, inl}
use Rattle.std.proofs.lemmas.Result.{on_ok_weaker, on_err_weaker}
use Rattle.flash_map.specs.Area.{sector_bytes}
use Rattle.flash_map.proofs.SpendingBounds.{between_then, between_within}
use Rattle.zms_cycle.specs.Areas.{kind_on}
use Rattle.zms_cycle.proofs.AreaFacts.{still_zms, others_then}
use Rattle.zms_cycle.proofs.UnitCalls.{few_units, erased_still}
use Rattle.flash_map.proofs.PieceLemmas.{within_then, on_err}
use Rattle.zms_cycle.specs.declared.reading.TheConstants.{SLOT}
use Rattle.zms_cycle.proofs.guarding.put_slot.Goals as goal

slot-in : (slot size other : ℕ) → (slot + 1 + 1) * 16 ≤ size → other ≡ size → (slot + 1) * 16 ≤ other
slot-in slot size other inside same = omega arith

from-zero : (n : ℕ) → 0 ≤ n
from-zero n = omega arith

pub put_unit-requires-clause-zms : goal.put_unit-requires-clause-zms
put_unit-requires-clause-zms g c = still_zms (g.F.Flash.device c.args.flash.now) (g.F.Flash.device c.guard.new.flash) c.args.area.now c.args.sector c.in_ok-guard.ensures.touches.banks c.requires.zms

pub put_unit-requires-clause-erased : goal.put_unit-requires-clause-erased
put_unit-requires-clause-erased g c = erased_still (g.F.Flash.device c.args.flash.now) (g.F.Flash.device c.guard.new.flash) c.args.area.now c.args.sector c.args.slot c.in_ok-guard.ensures.touches.banks c.in_ok-guard.ensures.idle c.requires.erased

pub returns-clause-others : goal.returns-clause-others
returns-clause-others g c = others_then (g.F.Flash.device c.args.flash.now) (g.F.Flash.device c.guard.new.flash) (g.F.Flash.device c.put_unit.new.flash) c.args.area.now c.args.sector c.in_ok-guard.ensures.others c.put_unit.ensures.others

pub returns-clause-spends : goal.returns-clause-spends
returns-clause-spends g c =
    let few = few_units (kind_on (g.F.Flash.device c.args.flash.now) c.args.area.now) (Some c.args.entry.now.cycle) (c.args.slot + 1) (sector_bytes (g.F.Flash.device c.args.flash.now) c.args.area.now c.args.sector) in
    on_ok_weaker c.put_unit.result (λ spends. between_within (between_then c.in_ok-guard.ensures.ends.spends spends) 1 2 (omega arith) (omega arith)) c.put_unit.ensures.ends.spends

pub returns-clause-spends_lost : goal.returns-clause-spends_lost
returns-clause-spends_lost g c =
    let few = few_units (kind_on (g.F.Flash.device c.args.flash.now) c.args.area.now) (Some c.args.entry.now.cycle) (c.args.slot + 1) (sector_bytes (g.F.Flash.device c.args.flash.now) c.args.area.now c.args.sector) in
    on_err_weaker c.put_unit.result (λ spends. between_within (between_then c.in_ok-guard.ensures.ends.spends spends) 0 1 (omega arith) (omega arith)) c.put_unit.ensures.ends.spends_lost

pub returns-clause-guards : goal.returns-clause-guards
returns-clause-guards g c = on_ok_weaker c.put_unit.result (λ spends. between_within (between_then c.in_ok-guard.ensures.ends.spends spends) _ _ (omega arith) (omega arith)) c.put_unit.ensures.ends.spends

pub returns-clause-in_pieces : goal.returns-clause-in_pieces
returns-clause-in_pieces g c = on_err_weaker c.put_unit.result (within_then SLOT (g.F.Flash.device c.args.flash.now) (g.F.Flash.device c.guard.new.flash) (g.F.Flash.device c.put_unit.new.flash) (c.args.area.now ∷ []) c.in_ok-guard.ensures.touches) c.put_unit.ensures.ends.in_pieces

pub guard-requires-clause-zms : goal.guard-requires-clause-zms
guard-requires-clause-zms g c = c.requires.zms

pub guard-requires-clause-slot : goal.guard-requires-clause-slot
guard-requires-clause-slot g c = c.requires.slot

pub returns-in_err-guard-clause-touches : goal.returns-in_err-guard-clause-touches
returns-in_err-guard-clause-touches g c =
    let d = g.F.Flash.device c.args.flash.now in
    let e = g.F.Flash.device c.guard.new.flash in
    subst (λ (lost : Bool). Touches (c.args.area.now ∷ []) d e lost) (sym c.from_residual.ensures.0)
    c.in_err-guard.ensures.touches

pub returns-in_err-guard-clause-others : goal.returns-in_err-guard-clause-others
returns-in_err-guard-clause-others g c = c.in_err-guard.ensures.others

pub returns-in_err-guard-clause-ok : goal.returns-in_err-guard-clause-ok
returns-in_err-guard-clause-ok g c = not_ok _ c.from_residual.result c.from_residual.ensures.0

pub returns-in_err-guard-clause-spends : goal.returns-in_err-guard-clause-spends
returns-in_err-guard-clause-spends g c = not_ok _ c.from_residual.result c.from_residual.ensures.0

pub returns-in_err-guard-clause-guards : goal.returns-in_err-guard-clause-guards
returns-in_err-guard-clause-guards g c = not_ok _ c.from_residual.result c.from_residual.ensures.0

pub returns-in_err-guard-clause-lost : goal.returns-in_err-guard-clause-lost
returns-in_err-guard-clause-lost g c =
    let d = g.F.Flash.device c.args.flash.now in
    let m = g.F.Flash.device c.guard.new.flash in
    on_err c.from_residual.result (inl (same_bytes d m c.args.area.now c.args.sector c.in_err-guard.ensures.ends.lost))

pub returns-in_err-guard-clause-in_pieces : goal.returns-in_err-guard-clause-in_pieces
returns-in_err-guard-clause-in_pieces g c = on_err c.from_residual.result c.in_err-guard.ensures.ends.in_pieces

pub returns-in_err-guard-clause-spends_lost : goal.returns-in_err-guard-clause-spends_lost
returns-in_err-guard-clause-spends_lost g c =
    on_err c.from_residual.result (between_within c.in_err-guard.ensures.ends.spends_lost 0 1 (from-zero 0) (from-zero 1))

pub returns-in_err-guard-clause-steps : goal.returns-in_err-guard-clause-steps
returns-in_err-guard-clause-steps g c = c.in_err-guard.ensures.steps

pub put_unit-requires-clause-slot : goal.put_unit-requires-clause-slot
put_unit-requires-clause-slot g c =
    let banks = c.in_ok-guard.ensures.touches.banks in
    let same = ap (λ (l : List Bank). (bank_at l c.args.area.now.bank).sector) banks in
    slot-in c.args.slot _ _ c.requires.slot same

pub returns-clause-touches : goal.returns-clause-touches
returns-clause-touches g c = then c.in_ok-guard.ensures.touches c.put_unit.ensures.touches

pub returns-clause-ok : goal.returns-clause-ok
returns-clause-ok g c =
    let d = g.F.Flash.device c.args.flash.now in
    let slot = c.args.slot in
    let guarded_is = guarded (kind_on d c.args.area.now) c.args.entry.now.cycle (slot + 1) (sector_bytes d c.args.area.now c.args.sector) in
    let first = ap (λ (b : List ℕ). with_slot b slot c.encode_zentry.result) c.in_ok-guard.ensures.ok in
    let second = ap (λ (bytes : List ℕ). with_slot guarded_is slot bytes) c.encode_zentry.ensures in
    on_ok_weaker c.put_unit.result (λ is. is ∙ first ∙ second) c.put_unit.ensures.ok

pub returns-clause-lost : goal.returns-clause-lost
returns-clause-lost g c =
    let m = g.F.Flash.device c.guard.new.flash in
    let e = g.F.Flash.device c.put_unit.new.flash in
    let first = c.in_ok-guard.ensures.ok in
    on_err_weaker c.put_unit.result (λ same. inr (same_bytes m e c.args.area.now c.args.sector same ∙ first)) c.put_unit.ensures.ends.lost

pub returns-clause-steps : goal.returns-clause-steps
returns-clause-steps g c = c.in_ok-guard.ensures.steps
