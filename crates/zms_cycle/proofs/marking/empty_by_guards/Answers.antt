use Rattle.flash_map.proofs.Results.{not_ok}
use Rattle.flash_map.specs.Touches.{Touches}
use Rattle.flash_map.specs.Spending.{SpendsBetween}
use Rattle.std.proofs.Common.{◌+◌, ◌-◌, ◌∙◌, arith, ◌≡◌, ◌≤◌, ℕ, ◌∷◌, [], Bool, sym, subst}
use Rattle.std.proofs.lemmas.Result.{on_ok_weaker, on_err_weaker}
use Rattle.flash_map.specs.Area.{sector_bytes}
use Rattle.flash_map.proofs.PieceLemmas.{on_err}
use Rattle.flash_map.proofs.SpendingBounds.{between_then, between_within}
use Rattle.flash_map.proofs.Touches.{then}
use Rattle.zms_cycle.specs.Areas.{kind_on}
use Rattle.zms_cycle.specs.OnArea.{emptying_units}
use Rattle.zms_cycle.proofs.AreaFacts.{size_is, same_kind, still_zms, others_then, never_erasing}
use Rattle.zms_cycle.proofs.EmptyCalls.{kept_none, kept_first, kept_both, as_rewritable, emptied, same_bytes, emptying_guards}
use Rattle.zms_cycle.proofs.marking.empty_by_guards.Goals as goal

slot-0 : (size : ℕ) → 512 ≤ size → 16 ≤ size
slot-0 size least = omega arith

slot-1 : (size : ℕ) → 512 ≤ size → 32 ≤ size
slot-1 size least = omega arith

slot-2 : (size : ℕ) → 512 ≤ size → 48 ≤ size
slot-2 size least = omega arith

slots : (n size : ℕ) → n ≡ size → 512 ≤ size → 48 ≤ n
slots n size is least = omega arith

more-slots : (n size : ℕ) → n ≡ size → 512 ≤ size → 64 ≤ n
more-slots n size is least = omega arith

from-zero : (n : ℕ) → 0 ≤ n
from-zero n = omega arith

-- what is spent before the last unit
one-guard : (first second all : ℕ) → first + second + 1 ≡ all → first + 0 ≤ all - 1
one-guard first second all is = omega arith

two-guards : (first second all : ℕ) → first + second + 1 ≡ all → first + second + 0 ≤ all - 1
two-guards first second all is = omega arith

pub guard-requires-2-clause-zms : goal.guard-requires-2-clause-zms
guard-requires-2-clause-zms g c = still_zms (g.F.Flash.device c.args.flash.now) (g.F.Flash.device c.guard.new.flash) c.args.area.now c.args.sector c.in_ok-guard.ensures.touches.banks c.requires.zms

pub put_unit-requires-clause-zms : goal.put_unit-requires-clause-zms
put_unit-requires-clause-zms g c = still_zms (g.F.Flash.device c.guard.new.flash) (g.F.Flash.device c.guard-2.new.flash) c.args.area.now c.args.sector c.in_ok-guard-2.ensures.touches.banks (still_zms (g.F.Flash.device c.args.flash.now) (g.F.Flash.device c.guard.new.flash) c.args.area.now c.args.sector c.in_ok-guard.ensures.touches.banks c.requires.zms)

pub returns-in_err-guard-clause-lost : goal.returns-in_err-guard-clause-lost
returns-in_err-guard-clause-lost g c = on_err c.from_residual.result (kept_none (sector_bytes (g.F.Flash.device c.args.flash.now) c.args.area.now c.args.sector) (sector_bytes (g.F.Flash.device c.guard.new.flash) c.args.area.now c.args.sector) (same_bytes (g.F.Flash.device c.args.flash.now) (g.F.Flash.device c.guard.new.flash) c.args.area.now c.args.sector c.in_err-guard.ensures.ends.lost))

pub returns-in_err-guard-clause-spends_lost : goal.returns-in_err-guard-clause-spends_lost
returns-in_err-guard-clause-spends_lost g c = on_err c.from_residual.result (between_within c.in_err-guard.ensures.ends.spends_lost 0 (emptying_units (g.F.Flash.device c.args.flash.now) c.args.area.now c.args.sector - 1) (from-zero _) (from-zero _))

pub returns-in_err-guard-2-clause-others : goal.returns-in_err-guard-2-clause-others
returns-in_err-guard-2-clause-others g c = others_then (g.F.Flash.device c.args.flash.now) (g.F.Flash.device c.guard.new.flash) (g.F.Flash.device c.guard-2.new.flash) c.args.area.now c.args.sector c.in_ok-guard.ensures.others c.in_err-guard-2.ensures.others

pub returns-in_err-guard-2-clause-lost : goal.returns-in_err-guard-2-clause-lost
returns-in_err-guard-2-clause-lost g c =
    let size = size_is (g.F.Flash.device c.args.flash.now) c.args.area.now c.args.sector c.requires.zms (g.met.F.Flash.is_lawful c.args.flash.now) in
    let least = c.requires.zms.lawful.at_least in
    let first = as_rewritable (kind_on (g.F.Flash.device c.args.flash.now) c.args.area.now) c.args.cycle 1 (sector_bytes (g.F.Flash.device c.args.flash.now) c.args.area.now c.args.sector) (sector_bytes (g.F.Flash.device c.guard.new.flash) c.args.area.now c.args.sector) c.requires.kind c.in_ok-guard.ensures.ok in
    on_err c.from_residual-in_err-guard-2.result (kept_first (sector_bytes (g.F.Flash.device c.args.flash.now) c.args.area.now c.args.sector) (sector_bytes (g.F.Flash.device c.guard.new.flash) c.args.area.now c.args.sector) (sector_bytes (g.F.Flash.device c.guard-2.new.flash) c.args.area.now c.args.sector) c.args.cycle (slots _ _ size least) c.requires.cycle first (same_bytes (g.F.Flash.device c.guard.new.flash) (g.F.Flash.device c.guard-2.new.flash) c.args.area.now c.args.sector c.in_err-guard-2.ensures.ends.lost))

pub returns-in_err-guard-2-clause-spends_lost : goal.returns-in_err-guard-2-clause-spends_lost
returns-in_err-guard-2-clause-spends_lost g c =
    let size = size_is (g.F.Flash.device c.args.flash.now) c.args.area.now c.args.sector c.requires.zms (g.met.F.Flash.is_lawful c.args.flash.now) in
    let least = c.requires.zms.lawful.at_least in
    let first = as_rewritable (kind_on (g.F.Flash.device c.args.flash.now) c.args.area.now) c.args.cycle 1 (sector_bytes (g.F.Flash.device c.args.flash.now) c.args.area.now c.args.sector) (sector_bytes (g.F.Flash.device c.guard.new.flash) c.args.area.now c.args.sector) c.requires.kind c.in_ok-guard.ensures.ok in
    let kind = same_kind (g.F.Flash.device c.args.flash.now) (g.F.Flash.device c.guard.new.flash) c.args.area.now c.in_ok-guard.ensures.touches.banks ∙ c.requires.kind in
    let all = emptying_guards (kind_on (g.F.Flash.device c.args.flash.now) c.args.area.now) (kind_on (g.F.Flash.device c.guard.new.flash) c.args.area.now) (sector_bytes (g.F.Flash.device c.args.flash.now) c.args.area.now c.args.sector) (sector_bytes (g.F.Flash.device c.guard.new.flash) c.args.area.now c.args.sector) c.args.cycle c.requires.kind kind (slots _ _ size least) c.requires.cycle first in
    on_err c.from_residual-in_err-guard-2.result (between_within (between_then c.in_ok-guard.ensures.ends.spends c.in_err-guard-2.ensures.ends.spends_lost) 0 (emptying_units (g.F.Flash.device c.args.flash.now) c.args.area.now c.args.sector - 1) (from-zero _) (one-guard _ _ _ all))

pub returns-clause-touches : goal.returns-clause-touches
returns-clause-touches g c = then (then c.in_ok-guard.ensures.touches c.in_ok-guard-2.ensures.touches) c.put_unit.ensures.touches

pub returns-clause-others : goal.returns-clause-others
returns-clause-others g c =
    others_then (g.F.Flash.device c.args.flash.now) (g.F.Flash.device c.guard-2.new.flash) (g.F.Flash.device c.put_unit.new.flash) c.args.area.now c.args.sector (others_then (g.F.Flash.device c.args.flash.now) (g.F.Flash.device c.guard.new.flash) (g.F.Flash.device c.guard-2.new.flash) c.args.area.now c.args.sector c.in_ok-guard.ensures.others c.in_ok-guard-2.ensures.others) c.put_unit.ensures.others

pub returns-clause-ok : goal.returns-clause-ok
returns-clause-ok g c =
    let size = size_is (g.F.Flash.device c.args.flash.now) c.args.area.now c.args.sector c.requires.zms (g.met.F.Flash.is_lawful c.args.flash.now) in
    let least = c.requires.zms.lawful.at_least in
    let first = as_rewritable (kind_on (g.F.Flash.device c.args.flash.now) c.args.area.now) c.args.cycle 1 (sector_bytes (g.F.Flash.device c.args.flash.now) c.args.area.now c.args.sector) (sector_bytes (g.F.Flash.device c.guard.new.flash) c.args.area.now c.args.sector) c.requires.kind c.in_ok-guard.ensures.ok in
    let kind = same_kind (g.F.Flash.device c.args.flash.now) (g.F.Flash.device c.guard.new.flash) c.args.area.now c.in_ok-guard.ensures.touches.banks ∙ c.requires.kind in
    let second = as_rewritable (kind_on (g.F.Flash.device c.guard.new.flash) c.args.area.now) c.args.cycle 2 (sector_bytes (g.F.Flash.device c.guard.new.flash) c.args.area.now c.args.sector) (sector_bytes (g.F.Flash.device c.guard-2.new.flash) c.args.area.now c.args.sector) kind c.in_ok-guard-2.ensures.ok in
    on_ok_weaker c.put_unit.result
    (emptied (kind_on (g.F.Flash.device c.args.flash.now) c.args.area.now) (sector_bytes (g.F.Flash.device c.args.flash.now) c.args.area.now c.args.sector) (sector_bytes (g.F.Flash.device c.guard.new.flash) c.args.area.now c.args.sector) (sector_bytes (g.F.Flash.device c.guard-2.new.flash) c.args.area.now c.args.sector) (sector_bytes (g.F.Flash.device c.put_unit.new.flash) c.args.area.now c.args.sector) c.args.cycle c.empty_entry.result c.encode_zentry.result c.requires.kind (more-slots _ _ size least) c.requires.cycle first second c.empty_entry.ensures c.encode_zentry.ensures)
    c.put_unit.ensures.ok

pub returns-clause-lost : goal.returns-clause-lost
returns-clause-lost g c =
    let size = size_is (g.F.Flash.device c.args.flash.now) c.args.area.now c.args.sector c.requires.zms (g.met.F.Flash.is_lawful c.args.flash.now) in
    let least = c.requires.zms.lawful.at_least in
    let first = as_rewritable (kind_on (g.F.Flash.device c.args.flash.now) c.args.area.now) c.args.cycle 1 (sector_bytes (g.F.Flash.device c.args.flash.now) c.args.area.now c.args.sector) (sector_bytes (g.F.Flash.device c.guard.new.flash) c.args.area.now c.args.sector) c.requires.kind c.in_ok-guard.ensures.ok in
    let kind = same_kind (g.F.Flash.device c.args.flash.now) (g.F.Flash.device c.guard.new.flash) c.args.area.now c.in_ok-guard.ensures.touches.banks ∙ c.requires.kind in
    let second = as_rewritable (kind_on (g.F.Flash.device c.guard.new.flash) c.args.area.now) c.args.cycle 2 (sector_bytes (g.F.Flash.device c.guard.new.flash) c.args.area.now c.args.sector) (sector_bytes (g.F.Flash.device c.guard-2.new.flash) c.args.area.now c.args.sector) kind c.in_ok-guard-2.ensures.ok in
    on_err_weaker c.put_unit.result (λ same. kept_both (sector_bytes (g.F.Flash.device c.args.flash.now) c.args.area.now c.args.sector) (sector_bytes (g.F.Flash.device c.guard.new.flash) c.args.area.now c.args.sector) (sector_bytes (g.F.Flash.device c.guard-2.new.flash) c.args.area.now c.args.sector) (sector_bytes (g.F.Flash.device c.put_unit.new.flash) c.args.area.now c.args.sector) c.args.cycle (slots _ _ size least) c.requires.cycle first second (same_bytes (g.F.Flash.device c.guard-2.new.flash) (g.F.Flash.device c.put_unit.new.flash) c.args.area.now c.args.sector same)) c.put_unit.ensures.ends.lost

pub returns-clause-guards : goal.returns-clause-guards
returns-clause-guards g c =
    let size = size_is (g.F.Flash.device c.args.flash.now) c.args.area.now c.args.sector c.requires.zms (g.met.F.Flash.is_lawful c.args.flash.now) in
    let least = c.requires.zms.lawful.at_least in
    let first = as_rewritable (kind_on (g.F.Flash.device c.args.flash.now) c.args.area.now) c.args.cycle 1 (sector_bytes (g.F.Flash.device c.args.flash.now) c.args.area.now c.args.sector) (sector_bytes (g.F.Flash.device c.guard.new.flash) c.args.area.now c.args.sector) c.requires.kind c.in_ok-guard.ensures.ok in
    let kind = same_kind (g.F.Flash.device c.args.flash.now) (g.F.Flash.device c.guard.new.flash) c.args.area.now c.in_ok-guard.ensures.touches.banks ∙ c.requires.kind in
    let all = emptying_guards (kind_on (g.F.Flash.device c.args.flash.now) c.args.area.now) (kind_on (g.F.Flash.device c.guard.new.flash) c.args.area.now) (sector_bytes (g.F.Flash.device c.args.flash.now) c.args.area.now c.args.sector) (sector_bytes (g.F.Flash.device c.guard.new.flash) c.args.area.now c.args.sector) c.args.cycle c.requires.kind kind (slots _ _ size least) c.requires.cycle first in
    on_ok_weaker c.put_unit.result (λ spends. subst (λ (n : ℕ). SpendsBetween (g.F.Flash.device c.args.flash.now) (g.F.Flash.device c.put_unit.new.flash) n n) all (between_then (between_then c.in_ok-guard.ensures.ends.spends c.in_ok-guard-2.ensures.ends.spends) spends)) c.put_unit.ensures.ends.spends

pub returns-clause-spends_lost : goal.returns-clause-spends_lost
returns-clause-spends_lost g c =
    let size = size_is (g.F.Flash.device c.args.flash.now) c.args.area.now c.args.sector c.requires.zms (g.met.F.Flash.is_lawful c.args.flash.now) in
    let least = c.requires.zms.lawful.at_least in
    let first = as_rewritable (kind_on (g.F.Flash.device c.args.flash.now) c.args.area.now) c.args.cycle 1 (sector_bytes (g.F.Flash.device c.args.flash.now) c.args.area.now c.args.sector) (sector_bytes (g.F.Flash.device c.guard.new.flash) c.args.area.now c.args.sector) c.requires.kind c.in_ok-guard.ensures.ok in
    let kind = same_kind (g.F.Flash.device c.args.flash.now) (g.F.Flash.device c.guard.new.flash) c.args.area.now c.in_ok-guard.ensures.touches.banks ∙ c.requires.kind in
    let all = emptying_guards (kind_on (g.F.Flash.device c.args.flash.now) c.args.area.now) (kind_on (g.F.Flash.device c.guard.new.flash) c.args.area.now) (sector_bytes (g.F.Flash.device c.args.flash.now) c.args.area.now c.args.sector) (sector_bytes (g.F.Flash.device c.guard.new.flash) c.args.area.now c.args.sector) c.args.cycle c.requires.kind kind (slots _ _ size least) c.requires.cycle first in
    on_err_weaker c.put_unit.result (λ spends. between_within (between_then (between_then c.in_ok-guard.ensures.ends.spends c.in_ok-guard-2.ensures.ends.spends) spends) 0 (emptying_units (g.F.Flash.device c.args.flash.now) c.args.area.now c.args.sector - 1) (from-zero _) (two-guards _ _ _ all)) c.put_unit.ensures.ends.spends_lost

pub guard-requires-clause-zms : goal.guard-requires-clause-zms
guard-requires-clause-zms g c = c.requires.zms

pub guard-requires-clause-slot : goal.guard-requires-clause-slot
guard-requires-clause-slot g c = slot-1 _ c.requires.zms.lawful.at_least

pub guard-requires-2-clause-slot : goal.guard-requires-2-clause-slot
guard-requires-2-clause-slot g c =
    let d = g.F.Flash.device c.args.flash.now in
    let m = g.F.Flash.device c.guard.new.flash in
    slot-2 _ (still_zms d m c.args.area.now c.args.sector c.in_ok-guard.ensures.touches.banks c.requires.zms).lawful.at_least

pub put_unit-requires-clause-slot : goal.put_unit-requires-clause-slot
put_unit-requires-clause-slot g c =
    let d = g.F.Flash.device c.args.flash.now in
    let m = g.F.Flash.device c.guard.new.flash in
    let n = g.F.Flash.device c.guard-2.new.flash in
    let first = still_zms d m c.args.area.now c.args.sector c.in_ok-guard.ensures.touches.banks c.requires.zms in
    slot-0 _ (still_zms m n c.args.area.now c.args.sector c.in_ok-guard-2.ensures.touches.banks first).lawful.at_least

pub put_unit-requires-clause-erased : goal.put_unit-requires-clause-erased
put_unit-requires-clause-erased g c =
    let d = g.F.Flash.device c.args.flash.now in
    let m = g.F.Flash.device c.guard.new.flash in
    let n = g.F.Flash.device c.guard-2.new.flash in
    let second = same_kind m n c.args.area.now c.in_ok-guard-2.ensures.touches.banks in
    let first = same_kind d m c.args.area.now c.in_ok-guard.ensures.touches.banks in
    λ erasing. absurd (never_erasing (second ∙ first ∙ c.requires.kind) erasing)

pub returns-in_err-guard-clause-touches : goal.returns-in_err-guard-clause-touches
returns-in_err-guard-clause-touches g c =
    let d = g.F.Flash.device c.args.flash.now in
    let e = g.F.Flash.device c.guard.new.flash in
    subst (λ (lost : Bool). Touches (c.args.area.now ∷ []) d e lost) (sym c.from_residual.ensures.0)
    c.in_err-guard.ensures.touches

pub returns-in_err-guard-clause-others : goal.returns-in_err-guard-clause-others
returns-in_err-guard-clause-others g c = c.in_err-guard.ensures.others

pub returns-in_err-guard-clause-ok : goal.returns-in_err-guard-clause-ok
returns-in_err-guard-clause-ok g c = not_ok _ c.from_residual.result c.from_residual.ensures.0

pub returns-in_err-guard-clause-guards : goal.returns-in_err-guard-clause-guards
returns-in_err-guard-clause-guards g c = not_ok _ c.from_residual.result c.from_residual.ensures.0

pub returns-in_err-guard-2-clause-touches : goal.returns-in_err-guard-2-clause-touches
returns-in_err-guard-2-clause-touches g c =
    let d = g.F.Flash.device c.args.flash.now in
    let e = g.F.Flash.device c.guard-2.new.flash in
    subst (λ (lost : Bool). Touches (c.args.area.now ∷ []) d e lost) (sym c.from_residual-in_err-guard-2.ensures.0)
    (then c.in_ok-guard.ensures.touches c.in_err-guard-2.ensures.touches)

pub returns-in_err-guard-2-clause-ok : goal.returns-in_err-guard-2-clause-ok
returns-in_err-guard-2-clause-ok g c = not_ok _ c.from_residual-in_err-guard-2.result c.from_residual-in_err-guard-2.ensures.0

pub returns-in_err-guard-2-clause-guards : goal.returns-in_err-guard-2-clause-guards
returns-in_err-guard-2-clause-guards g c = not_ok _ c.from_residual-in_err-guard-2.result c.from_residual-in_err-guard-2.ensures.0
