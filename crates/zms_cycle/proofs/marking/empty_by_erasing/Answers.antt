use Rattle.std.proofs.Common.{◌≡◌, ◌-◌, Bool, not, cond, ap, ◌∙◌, arith}
use Rattle.std.proofs.lemmas.Result.{on_ok_weaker, on_err_weaker}
use Rattle.flash_map.specs.Area.{sector_bytes}
use Rattle.flash_map.specs.Units.{is_erased}
use Rattle.flash_map.proofs.PieceLemmas.{on_err}
use Rattle.flash_map.proofs.SpendingBounds.{between_exact, between_most, between_then, between_within}
use Rattle.zms_cycle.specs.Areas.{kind_on}
use Rattle.zms_cycle.specs.OnArea.{emptying_units}
use Rattle.zms_cycle.proofs.AreaFacts.{size_is, still_zms, others_then, others_same}
use Rattle.zms_cycle.proofs.EmptyCalls.{same_bytes, erased_mid, erased_others, blank_can, emptied_blank, stops_before, stops_blank, emptying_erase}
use Rattle.zms_cycle.proofs.marking.empty_by_erasing.Goals as goal

pub put_unit-requires-clause-zms : goal.put_unit-requires-clause-zms
put_unit-requires-clause-zms g c = still_zms (g.F.Flash.device c.args.flash.now) (g.F.Flash.device c.erase_if.new.flash) c.args.area.now c.args.sector c.in_ok-erase_if.ensures.touches.banks c.requires.zms

pub put_unit-requires-clause-erased : goal.put_unit-requires-clause-erased
put_unit-requires-clause-erased g c = λ erasing.
    let size = size_is (g.F.Flash.device c.args.flash.now) c.args.area.now c.args.sector c.requires.zms (g.met.F.Flash.is_lawful c.args.flash.now) in
    let least = c.requires.zms.lawful.at_least in
    let due : not c.is_erased-is_used.result ≡ not (is_erased (sector_bytes (g.F.Flash.device c.args.flash.now) c.args.area.now c.args.sector)) = ap (λ (t : Bool). not t) (c.is_erased-is_used.ensures ∙ ap is_erased c.sector_view.ensures.bytes) in
    let blank = erased_mid (g.F.Flash.device c.args.flash.now) (g.F.Flash.device c.erase_if.new.flash) c.args.area.now c.args.sector (not c.is_erased-is_used.result) c.requires.zms size due c.in_ok-erase_if.ensures.erased in
    blank_can (sector_bytes (g.F.Flash.device c.args.flash.now) c.args.area.now c.args.sector) (sector_bytes (g.F.Flash.device c.erase_if.new.flash) c.args.area.now c.args.sector) (omega arith) blank

pub returns-in_err-erase_if-clause-others : goal.returns-in_err-erase_if-clause-others
returns-in_err-erase_if-clause-others g c = others_same (g.F.Flash.device c.args.flash.now) (g.F.Flash.device c.erase_if.new.flash) c.args.area.now c.args.sector c.in_err-erase_if.ensures.same

pub returns-in_err-erase_if-clause-lost : goal.returns-in_err-erase_if-clause-lost
returns-in_err-erase_if-clause-lost g c = on_err c.from_residual.result (stops_before (kind_on (g.F.Flash.device c.args.flash.now) c.args.area.now) (sector_bytes (g.F.Flash.device c.args.flash.now) c.args.area.now c.args.sector) (sector_bytes (g.F.Flash.device c.erase_if.new.flash) c.args.area.now c.args.sector) c.requires.kind (same_bytes (g.F.Flash.device c.args.flash.now) (g.F.Flash.device c.erase_if.new.flash) c.args.area.now c.args.sector c.in_err-erase_if.ensures.same))

pub returns-clause-others : goal.returns-clause-others
returns-clause-others g c = others_then (g.F.Flash.device c.args.flash.now) (g.F.Flash.device c.erase_if.new.flash) (g.F.Flash.device c.put_unit.new.flash) c.args.area.now c.args.sector (erased_others (g.F.Flash.device c.args.flash.now) (g.F.Flash.device c.erase_if.new.flash) c.args.area.now c.args.sector (not c.is_erased-is_used.result) c.requires.zms c.in_ok-erase_if.ensures.erased) c.put_unit.ensures.others

pub returns-clause-ok : goal.returns-clause-ok
returns-clause-ok g c =
    let size = size_is (g.F.Flash.device c.args.flash.now) c.args.area.now c.args.sector c.requires.zms (g.met.F.Flash.is_lawful c.args.flash.now) in
    let least = c.requires.zms.lawful.at_least in
    let due : not c.is_erased-is_used.result ≡ not (is_erased (sector_bytes (g.F.Flash.device c.args.flash.now) c.args.area.now c.args.sector)) = ap (λ (t : Bool). not t) (c.is_erased-is_used.ensures ∙ ap is_erased c.sector_view.ensures.bytes) in
    let blank = erased_mid (g.F.Flash.device c.args.flash.now) (g.F.Flash.device c.erase_if.new.flash) c.args.area.now c.args.sector (not c.is_erased-is_used.result) c.requires.zms size due c.in_ok-erase_if.ensures.erased in
    on_ok_weaker c.put_unit.result
    (emptied_blank (kind_on (g.F.Flash.device c.args.flash.now) c.args.area.now) (sector_bytes (g.F.Flash.device c.args.flash.now) c.args.area.now c.args.sector) (sector_bytes (g.F.Flash.device c.erase_if.new.flash) c.args.area.now c.args.sector) (sector_bytes (g.F.Flash.device c.put_unit.new.flash) c.args.area.now c.args.sector) c.args.cycle c.empty_entry.result c.encode_zentry.result c.requires.kind (omega arith) c.requires.cycle blank c.empty_entry.ensures c.encode_zentry.ensures)
    c.put_unit.ensures.ok

pub returns-clause-lost : goal.returns-clause-lost
returns-clause-lost g c =
    let size = size_is (g.F.Flash.device c.args.flash.now) c.args.area.now c.args.sector c.requires.zms (g.met.F.Flash.is_lawful c.args.flash.now) in
    let due : not c.is_erased-is_used.result ≡ not (is_erased (sector_bytes (g.F.Flash.device c.args.flash.now) c.args.area.now c.args.sector)) = ap (λ (t : Bool). not t) (c.is_erased-is_used.ensures ∙ ap is_erased c.sector_view.ensures.bytes) in
    let blank = erased_mid (g.F.Flash.device c.args.flash.now) (g.F.Flash.device c.erase_if.new.flash) c.args.area.now c.args.sector (not c.is_erased-is_used.result) c.requires.zms size due c.in_ok-erase_if.ensures.erased in
    on_err_weaker c.put_unit.result (λ same. stops_blank (kind_on (g.F.Flash.device c.args.flash.now) c.args.area.now) (sector_bytes (g.F.Flash.device c.args.flash.now) c.args.area.now c.args.sector) (sector_bytes (g.F.Flash.device c.erase_if.new.flash) c.args.area.now c.args.sector) (sector_bytes (g.F.Flash.device c.put_unit.new.flash) c.args.area.now c.args.sector) c.requires.kind blank (same_bytes (g.F.Flash.device c.erase_if.new.flash) (g.F.Flash.device c.put_unit.new.flash) c.args.area.now c.args.sector same)) c.put_unit.ensures.ends.lost

pub returns-clause-guards : goal.returns-clause-guards
returns-clause-guards g c =
    let due : not c.is_erased-is_used.result ≡ not (is_erased (sector_bytes (g.F.Flash.device c.args.flash.now) c.args.area.now c.args.sector)) = ap (λ (t : Bool). not t) (c.is_erased-is_used.ensures ∙ ap is_erased c.sector_view.ensures.bytes) in
    let all = emptying_erase (kind_on (g.F.Flash.device c.args.flash.now) c.args.area.now) (sector_bytes (g.F.Flash.device c.args.flash.now) c.args.area.now c.args.sector) (not c.is_erased-is_used.result) c.requires.kind due in
    on_ok_weaker c.put_unit.result (λ spends. between_within (between_then (between_exact (g.F.Flash.device c.args.flash.now) (g.F.Flash.device c.erase_if.new.flash) (cond (not c.is_erased-is_used.result) 1 0) c.in_ok-erase_if.ensures.units) spends) (emptying_units (g.F.Flash.device c.args.flash.now) c.args.area.now c.args.sector) (emptying_units (g.F.Flash.device c.args.flash.now) c.args.area.now c.args.sector) (omega arith) (omega arith)) c.put_unit.ensures.ends.spends

pub returns-clause-spends_lost : goal.returns-clause-spends_lost
returns-clause-spends_lost g c =
    let due : not c.is_erased-is_used.result ≡ not (is_erased (sector_bytes (g.F.Flash.device c.args.flash.now) c.args.area.now c.args.sector)) = ap (λ (t : Bool). not t) (c.is_erased-is_used.ensures ∙ ap is_erased c.sector_view.ensures.bytes) in
    let all = emptying_erase (kind_on (g.F.Flash.device c.args.flash.now) c.args.area.now) (sector_bytes (g.F.Flash.device c.args.flash.now) c.args.area.now c.args.sector) (not c.is_erased-is_used.result) c.requires.kind due in
    on_err_weaker c.put_unit.result (λ spends. between_within (between_then (between_exact (g.F.Flash.device c.args.flash.now) (g.F.Flash.device c.erase_if.new.flash) (cond (not c.is_erased-is_used.result) 1 0) c.in_ok-erase_if.ensures.units) spends) 0 (emptying_units (g.F.Flash.device c.args.flash.now) c.args.area.now c.args.sector - 1) (omega arith) (omega arith)) c.put_unit.ensures.ends.spends_lost

pub returns-in_err-erase_if-clause-spends_lost : goal.returns-in_err-erase_if-clause-spends_lost
returns-in_err-erase_if-clause-spends_lost g c =
    on_err c.from_residual.result (between_within (between_most (g.F.Flash.device c.args.flash.now) (g.F.Flash.device c.erase_if.new.flash) 0 c.in_err-erase_if.ensures.bound) 0 (emptying_units (g.F.Flash.device c.args.flash.now) c.args.area.now c.args.sector - 1) (omega arith) (omega arith))
