use Rattle.std.proofs.Common.{◌≡◌, ◌≤◌, ◌+◌, ◌-◌, ◌*◌}
use Rattle.flash_map.proofs.Touches.{untouched}
use Rattle.std.proofs.Common.{length, sym, ap, ◌∙◌, arith, refl, ◌∷◌, []}
use Rattle.std.proofs.lemmas.Result.{on_ok_weaker}
use Rattle.std.proofs.lemmas.Slice.Eq.{bytes_eq-Decides}
use Rattle.std.specs.Prelude.{List, ℕ}
use Rattle.flash_map.specs.Area.{sector_bytes}
use Rattle.flash_map.proofs.SpendingBounds.{between_none, between_within}
use Rattle.zms_cycle.specs.Entries.{fill}
use Rattle.zms_cycle.specs.Changes.{with_slot}
use Rattle.zms_cycle.proofs.AreaFacts.{size_is, never_erasing, others_same}
use Rattle.zms_cycle.proofs.Bytes.{length-fill}
use Rattle.zms_cycle.proofs.CloseCalls.{unit_again}
use Rattle.zms_cycle.proofs.marking.fill_slot.Goals as goal

view-in : (start slot size : ℕ) → start ≡ size - (slot + 1) * 16 → (slot + 1) * 16 ≤ size → start + 16 ≤ size
view-in start slot size is inside = omega arith

pub returns-then-is_filled-clause-ok : goal.returns-then-is_filled-clause-ok
returns-then-is_filled-clause-ok g c =
    let size = size_is (g.F.Flash.device c.args.flash.now) c.args.area.now c.args.sector c.requires.zms (g.met.F.Flash.is_lawful c.args.flash.now) in
    let same = (bytes_eq-Decides c.area_view.result.now c.as_slice.result.now).0 (sym c.eq-is_filled.ensures ∙ c.if-is_filled.true) in
    unit_again (sector_bytes (g.F.Flash.device c.args.flash.now) c.args.area.now c.args.sector) c.args.slot c.slot_start-start.result fill (omega (arith, size, c.slot_start-start.ensures)) (let inside = c.requires.slot in omega (arith, size, inside)) (sym c.area_view.ensures.bytes ∙ same ∙ c.as_slice.ensures ∙ c.fill_unit-unit.ensures)

pub returns-then-is_filled-clause-spends : goal.returns-then-is_filled-clause-spends
returns-then-is_filled-clause-spends g c = between_within (between_none (g.F.Flash.device c.args.flash.now)) 0 1 (omega arith) (omega arith)

pub put_unit-requires-clause-unit : goal.put_unit-requires-clause-unit
put_unit-requires-clause-unit g c = ap length c.fill_unit-unit.ensures ∙ length-fill

pub put_unit-requires-clause-erased : goal.put_unit-requires-clause-erased
put_unit-requires-clause-erased g c = λ erasing. absurd (never_erasing c.requires.kind erasing)

pub returns-clause-ok : goal.returns-clause-ok
returns-clause-ok g c = on_ok_weaker c.put_unit.result (λ is. is ∙ ap (λ (bytes : List ℕ). with_slot (sector_bytes (g.F.Flash.device c.args.flash.now) c.args.area.now c.args.sector) c.args.slot bytes) c.fill_unit-unit.ensures) c.put_unit.ensures.ok

pub returns-clause-spends : goal.returns-clause-spends
returns-clause-spends g c = on_ok_weaker c.put_unit.result (λ spends. between_within spends 0 1 (omega arith) (omega arith)) c.put_unit.ensures.ends.spends

pub slot_start-start-requires-clause-lawful : goal.slot_start-start-requires-clause-lawful
slot_start-start-requires-clause-lawful g c = c.requires.zms.lawful.in_bank

pub slot_start-start-requires-clause-slot : goal.slot_start-start-requires-clause-slot
slot_start-start-requires-clause-slot g c = c.requires.slot

pub area_view-requires-clause-lawful : goal.area_view-requires-clause-lawful
area_view-requires-clause-lawful g c = c.requires.zms.lawful.in_bank

pub area_view-requires-clause-has_sector : goal.area_view-requires-clause-has_sector
area_view-requires-clause-has_sector g c = c.requires.zms.has_sector

pub area_view-requires-clause-in_sector : goal.area_view-requires-clause-in_sector
area_view-requires-clause-in_sector g c = view-in c.slot_start-start.result c.args.slot _ c.slot_start-start.ensures c.requires.slot

pub returns-then-is_filled-clause-touches : goal.returns-then-is_filled-clause-touches
returns-then-is_filled-clause-touches g c = untouched (c.args.area.now ∷ []) (g.F.Flash.device c.args.flash.now)

pub returns-then-is_filled-clause-others : goal.returns-then-is_filled-clause-others
returns-then-is_filled-clause-others g c =
    let d = g.F.Flash.device c.args.flash.now in
    others_same d d c.args.area.now c.args.sector refl

pub returns-then-is_filled-clause-lost : goal.returns-then-is_filled-clause-lost
returns-then-is_filled-clause-lost g c = tt

pub returns-then-is_filled-clause-spends_lost : goal.returns-then-is_filled-clause-spends_lost
returns-then-is_filled-clause-spends_lost g c = tt

pub returns-then-is_filled-clause-step : goal.returns-then-is_filled-clause-step
returns-then-is_filled-clause-step g c = c.area_view.ensures.step

pub put_unit-requires-clause-zms : goal.put_unit-requires-clause-zms
put_unit-requires-clause-zms g c = c.requires.zms

pub put_unit-requires-clause-slot : goal.put_unit-requires-clause-slot
put_unit-requires-clause-slot g c = c.requires.slot

pub returns-clause-touches : goal.returns-clause-touches
returns-clause-touches g c = c.put_unit.ensures.touches

pub returns-clause-others : goal.returns-clause-others
returns-clause-others g c = c.put_unit.ensures.others

pub returns-clause-lost : goal.returns-clause-lost
returns-clause-lost g c = c.put_unit.ensures.ends.lost

pub returns-clause-spends_lost : goal.returns-clause-spends_lost
returns-clause-spends_lost g c = c.put_unit.ensures.ends.spends_lost

pub returns-clause-step : goal.returns-clause-step
returns-clause-step g c = c.area_view.ensures.step
