use Rattle.std.proofs.Common.{rules, ◌≡◌, ℕ, List, Some, sym, ap, ◌∙◌, arith}
use Rattle.std.proofs.lemmas.Result.{on_ok_weaker}
use Rattle.flash_sim.specs.declared.flash.Kind.TheVariants.{Erasing, Rewritable}
use Rattle.flash_map.specs.Area.{sector_bytes}
use Rattle.flash_map.specs.declared.area.Geometry.{Geometry}
use Rattle.flash_map.proofs.SpendingBounds.{between_none}
use Rattle.item_laws.proofs.SlotLemmas.{bytes-slot_at}
use Rattle.zms_cycle.specs.Areas.{kind_on}
use Rattle.zms_cycle.specs.Sector.{slot_of, is_valid_under}
use Rattle.zms_cycle.specs.Changes.{with_slot, guard_units}
use Rattle.zms_cycle.proofs.AreaFacts.{size_is, never_erasing}
use Rattle.zms_cycle.proofs.Slots16.{slot-filled}
use Rattle.zms_cycle.proofs.UnitCalls.{valid_read, guarded-valid, guarded-other, guarded-erasing, units-valid, units-other, units-erasing, spends_just, few_units}
use Rattle.zms_cycle.proofs.guarding.guard.Goals as goal

pub put_unit-requires-clause-erased : goal.put_unit-requires-clause-erased
put_unit-requires-clause-erased g c =
    let kind : kind_on (g.F.Flash.device c.args.flash.now) c.args.area.now ≡ Rewritable = sym (ap (λ (shape : Geometry). shape.kind) c.geometry.ensures) ∙ c.in-Rewritable.is in
    λ erasing. absurd (never_erasing kind erasing)

pub returns-then-is_of_cycle-clause-ok : goal.returns-then-is_of_cycle-clause-ok
returns-then-is_of_cycle-clause-ok g c =
    let kind : kind_on (g.F.Flash.device c.args.flash.now) c.args.area.now ≡ Rewritable = sym (ap (λ (shape : Geometry). shape.kind) c.geometry.ensures) ∙ c.in-Rewritable.is in
    let size = size_is (g.F.Flash.device c.args.flash.now) c.args.area.now c.args.sector c.requires.zms (g.met.F.Flash.is_lawful c.args.flash.now) in
    let valid = valid_read c.args.cycle (sector_bytes (g.F.Flash.device c.args.flash.now) c.args.area.now c.args.sector) c.args.slot c.area_view.result.now c.decode_zentry-entry.result c.is_of_cycle.result c.decode_zentry-entry.ensures (c.area_view.ensures.bytes ∙ bytes-slot_at 16 (sector_bytes (g.F.Flash.device c.args.flash.now) c.args.area.now c.args.sector) c.args.slot c.slot_start-start.result (omega (arith, size, c.slot_start-start.ensures))) c.is_of_cycle.ensures in
    on_ok_weaker c.put_unit.result (λ written. written ∙ ap (λ (bytes : List ℕ). with_slot (sector_bytes (g.F.Flash.device c.args.flash.now) c.args.area.now c.args.sector) c.args.slot bytes) c.fill_unit.ensures ∙ guarded-valid (kind_on (g.F.Flash.device c.args.flash.now) c.args.area.now) c.args.cycle c.args.slot (sector_bytes (g.F.Flash.device c.args.flash.now) c.args.area.now c.args.sector) kind (valid ∙ c.if-is_of_cycle.true)) c.put_unit.ensures.ok

pub returns-then-is_of_cycle-clause-not_valid : goal.returns-then-is_of_cycle-clause-not_valid
returns-then-is_of_cycle-clause-not_valid g c = λ rewritable.
    let size = size_is (g.F.Flash.device c.args.flash.now) c.args.area.now c.args.sector c.requires.zms (g.met.F.Flash.is_lawful c.args.flash.now) in
    on_ok_weaker c.put_unit.result (λ written. ap (λ (b : List ℕ). is_valid_under c.args.cycle (slot_of b c.args.slot)) (written ∙ ap (λ (bytes : List ℕ). with_slot (sector_bytes (g.F.Flash.device c.args.flash.now) c.args.area.now c.args.sector) c.args.slot bytes) c.fill_unit.ensures) ∙ slot-filled c.args.cycle (sector_bytes (g.F.Flash.device c.args.flash.now) c.args.area.now c.args.sector) c.args.slot (let inside = c.requires.slot in omega (arith, size, inside))) c.put_unit.ensures.ok

pub returns-then-is_of_cycle-clause-idle : goal.returns-then-is_of_cycle-clause-idle
returns-then-is_of_cycle-clause-idle g c =
    let kind : kind_on (g.F.Flash.device c.args.flash.now) c.args.area.now ≡ Rewritable = sym (ap (λ (shape : Geometry). shape.kind) c.geometry.ensures) ∙ c.in-Rewritable.is in
    λ erasing. absurd (never_erasing kind erasing)

pub returns-then-is_of_cycle-clause-steps : goal.returns-then-is_of_cycle-clause-steps
returns-then-is_of_cycle-clause-steps g c = record {
  step = search rules;
  no_step =
      let kind : kind_on (g.F.Flash.device c.args.flash.now) c.args.area.now ≡ Rewritable = sym (ap (λ (shape : Geometry). shape.kind) c.geometry.ensures) ∙ c.in-Rewritable.is in
      λ erasing. absurd (never_erasing kind erasing);
}

pub returns-then-is_of_cycle-clause-ends : goal.returns-then-is_of_cycle-clause-ends
returns-then-is_of_cycle-clause-ends g c = record {
  few = few_units (kind_on (g.F.Flash.device c.args.flash.now) c.args.area.now) (Some c.args.cycle) c.args.slot (sector_bytes (g.F.Flash.device c.args.flash.now) c.args.area.now c.args.sector);
  lost = c.put_unit.ensures.ends.lost;
  spends =
      let kind : kind_on (g.F.Flash.device c.args.flash.now) c.args.area.now ≡ Rewritable = sym (ap (λ (shape : Geometry). shape.kind) c.geometry.ensures) ∙ c.in-Rewritable.is in
      let size = size_is (g.F.Flash.device c.args.flash.now) c.args.area.now c.args.sector c.requires.zms (g.met.F.Flash.is_lawful c.args.flash.now) in
      let valid = valid_read c.args.cycle (sector_bytes (g.F.Flash.device c.args.flash.now) c.args.area.now c.args.sector) c.args.slot c.area_view.result.now c.decode_zentry-entry.result c.is_of_cycle.result c.decode_zentry-entry.ensures (c.area_view.ensures.bytes ∙ bytes-slot_at 16 (sector_bytes (g.F.Flash.device c.args.flash.now) c.args.area.now c.args.sector) c.args.slot c.slot_start-start.result (omega (arith, size, c.slot_start-start.ensures))) c.is_of_cycle.ensures in
      on_ok_weaker c.put_unit.result (λ spends. spends_just (g.F.Flash.device c.args.flash.now) (g.F.Flash.device c.put_unit.new.flash) (guard_units (kind_on (g.F.Flash.device c.args.flash.now) c.args.area.now) (Some c.args.cycle) c.args.slot (sector_bytes (g.F.Flash.device c.args.flash.now) c.args.area.now c.args.sector)) 1 (units-valid (kind_on (g.F.Flash.device c.args.flash.now) c.args.area.now) c.args.cycle c.args.slot (sector_bytes (g.F.Flash.device c.args.flash.now) c.args.area.now c.args.sector) kind (valid ∙ c.if-is_of_cycle.true)) spends) c.put_unit.ensures.ends.spends;
  in_pieces = c.put_unit.ensures.ends.in_pieces;
  spends_lost = c.put_unit.ensures.ends.spends_lost;
}

pub returns-in-Erasing-clause-ok : goal.returns-in-Erasing-clause-ok
returns-in-Erasing-clause-ok g c =
    let kind : kind_on (g.F.Flash.device c.args.flash.now) c.args.area.now ≡ Erasing = sym (ap (λ (shape : Geometry). shape.kind) c.geometry.ensures) ∙ c.in-Erasing.is in
    guarded-erasing (kind_on (g.F.Flash.device c.args.flash.now) c.args.area.now) c.args.cycle c.args.slot (sector_bytes (g.F.Flash.device c.args.flash.now) c.args.area.now c.args.sector) kind

pub returns-in-Erasing-clause-not_valid : goal.returns-in-Erasing-clause-not_valid
returns-in-Erasing-clause-not_valid g c =
    let kind : kind_on (g.F.Flash.device c.args.flash.now) c.args.area.now ≡ Erasing = sym (ap (λ (shape : Geometry). shape.kind) c.geometry.ensures) ∙ c.in-Erasing.is in
    λ rewritable. absurd (never_erasing rewritable kind)

pub returns-in-Erasing-clause-ends : goal.returns-in-Erasing-clause-ends
returns-in-Erasing-clause-ends g c = record {
  few = few_units (kind_on (g.F.Flash.device c.args.flash.now) c.args.area.now) (Some c.args.cycle) c.args.slot (sector_bytes (g.F.Flash.device c.args.flash.now) c.args.area.now c.args.sector);
  lost = tt;
  spends =
      let kind : kind_on (g.F.Flash.device c.args.flash.now) c.args.area.now ≡ Erasing = sym (ap (λ (shape : Geometry). shape.kind) c.geometry.ensures) ∙ c.in-Erasing.is in
      spends_just (g.F.Flash.device c.args.flash.now) (g.F.Flash.device c.args.flash.now) (guard_units (kind_on (g.F.Flash.device c.args.flash.now) c.args.area.now) (Some c.args.cycle) c.args.slot (sector_bytes (g.F.Flash.device c.args.flash.now) c.args.area.now c.args.sector)) 0 (units-erasing (kind_on (g.F.Flash.device c.args.flash.now) c.args.area.now) c.args.cycle c.args.slot (sector_bytes (g.F.Flash.device c.args.flash.now) c.args.area.now c.args.sector) kind) (between_none (g.F.Flash.device c.args.flash.now));
  in_pieces = tt;
  spends_lost = tt;
}

pub returns-in-Erasing-clause-steps : goal.returns-in-Erasing-clause-steps
returns-in-Erasing-clause-steps g c = record {
  step =
      let kind : kind_on (g.F.Flash.device c.args.flash.now) c.args.area.now ≡ Erasing = sym (ap (λ (shape : Geometry). shape.kind) c.geometry.ensures) ∙ c.in-Erasing.is in
      λ rewritable. absurd (never_erasing rewritable kind);
  no_step = search rules;
}

pub returns-else-is_of_cycle-clause-ok : goal.returns-else-is_of_cycle-clause-ok
returns-else-is_of_cycle-clause-ok g c =
    let kind : kind_on (g.F.Flash.device c.args.flash.now) c.args.area.now ≡ Rewritable = sym (ap (λ (shape : Geometry). shape.kind) c.geometry.ensures) ∙ c.in-Rewritable.is in
    let size = size_is (g.F.Flash.device c.args.flash.now) c.args.area.now c.args.sector c.requires.zms (g.met.F.Flash.is_lawful c.args.flash.now) in
    let valid = valid_read c.args.cycle (sector_bytes (g.F.Flash.device c.args.flash.now) c.args.area.now c.args.sector) c.args.slot c.area_view.result.now c.decode_zentry-entry.result c.is_of_cycle.result c.decode_zentry-entry.ensures (c.area_view.ensures.bytes ∙ bytes-slot_at 16 (sector_bytes (g.F.Flash.device c.args.flash.now) c.args.area.now c.args.sector) c.args.slot c.slot_start-start.result (omega (arith, size, c.slot_start-start.ensures))) c.is_of_cycle.ensures in
    guarded-other (kind_on (g.F.Flash.device c.args.flash.now) c.args.area.now) c.args.cycle c.args.slot (sector_bytes (g.F.Flash.device c.args.flash.now) c.args.area.now c.args.sector) kind (valid ∙ c.if-is_of_cycle.false)

pub returns-else-is_of_cycle-clause-not_valid : goal.returns-else-is_of_cycle-clause-not_valid
returns-else-is_of_cycle-clause-not_valid g c = λ rewritable.
    let size = size_is (g.F.Flash.device c.args.flash.now) c.args.area.now c.args.sector c.requires.zms (g.met.F.Flash.is_lawful c.args.flash.now) in
    let valid = valid_read c.args.cycle (sector_bytes (g.F.Flash.device c.args.flash.now) c.args.area.now c.args.sector) c.args.slot c.area_view.result.now c.decode_zentry-entry.result c.is_of_cycle.result c.decode_zentry-entry.ensures (c.area_view.ensures.bytes ∙ bytes-slot_at 16 (sector_bytes (g.F.Flash.device c.args.flash.now) c.args.area.now c.args.sector) c.args.slot c.slot_start-start.result (omega (arith, size, c.slot_start-start.ensures))) c.is_of_cycle.ensures in
    valid ∙ c.if-is_of_cycle.false

pub returns-else-is_of_cycle-clause-steps : goal.returns-else-is_of_cycle-clause-steps
returns-else-is_of_cycle-clause-steps g c = record {
  step = search rules;
  no_step =
      let kind : kind_on (g.F.Flash.device c.args.flash.now) c.args.area.now ≡ Rewritable = sym (ap (λ (shape : Geometry). shape.kind) c.geometry.ensures) ∙ c.in-Rewritable.is in
      λ erasing. absurd (never_erasing kind erasing);
}

pub returns-else-is_of_cycle-clause-ends : goal.returns-else-is_of_cycle-clause-ends
returns-else-is_of_cycle-clause-ends g c = record {
  few = few_units (kind_on (g.F.Flash.device c.args.flash.now) c.args.area.now) (Some c.args.cycle) c.args.slot (sector_bytes (g.F.Flash.device c.args.flash.now) c.args.area.now c.args.sector);
  lost = tt;
  spends =
      let kind : kind_on (g.F.Flash.device c.args.flash.now) c.args.area.now ≡ Rewritable = sym (ap (λ (shape : Geometry). shape.kind) c.geometry.ensures) ∙ c.in-Rewritable.is in
      let size = size_is (g.F.Flash.device c.args.flash.now) c.args.area.now c.args.sector c.requires.zms (g.met.F.Flash.is_lawful c.args.flash.now) in
      let valid = valid_read c.args.cycle (sector_bytes (g.F.Flash.device c.args.flash.now) c.args.area.now c.args.sector) c.args.slot c.area_view.result.now c.decode_zentry-entry.result c.is_of_cycle.result c.decode_zentry-entry.ensures (c.area_view.ensures.bytes ∙ bytes-slot_at 16 (sector_bytes (g.F.Flash.device c.args.flash.now) c.args.area.now c.args.sector) c.args.slot c.slot_start-start.result (omega (arith, size, c.slot_start-start.ensures))) c.is_of_cycle.ensures in
      spends_just (g.F.Flash.device c.args.flash.now) (g.F.Flash.device c.args.flash.now) (guard_units (kind_on (g.F.Flash.device c.args.flash.now) c.args.area.now) (Some c.args.cycle) c.args.slot (sector_bytes (g.F.Flash.device c.args.flash.now) c.args.area.now c.args.sector)) 0 (units-other (kind_on (g.F.Flash.device c.args.flash.now) c.args.area.now) c.args.cycle c.args.slot (sector_bytes (g.F.Flash.device c.args.flash.now) c.args.area.now c.args.sector) kind (valid ∙ c.if-is_of_cycle.false)) (between_none (g.F.Flash.device c.args.flash.now));
  in_pieces = tt;
  spends_lost = tt;
}
