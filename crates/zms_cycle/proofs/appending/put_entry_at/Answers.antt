use Rattle.flash_map.proofs.Touches.{then}
use Rattle.flash_map.specs.Touches.{Touches}
use Rattle.std.proofs.Common.{rules, ℕ, ◌+◌, ◌/◌, List, length, Some, ap, ◌∙◌, arith, [], ◌∷◌, Bool, subst, sym}
use Rattle.std.proofs.lemmas.Result.{on_ok_weaker, on_err_weaker}
use Rattle.flash_map.specs.Area.{sector_bytes}
use Rattle.flash_map.proofs.PieceLemmas.{on_err, within_then, within_most}
use Rattle.flash_map.proofs.SpendingBounds.{between_then, between_within}
use Rattle.zms_cycle.specs.declared.entry.ZEntry.{ZEntry}
use Rattle.flash_sim.specs.declared.flash.Kind.{Kind}
use Rattle.zms_cycle.specs.Areas.{kind_on}
use Rattle.zms_cycle.specs.Changes.{guard_units}
use Rattle.zms_cycle.proofs.Frames.{data_len-aligned}
use Rattle.zms_cycle.specs.Sector.{slot_of, valid_slots, data_len, cost}
use Rattle.zms_cycle.proofs.AreaFacts.{same_kind, still_zms, others_then}
use Rattle.zms_cycle.proofs.PairCalls.{fits_room}
use Rattle.zms_cycle.proofs.EntryCalls.{ready, ready_fits, ready_aligned, ready_slots, ready_slot, ready_put, ready_next, ready_part, ready_cut, ready_value, ready_pair, ready_short}
use Rattle.zms_cycle.proofs.GuardUnits.{value_under, entry_guard}
use Rattle.flash_map.specs.declared.pieces.TheConstants.{PIECE}
use Rattle.zms_cycle.specs.declared.reading.TheConstants.{SLOT}
use Rattle.zms_cycle.proofs.StepBounds.{reads_none, reads_guard}
use Rattle.zms_cycle.proofs.appending.put_entry_at.Goals as goal

pub value_entry-entry-requires : goal.value_entry-entry-requires
value_entry-entry-requires g c =
    let r = ready (g.F.Flash.device c.args.flash.now) c.args.area.now c.args.sector c.args.opened.now.cycle c.args.opened.now.slots c.args.opened.now.data_end (data_len (length c.args.bytes.now)) c.requires.takes.zms (g.met.F.Flash.is_lawful c.args.flash.now) c.requires.takes.sound c.requires.opened.cycle c.requires.opened.slots c.requires.opened.data_end (fits_room (kind_on (g.F.Flash.device c.args.flash.now) c.args.area.now) (sector_bytes (g.F.Flash.device c.args.flash.now) c.args.area.now c.args.sector) (length c.args.bytes.now) c.requires.takes.room) in
    ready_short (g.F.Flash.device c.args.flash.now) c.args.area.now c.args.sector c.args.opened.now.cycle c.args.opened.now.slots c.args.opened.now.data_end c.args.bytes.now r

pub put_value-requires-clause-place : goal.put_value-requires-clause-place
put_value-requires-clause-place g c = record {
  fits =
      let r = ready (g.F.Flash.device c.args.flash.now) c.args.area.now c.args.sector c.args.opened.now.cycle c.args.opened.now.slots c.args.opened.now.data_end (data_len (length c.args.bytes.now)) c.requires.takes.zms (g.met.F.Flash.is_lawful c.args.flash.now) c.requires.takes.sound c.requires.opened.cycle c.requires.opened.slots c.requires.opened.data_end (fits_room (kind_on (g.F.Flash.device c.args.flash.now) c.args.area.now) (sector_bytes (g.F.Flash.device c.args.flash.now) c.args.area.now c.args.sector) (length c.args.bytes.now) c.requires.takes.room) in
      ready_fits (g.F.Flash.device c.args.flash.now) c.args.area.now c.args.sector c.args.opened.now.cycle c.args.opened.now.slots c.args.opened.now.data_end (data_len (length c.args.bytes.now)) r;
  aligned =
      let r = ready (g.F.Flash.device c.args.flash.now) c.args.area.now c.args.sector c.args.opened.now.cycle c.args.opened.now.slots c.args.opened.now.data_end (data_len (length c.args.bytes.now)) c.requires.takes.zms (g.met.F.Flash.is_lawful c.args.flash.now) c.requires.takes.sound c.requires.opened.cycle c.requires.opened.slots c.requires.opened.data_end (fits_room (kind_on (g.F.Flash.device c.args.flash.now) c.args.area.now) (sector_bytes (g.F.Flash.device c.args.flash.now) c.args.area.now c.args.sector) (length c.args.bytes.now) c.requires.takes.room) in
      ready_aligned (g.F.Flash.device c.args.flash.now) c.args.area.now c.args.sector c.args.opened.now.cycle c.args.opened.now.slots c.args.opened.now.data_end (data_len (length c.args.bytes.now)) r;
  erased =
      let r = ready (g.F.Flash.device c.args.flash.now) c.args.area.now c.args.sector c.args.opened.now.cycle c.args.opened.now.slots c.args.opened.now.data_end (data_len (length c.args.bytes.now)) c.requires.takes.zms (g.met.F.Flash.is_lawful c.args.flash.now) c.requires.takes.sound c.requires.opened.cycle c.requires.opened.slots c.requires.opened.data_end (fits_room (kind_on (g.F.Flash.device c.args.flash.now) c.args.area.now) (sector_bytes (g.F.Flash.device c.args.flash.now) c.args.area.now c.args.sector) (length c.args.bytes.now) c.requires.takes.room) in
      ready_put (g.F.Flash.device c.args.flash.now) c.args.area.now c.args.sector c.args.opened.now.cycle c.args.opened.now.slots c.args.opened.now.data_end (data_len (length c.args.bytes.now)) r;
}

pub overflow_add-opened : goal.overflow_add-opened
overflow_add-opened g c =
    let r = ready (g.F.Flash.device c.args.flash.now) c.args.area.now c.args.sector c.args.opened.now.cycle c.args.opened.now.slots c.args.opened.now.data_end (data_len (length c.args.bytes.now)) c.requires.takes.zms (g.met.F.Flash.is_lawful c.args.flash.now) c.requires.takes.sound c.requires.opened.cycle c.requires.opened.slots c.requires.opened.data_end (fits_room (kind_on (g.F.Flash.device c.args.flash.now) c.args.area.now) (sector_bytes (g.F.Flash.device c.args.flash.now) c.args.area.now c.args.sector) (length c.args.bytes.now) c.requires.takes.room) in
    let few = ready_slots (g.F.Flash.device c.args.flash.now) c.args.area.now c.args.sector c.args.opened.now.cycle c.args.opened.now.slots c.args.opened.now.data_end (data_len (length c.args.bytes.now)) r in omega arith

pub put_slot-requires-clause-zms : goal.put_slot-requires-clause-zms
put_slot-requires-clause-zms g c = still_zms (g.F.Flash.device c.args.flash.now) (g.F.Flash.device c.put_value.new.flash) c.args.area.now c.args.sector c.in_ok-put_value.ensures.touches.banks c.requires.takes.zms

pub put_slot-requires-clause-slot : goal.put_slot-requires-clause-slot
put_slot-requires-clause-slot g c =
    let r = ready (g.F.Flash.device c.args.flash.now) c.args.area.now c.args.sector c.args.opened.now.cycle c.args.opened.now.slots c.args.opened.now.data_end (data_len (length c.args.bytes.now)) c.requires.takes.zms (g.met.F.Flash.is_lawful c.args.flash.now) c.requires.takes.sound c.requires.opened.cycle c.requires.opened.slots c.requires.opened.data_end (fits_room (kind_on (g.F.Flash.device c.args.flash.now) c.args.area.now) (sector_bytes (g.F.Flash.device c.args.flash.now) c.args.area.now c.args.sector) (length c.args.bytes.now) c.requires.takes.room) in
    ready_slot (g.F.Flash.device c.args.flash.now) c.args.area.now c.args.sector c.args.opened.now.cycle c.args.opened.now.slots c.args.opened.now.data_end (data_len (length c.args.bytes.now)) r (g.F.Flash.device c.put_value.new.flash) c.in_ok-put_value.ensures.touches.banks

pub put_slot-requires-clause-erased : goal.put_slot-requires-clause-erased
put_slot-requires-clause-erased g c =
    let r = ready (g.F.Flash.device c.args.flash.now) c.args.area.now c.args.sector c.args.opened.now.cycle c.args.opened.now.slots c.args.opened.now.data_end (data_len (length c.args.bytes.now)) c.requires.takes.zms (g.met.F.Flash.is_lawful c.args.flash.now) c.requires.takes.sound c.requires.opened.cycle c.requires.opened.slots c.requires.opened.data_end (fits_room (kind_on (g.F.Flash.device c.args.flash.now) c.args.area.now) (sector_bytes (g.F.Flash.device c.args.flash.now) c.args.area.now c.args.sector) (length c.args.bytes.now) c.requires.takes.room) in
    ready_next (g.F.Flash.device c.args.flash.now) c.args.area.now c.args.sector c.args.opened.now.cycle c.args.opened.now.slots c.args.opened.now.data_end (data_len (length c.args.bytes.now)) r (g.F.Flash.device c.put_value.new.flash) c.in_ok-put_value.ensures.touches.banks
    (ready_value (g.F.Flash.device c.args.flash.now) c.args.area.now c.args.sector c.args.opened.now.cycle c.args.opened.now.slots c.args.opened.now.data_end c.args.bytes.now (sector_bytes (g.F.Flash.device c.put_value.new.flash) c.args.area.now c.args.sector) r c.in_ok-put_value.ensures.ok)

pub returns-in_err-put_value : goal.returns-in_err-put_value
returns-in_err-put_value g c = record {
  touches = subst (λ (t : Bool). Touches (c.args.area.now ∷ []) (g.F.Flash.device c.args.flash.now) (g.F.Flash.device c.put_value.new.flash) t) (sym c.from_residual.ensures.0) c.in_err-put_value.ensures.touches;
  others = c.in_err-put_value.ensures.others;
  ok = search rules;
  ends = record {
    lost =
        let r = ready (g.F.Flash.device c.args.flash.now) c.args.area.now c.args.sector c.args.opened.now.cycle c.args.opened.now.slots c.args.opened.now.data_end (data_len (length c.args.bytes.now)) c.requires.takes.zms (g.met.F.Flash.is_lawful c.args.flash.now) c.requires.takes.sound c.requires.opened.cycle c.requires.opened.slots c.requires.opened.data_end (fits_room (kind_on (g.F.Flash.device c.args.flash.now) c.args.area.now) (sector_bytes (g.F.Flash.device c.args.flash.now) c.args.area.now c.args.sector) (length c.args.bytes.now) c.requires.takes.room) in
        on_err c.from_residual.result (ready_part (g.F.Flash.device c.args.flash.now) c.args.area.now c.args.sector c.args.opened.now.cycle c.args.opened.now.slots c.args.opened.now.data_end (data_len (length c.args.bytes.now)) r (sector_bytes (g.F.Flash.device c.put_value.new.flash) c.args.area.now c.args.sector) (data_len-aligned (length c.args.bytes.now)) c.in_err-put_value.ensures.ends.lost);
    spends = search rules;
    guards = search rules;
    in_pieces = search rules;
    spends_lost = on_err c.from_residual.result (between_within c.in_err-put_value.ensures.ends.spends_lost 0 (cost (length c.args.bytes.now) / 16) (omega arith) (omega arith));
  };
  steps = reads_none (kind_on (g.F.Flash.device c.args.flash.now) c.args.area.now) c.args.steps.now;
}

pub returns : goal.returns
returns g c = record {
  touches = then c.in_ok-put_value.ensures.touches c.put_slot.ensures.touches;
  others = others_then (g.F.Flash.device c.args.flash.now) (g.F.Flash.device c.put_value.new.flash) (g.F.Flash.device c.put_slot.new.flash) c.args.area.now c.args.sector c.in_ok-put_value.ensures.others c.put_slot.ensures.others;
  ok =
      let r = ready (g.F.Flash.device c.args.flash.now) c.args.area.now c.args.sector c.args.opened.now.cycle c.args.opened.now.slots c.args.opened.now.data_end (data_len (length c.args.bytes.now)) c.requires.takes.zms (g.met.F.Flash.is_lawful c.args.flash.now) c.requires.takes.sound c.requires.opened.cycle c.requires.opened.slots c.requires.opened.data_end (fits_room (kind_on (g.F.Flash.device c.args.flash.now) c.args.area.now) (sector_bytes (g.F.Flash.device c.args.flash.now) c.args.area.now c.args.sector) (length c.args.bytes.now) c.requires.takes.room) in
      on_ok_weaker c.put_slot.result (ready_pair (g.F.Flash.device c.args.flash.now) c.args.area.now c.args.sector c.args.opened.now.cycle c.args.opened.now.slots c.args.opened.now.data_end c.args.id c.args.bytes.now (sector_bytes (g.F.Flash.device c.put_value.new.flash) c.args.area.now c.args.sector) (sector_bytes (g.F.Flash.device c.put_slot.new.flash) c.args.area.now c.args.sector) c.value_entry-entry.result (kind_on (g.F.Flash.device c.put_value.new.flash) c.args.area.now) (same_kind (g.F.Flash.device c.args.flash.now) (g.F.Flash.device c.put_value.new.flash) c.args.area.now c.in_ok-put_value.ensures.touches.banks) r c.requires.takes.ordinary c.in_ok-put_value.ensures.ok c.value_entry-entry.ensures) c.put_slot.ensures.ok;
  ends = record {
    lost =
        let r = ready (g.F.Flash.device c.args.flash.now) c.args.area.now c.args.sector c.args.opened.now.cycle c.args.opened.now.slots c.args.opened.now.data_end (data_len (length c.args.bytes.now)) c.requires.takes.zms (g.met.F.Flash.is_lawful c.args.flash.now) c.requires.takes.sound c.requires.opened.cycle c.requires.opened.slots c.requires.opened.data_end (fits_room (kind_on (g.F.Flash.device c.args.flash.now) c.args.area.now) (sector_bytes (g.F.Flash.device c.args.flash.now) c.args.area.now c.args.sector) (length c.args.bytes.now) c.requires.takes.room) in
        on_err_weaker c.put_slot.result (ready_cut (g.F.Flash.device c.args.flash.now) c.args.area.now c.args.sector c.args.opened.now.cycle c.args.opened.now.slots c.args.opened.now.data_end (data_len (length c.args.bytes.now)) r (sector_bytes (g.F.Flash.device c.put_value.new.flash) c.args.area.now c.args.sector) (sector_bytes (g.F.Flash.device c.put_slot.new.flash) c.args.area.now c.args.sector) c.value_entry-entry.result (kind_on (g.F.Flash.device c.put_value.new.flash) c.args.area.now) (same_kind (g.F.Flash.device c.args.flash.now) (g.F.Flash.device c.put_value.new.flash) c.args.area.now c.in_ok-put_value.ensures.touches.banks) (ap (λ (e : ZEntry). e.cycle) c.value_entry-entry.ensures) (ready_value (g.F.Flash.device c.args.flash.now) c.args.area.now c.args.sector c.args.opened.now.cycle c.args.opened.now.slots c.args.opened.now.data_end c.args.bytes.now (sector_bytes (g.F.Flash.device c.put_value.new.flash) c.args.area.now c.args.sector) r c.in_ok-put_value.ensures.ok)) c.put_slot.ensures.lost;
    spends = on_ok_weaker c.put_slot.result (λ spends. between_within (between_then c.in_ok-put_value.ensures.ends.spends spends) (cost (length c.args.bytes.now) / 16) (cost (length c.args.bytes.now) / 16 + 1) (omega arith) (omega arith)) c.put_slot.ensures.spends;
    guards =
        let r = ready (g.F.Flash.device c.args.flash.now) c.args.area.now c.args.sector c.args.opened.now.cycle c.args.opened.now.slots c.args.opened.now.data_end (data_len (length c.args.bytes.now)) c.requires.takes.zms (g.met.F.Flash.is_lawful c.args.flash.now) c.requires.takes.sound c.requires.opened.cycle c.requires.opened.slots c.requires.opened.data_end (fits_room (kind_on (g.F.Flash.device c.args.flash.now) c.args.area.now) (sector_bytes (g.F.Flash.device c.args.flash.now) c.args.area.now c.args.sector) (length c.args.bytes.now) c.requires.takes.room) in
        let same = ap (λ (b : List ℕ). slot_of b (length (valid_slots (sector_bytes (g.F.Flash.device c.args.flash.now) c.args.area.now c.args.sector)) + 2 + 1)) c.in_ok-put_value.ensures.ok ∙ value_under (kind_on (g.F.Flash.device c.args.flash.now) c.args.area.now) (sector_bytes (g.F.Flash.device c.args.flash.now) c.args.area.now c.args.sector) c.args.bytes.now c.args.opened.now.data_end r.end_is r.fits in
        let due = ap (λ (k : Kind). guard_units k (Some c.value_entry-entry.result.cycle) (c.args.opened.now.slots + 2 + 1) (sector_bytes (g.F.Flash.device c.put_value.new.flash) c.args.area.now c.args.sector)) (same_kind (g.F.Flash.device c.args.flash.now) (g.F.Flash.device c.put_value.new.flash) c.args.area.now c.in_ok-put_value.ensures.touches.banks)
        ∙ entry_guard (g.F.Flash.device c.args.flash.now) c.args.area.now c.args.sector c.args.opened.now.cycle c.args.opened.now.slots c.args.opened.now.data_end (data_len (length c.args.bytes.now)) c.value_entry-entry.result.cycle (sector_bytes (g.F.Flash.device c.put_value.new.flash) c.args.area.now c.args.sector) r (ap (λ (e : ZEntry). e.cycle) c.value_entry-entry.ensures) same in
        on_ok_weaker c.put_slot.result (λ spends. between_within (between_then c.in_ok-put_value.ensures.ends.spends spends) _ _ (omega arith) (omega arith)) c.put_slot.ensures.guards;
    in_pieces =
        let m = g.F.Flash.device c.put_value.new.flash in
        let last = g.F.Flash.device c.put_slot.new.flash in
        on_err_weaker c.put_slot.result (λ within. within_then PIECE (g.F.Flash.device c.args.flash.now) m last (c.args.area.now ∷ []) c.in_ok-put_value.ensures.touches (within_most SLOT PIECE m last (omega arith) within)) c.put_slot.ensures.in_pieces;
    spends_lost = on_err_weaker c.put_slot.result (λ spends. between_within (between_then c.in_ok-put_value.ensures.ends.spends spends) 0 (cost (length c.args.bytes.now) / 16) (omega arith) (omega arith)) c.put_slot.ensures.spends_lost;
  };
  steps =
      reads_guard (kind_on (g.F.Flash.device c.args.flash.now) c.args.area.now) (kind_on (g.F.Flash.device c.put_value.new.flash) c.args.area.now) c.args.steps.now c.put_slot.new.steps
      (same_kind (g.F.Flash.device c.args.flash.now) (g.F.Flash.device c.put_value.new.flash) c.args.area.now c.in_ok-put_value.ensures.touches.banks) c.put_slot.ensures.steps;
}

pub put_value-requires-clause-zms : goal.put_value-requires-clause-zms
put_value-requires-clause-zms g c = c.requires.takes.zms
