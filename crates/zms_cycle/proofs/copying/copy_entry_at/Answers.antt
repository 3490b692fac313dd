use Rattle.flash_map.proofs.Touches.{then}
use Rattle.flash_map.specs.Touches.{Touches}
use Rattle.std.proofs.Common.{rules, ℕ, ◌+◌, ◌/◌, List, length, Some, sym, ap, subst, ◌∙◌, arith, [], ◌∷◌, Bool}
use Rattle.std.proofs.lemmas.Result.{on_ok_weaker, on_err_weaker}
use Rattle.flash_map.specs.Area.{sector_bytes}
use Rattle.flash_map.specs.Copies.{TakesViews}
use Rattle.flash_map.proofs.PieceLemmas.{on_err, within_then, within_most}
use Rattle.flash_map.proofs.SpendingBounds.{between_then, between_within}
use Rattle.zms_cycle.specs.declared.entry.ZEntry.{ZEntry}
use Rattle.flash_sim.specs.declared.flash.Kind.{Kind}
use Rattle.zms_cycle.specs.Areas.{kind_on, CanPutAt}
use Rattle.zms_cycle.specs.OnArea.{copy_views}
use Rattle.zms_cycle.specs.Changes.{HasPart, KeepsList, left_over, guard_units, AddsPair}
use Rattle.zms_cycle.specs.Sector.{valid_slots, data_len, cost, value_of, slot_of, entry_len}
use Rattle.zms_cycle.proofs.AreaFacts.{size_is, same_kind, still_zms, others_then}
use Rattle.zms_cycle.proofs.Frames.{sound-parts, data_len-aligned}
use Rattle.zms_cycle.proofs.CopyCalls.{copied, moved_is, ordinary_id}
use Rattle.zms_cycle.proofs.EntryCalls.{ready, ready_fits, ready_aligned, ready_slots, ready_slot, ready_put, ready_next, ready_part, ready_cut, ready_value, ready_pair}
use Rattle.zms_cycle.proofs.GuardUnits.{value_under, entry_guard}
use Rattle.flash_map.specs.declared.copies.TheConstants.{COPY_PIECE}
use Rattle.zms_cycle.specs.declared.reading.TheConstants.{SLOT}
use Rattle.zms_cycle.proofs.StepBounds.{copy_stops, copy_viewed}
use Rattle.zms_cycle.proofs.copying.copy_entry_at.Goals as goal

pub ordinary_entry-from-requires-clause-slot : goal.ordinary_entry-from-requires-clause-slot
ordinary_entry-from-requires-clause-slot g c =
    let size = size_is (g.F.Flash.device c.args.flash.now) c.args.area.now c.args.from_sector c.requires.takes.source.from_zms (g.met.F.Flash.is_lawful c.args.flash.now) in
    let guard = (sound-parts (sector_bytes (g.F.Flash.device c.args.flash.now) c.args.area.now c.args.from_sector) c.requires.takes.source.from_sound).guard in
    let listed = c.requires.takes.source.listed in
    omega (arith, size, guard, listed)

pub copy_value-requires-clause-len : goal.copy_value-requires-clause-len
copy_value-requires-clause-len g c =
    let copy = copied (sector_bytes (g.F.Flash.device c.args.flash.now) c.args.area.now c.args.from_sector) c.args.from_slot c.ordinary_entry-from.result c.requires.takes.source.from_sound c.requires.takes.source.from c.requires.takes.source.listed (omega arith) c.ordinary_entry-from.ensures.entry in
    copy.len

pub copy_value-requires-clause-place : goal.copy_value-requires-clause-place
copy_value-requires-clause-place g c = record {
  fits =
      let copy = copied (sector_bytes (g.F.Flash.device c.args.flash.now) c.args.area.now c.args.from_sector) c.args.from_slot c.ordinary_entry-from.result c.requires.takes.source.from_sound c.requires.takes.source.from c.requires.takes.source.listed (omega arith) c.ordinary_entry-from.ensures.entry in
      let same = ap data_len (copy.len ∙ sym copy.listed_len) in
      let room = c.requires.takes.room in
      let r = ready (g.F.Flash.device c.args.flash.now) c.args.area.now c.args.sector c.args.opened.now.cycle c.args.opened.now.slots c.args.opened.now.data_end (data_len (length (value_of (sector_bytes (g.F.Flash.device c.args.flash.now) c.args.area.now c.args.from_sector) c.ordinary_entry-from.result))) c.requires.takes.zms (g.met.F.Flash.is_lawful c.args.flash.now) c.requires.takes.sound c.requires.opened.cycle c.requires.opened.slots c.requires.opened.data_end (omega (arith, room, same)) in
      let fits = ready_fits (g.F.Flash.device c.args.flash.now) c.args.area.now c.args.sector c.args.opened.now.cycle c.args.opened.now.slots c.args.opened.now.data_end (data_len (length (value_of (sector_bytes (g.F.Flash.device c.args.flash.now) c.args.area.now c.args.from_sector) c.ordinary_entry-from.result))) r in let len = ap data_len copy.len in omega (arith, fits, len);
  aligned =
      let copy = copied (sector_bytes (g.F.Flash.device c.args.flash.now) c.args.area.now c.args.from_sector) c.args.from_slot c.ordinary_entry-from.result c.requires.takes.source.from_sound c.requires.takes.source.from c.requires.takes.source.listed (omega arith) c.ordinary_entry-from.ensures.entry in
      let same = ap data_len (copy.len ∙ sym copy.listed_len) in
      let room = c.requires.takes.room in
      let r = ready (g.F.Flash.device c.args.flash.now) c.args.area.now c.args.sector c.args.opened.now.cycle c.args.opened.now.slots c.args.opened.now.data_end (data_len (length (value_of (sector_bytes (g.F.Flash.device c.args.flash.now) c.args.area.now c.args.from_sector) c.ordinary_entry-from.result))) c.requires.takes.zms (g.met.F.Flash.is_lawful c.args.flash.now) c.requires.takes.sound c.requires.opened.cycle c.requires.opened.slots c.requires.opened.data_end (omega (arith, room, same)) in
      ready_aligned (g.F.Flash.device c.args.flash.now) c.args.area.now c.args.sector c.args.opened.now.cycle c.args.opened.now.slots c.args.opened.now.data_end (data_len (length (value_of (sector_bytes (g.F.Flash.device c.args.flash.now) c.args.area.now c.args.from_sector) c.ordinary_entry-from.result))) r;
  erased =
      let copy = copied (sector_bytes (g.F.Flash.device c.args.flash.now) c.args.area.now c.args.from_sector) c.args.from_slot c.ordinary_entry-from.result c.requires.takes.source.from_sound c.requires.takes.source.from c.requires.takes.source.listed (omega arith) c.ordinary_entry-from.ensures.entry in
      let same = ap data_len (copy.len ∙ sym copy.listed_len) in
      let room = c.requires.takes.room in
      let r = ready (g.F.Flash.device c.args.flash.now) c.args.area.now c.args.sector c.args.opened.now.cycle c.args.opened.now.slots c.args.opened.now.data_end (data_len (length (value_of (sector_bytes (g.F.Flash.device c.args.flash.now) c.args.area.now c.args.from_sector) c.ordinary_entry-from.result))) c.requires.takes.zms (g.met.F.Flash.is_lawful c.args.flash.now) c.requires.takes.sound c.requires.opened.cycle c.requires.opened.slots c.requires.opened.data_end (omega (arith, room, same)) in
      subst (λ (n : ℕ). CanPutAt (g.F.Flash.device c.args.flash.now) c.args.area.now c.args.sector c.args.opened.now.data_end (data_len n)) copy.len (ready_put (g.F.Flash.device c.args.flash.now) c.args.area.now c.args.sector c.args.opened.now.cycle c.args.opened.now.slots c.args.opened.now.data_end (data_len (length (value_of (sector_bytes (g.F.Flash.device c.args.flash.now) c.args.area.now c.args.from_sector) c.ordinary_entry-from.result))) r);
}

pub overflow_add-opened : goal.overflow_add-opened
overflow_add-opened g c =
    let copy = copied (sector_bytes (g.F.Flash.device c.args.flash.now) c.args.area.now c.args.from_sector) c.args.from_slot c.ordinary_entry-from.result c.requires.takes.source.from_sound c.requires.takes.source.from c.requires.takes.source.listed (omega arith) c.ordinary_entry-from.ensures.entry in
    let same = ap data_len (copy.len ∙ sym copy.listed_len) in
    let room = c.requires.takes.room in
    let r = ready (g.F.Flash.device c.args.flash.now) c.args.area.now c.args.sector c.args.opened.now.cycle c.args.opened.now.slots c.args.opened.now.data_end (data_len (length (value_of (sector_bytes (g.F.Flash.device c.args.flash.now) c.args.area.now c.args.from_sector) c.ordinary_entry-from.result))) c.requires.takes.zms (g.met.F.Flash.is_lawful c.args.flash.now) c.requires.takes.sound c.requires.opened.cycle c.requires.opened.slots c.requires.opened.data_end (omega (arith, room, same)) in
    let few = ready_slots (g.F.Flash.device c.args.flash.now) c.args.area.now c.args.sector c.args.opened.now.cycle c.args.opened.now.slots c.args.opened.now.data_end (data_len (length (value_of (sector_bytes (g.F.Flash.device c.args.flash.now) c.args.area.now c.args.from_sector) c.ordinary_entry-from.result))) r in omega arith

pub put_slot-requires-clause-zms : goal.put_slot-requires-clause-zms
put_slot-requires-clause-zms g c = still_zms (g.F.Flash.device c.args.flash.now) (g.F.Flash.device c.copy_value.new.flash) c.args.area.now c.args.sector c.in_ok-copy_value.ensures.touches.banks c.requires.takes.zms

pub put_slot-requires-clause-slot : goal.put_slot-requires-clause-slot
put_slot-requires-clause-slot g c =
    let copy = copied (sector_bytes (g.F.Flash.device c.args.flash.now) c.args.area.now c.args.from_sector) c.args.from_slot c.ordinary_entry-from.result c.requires.takes.source.from_sound c.requires.takes.source.from c.requires.takes.source.listed (omega arith) c.ordinary_entry-from.ensures.entry in
    let same = ap data_len (copy.len ∙ sym copy.listed_len) in
    let room = c.requires.takes.room in
    let r = ready (g.F.Flash.device c.args.flash.now) c.args.area.now c.args.sector c.args.opened.now.cycle c.args.opened.now.slots c.args.opened.now.data_end (data_len (length (value_of (sector_bytes (g.F.Flash.device c.args.flash.now) c.args.area.now c.args.from_sector) c.ordinary_entry-from.result))) c.requires.takes.zms (g.met.F.Flash.is_lawful c.args.flash.now) c.requires.takes.sound c.requires.opened.cycle c.requires.opened.slots c.requires.opened.data_end (omega (arith, room, same)) in
    ready_slot (g.F.Flash.device c.args.flash.now) c.args.area.now c.args.sector c.args.opened.now.cycle c.args.opened.now.slots c.args.opened.now.data_end (data_len (length (value_of (sector_bytes (g.F.Flash.device c.args.flash.now) c.args.area.now c.args.from_sector) c.ordinary_entry-from.result))) r (g.F.Flash.device c.copy_value.new.flash) c.in_ok-copy_value.ensures.touches.banks

pub put_slot-requires-clause-erased : goal.put_slot-requires-clause-erased
put_slot-requires-clause-erased g c =
    let copy = copied (sector_bytes (g.F.Flash.device c.args.flash.now) c.args.area.now c.args.from_sector) c.args.from_slot c.ordinary_entry-from.result c.requires.takes.source.from_sound c.requires.takes.source.from c.requires.takes.source.listed (omega arith) c.ordinary_entry-from.ensures.entry in
    let same = ap data_len (copy.len ∙ sym copy.listed_len) in
    let room = c.requires.takes.room in
    let r = ready (g.F.Flash.device c.args.flash.now) c.args.area.now c.args.sector c.args.opened.now.cycle c.args.opened.now.slots c.args.opened.now.data_end (data_len (length (value_of (sector_bytes (g.F.Flash.device c.args.flash.now) c.args.area.now c.args.from_sector) c.ordinary_entry-from.result))) c.requires.takes.zms (g.met.F.Flash.is_lawful c.args.flash.now) c.requires.takes.sound c.requires.opened.cycle c.requires.opened.slots c.requires.opened.data_end (omega (arith, room, same)) in
    ready_next (g.F.Flash.device c.args.flash.now) c.args.area.now c.args.sector c.args.opened.now.cycle c.args.opened.now.slots c.args.opened.now.data_end (data_len (length (value_of (sector_bytes (g.F.Flash.device c.args.flash.now) c.args.area.now c.args.from_sector) c.ordinary_entry-from.result))) r (g.F.Flash.device c.copy_value.new.flash) c.in_ok-copy_value.ensures.touches.banks
    (ready_value (g.F.Flash.device c.args.flash.now) c.args.area.now c.args.sector c.args.opened.now.cycle c.args.opened.now.slots c.args.opened.now.data_end (value_of (sector_bytes (g.F.Flash.device c.args.flash.now) c.args.area.now c.args.from_sector) c.ordinary_entry-from.result) (sector_bytes (g.F.Flash.device c.copy_value.new.flash) c.args.area.now c.args.sector) r c.in_ok-copy_value.ensures.ok)

pub returns-in_err-copy_value : goal.returns-in_err-copy_value
returns-in_err-copy_value g c = record {
  touches = subst (λ (t : Bool). Touches (c.args.area.now ∷ []) (g.F.Flash.device c.args.flash.now) (g.F.Flash.device c.copy_value.new.flash) t) (sym c.from_residual.ensures.0) c.in_err-copy_value.ensures.touches;
  others = c.in_err-copy_value.ensures.others;
  ok = search rules;
  ends = record {
    lost =
        let copy = copied (sector_bytes (g.F.Flash.device c.args.flash.now) c.args.area.now c.args.from_sector) c.args.from_slot c.ordinary_entry-from.result c.requires.takes.source.from_sound c.requires.takes.source.from c.requires.takes.source.listed (omega arith) c.ordinary_entry-from.ensures.entry in
        let same = ap data_len (copy.len ∙ sym copy.listed_len) in
        let room = c.requires.takes.room in
        let r = ready (g.F.Flash.device c.args.flash.now) c.args.area.now c.args.sector c.args.opened.now.cycle c.args.opened.now.slots c.args.opened.now.data_end (data_len (length (value_of (sector_bytes (g.F.Flash.device c.args.flash.now) c.args.area.now c.args.from_sector) c.ordinary_entry-from.result))) c.requires.takes.zms (g.met.F.Flash.is_lawful c.args.flash.now) c.requires.takes.sound c.requires.opened.cycle c.requires.opened.slots c.requires.opened.data_end (omega (arith, room, same)) in
        on_err c.from_residual.result
        (subst (λ (n : ℕ). KeepsList (kind_on (g.F.Flash.device c.args.flash.now) c.args.area.now) (left_over (kind_on (g.F.Flash.device c.args.flash.now) c.args.area.now) (data_len n)) (sector_bytes (g.F.Flash.device c.args.flash.now) c.args.area.now c.args.sector) (sector_bytes (g.F.Flash.device c.copy_value.new.flash) c.args.area.now c.args.sector)) (copy.len ∙ sym copy.listed_len)
        (ready_part (g.F.Flash.device c.args.flash.now) c.args.area.now c.args.sector c.args.opened.now.cycle c.args.opened.now.slots c.args.opened.now.data_end (data_len (length (value_of (sector_bytes (g.F.Flash.device c.args.flash.now) c.args.area.now c.args.from_sector) c.ordinary_entry-from.result))) r (sector_bytes (g.F.Flash.device c.copy_value.new.flash) c.args.area.now c.args.sector) (data_len-aligned (length (value_of (sector_bytes (g.F.Flash.device c.args.flash.now) c.args.area.now c.args.from_sector) c.ordinary_entry-from.result))) (subst (λ (n : ℕ). HasPart (sector_bytes (g.F.Flash.device c.args.flash.now) c.args.area.now c.args.sector) (sector_bytes (g.F.Flash.device c.copy_value.new.flash) c.args.area.now c.args.sector) c.args.opened.now.data_end (data_len n)) (sym copy.len) c.in_err-copy_value.ensures.ends.lost)));
    spends = search rules;
    guards = search rules;
    in_pieces = search rules;
    spends_lost =
        let copy = copied (sector_bytes (g.F.Flash.device c.args.flash.now) c.args.area.now c.args.from_sector) c.args.from_slot c.ordinary_entry-from.result c.requires.takes.source.from_sound c.requires.takes.source.from c.requires.takes.source.listed (omega arith) c.ordinary_entry-from.ensures.entry in
        let same = ap data_len copy.listed_len in
        on_err c.from_residual.result (between_within c.in_err-copy_value.ensures.ends.spends_lost 0 (cost (entry_len (sector_bytes (g.F.Flash.device c.args.flash.now) c.args.area.now c.args.from_sector) c.args.from_slot) / 16) (omega arith) (omega arith));
  };
  views =
      let copy = copied (sector_bytes (g.F.Flash.device c.args.flash.now) c.args.area.now c.args.from_sector) c.args.from_slot c.ordinary_entry-from.result c.requires.takes.source.from_sound c.requires.takes.source.from c.requires.takes.source.listed (omega arith) c.ordinary_entry-from.ensures.entry in
      let kind = kind_on (g.F.Flash.device c.args.flash.now) c.args.area.now in
      subst (λ (n : ℕ). TakesViews (copy_views (kind_on (g.F.Flash.device c.args.flash.now) c.args.area.now) n) c.args.steps.now c.copy_value.new.steps c.from_residual.result) (sym copy.listed_len)
      (copy_stops kind c.ordinary_entry-from.result.len c.args.steps.now c.ordinary_entry-from.new.steps c.copy_value.new.steps c.from_residual.result c.from_residual.ensures.0 c.ordinary_entry-from.ensures.step c.in_err-copy_value.ensures.views.cut);
}

pub returns : goal.returns
returns g c = record {
  touches = then c.in_ok-copy_value.ensures.touches c.put_slot.ensures.touches;
  others = others_then (g.F.Flash.device c.args.flash.now) (g.F.Flash.device c.copy_value.new.flash) (g.F.Flash.device c.put_slot.new.flash) c.args.area.now c.args.sector c.in_ok-copy_value.ensures.others c.put_slot.ensures.others;
  ok =
      let copy = copied (sector_bytes (g.F.Flash.device c.args.flash.now) c.args.area.now c.args.from_sector) c.args.from_slot c.ordinary_entry-from.result c.requires.takes.source.from_sound c.requires.takes.source.from c.requires.takes.source.listed (omega arith) c.ordinary_entry-from.ensures.entry in
      let same = ap data_len (copy.len ∙ sym copy.listed_len) in
      let room = c.requires.takes.room in
      let r = ready (g.F.Flash.device c.args.flash.now) c.args.area.now c.args.sector c.args.opened.now.cycle c.args.opened.now.slots c.args.opened.now.data_end (data_len (length (value_of (sector_bytes (g.F.Flash.device c.args.flash.now) c.args.area.now c.args.from_sector) c.ordinary_entry-from.result))) c.requires.takes.zms (g.met.F.Flash.is_lawful c.args.flash.now) c.requires.takes.sound c.requires.opened.cycle c.requires.opened.slots c.requires.opened.data_end (omega (arith, room, same)) in
      let ordinary = ordinary_id (slot_of (sector_bytes (g.F.Flash.device c.args.flash.now) c.args.area.now c.args.from_sector) c.args.from_slot) c.ordinary_entry-from.result c.args.from_slot (omega arith) c.ordinary_entry-from.ensures.entry in
      on_ok_weaker c.put_slot.result (λ is. subst (λ (pair : ℕ × List ℕ). AddsPair (kind_on (g.F.Flash.device c.args.flash.now) c.args.area.now) (sector_bytes (g.F.Flash.device c.args.flash.now) c.args.area.now c.args.sector) (sector_bytes (g.F.Flash.device c.put_slot.new.flash) c.args.area.now c.args.sector) pair.0 pair.1) (sym copy.pair) (ready_pair (g.F.Flash.device c.args.flash.now) c.args.area.now c.args.sector c.args.opened.now.cycle c.args.opened.now.slots c.args.opened.now.data_end c.ordinary_entry-from.result.id (value_of (sector_bytes (g.F.Flash.device c.args.flash.now) c.args.area.now c.args.from_sector) c.ordinary_entry-from.result) (sector_bytes (g.F.Flash.device c.copy_value.new.flash) c.args.area.now c.args.sector) (sector_bytes (g.F.Flash.device c.put_slot.new.flash) c.args.area.now c.args.sector) c.moved_entry-entry.result (kind_on (g.F.Flash.device c.copy_value.new.flash) c.args.area.now) (same_kind (g.F.Flash.device c.args.flash.now) (g.F.Flash.device c.copy_value.new.flash) c.args.area.now c.in_ok-copy_value.ensures.touches.banks) r ordinary c.in_ok-copy_value.ensures.ok (c.moved_entry-entry.ensures ∙ moved_is (sector_bytes (g.F.Flash.device c.args.flash.now) c.args.area.now c.args.from_sector) c.ordinary_entry-from.result c.args.opened.now.cycle c.args.opened.now.data_end copy.len) is)) c.put_slot.ensures.ok;
  ends = record {
    lost =
        let copy = copied (sector_bytes (g.F.Flash.device c.args.flash.now) c.args.area.now c.args.from_sector) c.args.from_slot c.ordinary_entry-from.result c.requires.takes.source.from_sound c.requires.takes.source.from c.requires.takes.source.listed (omega arith) c.ordinary_entry-from.ensures.entry in
        let same = ap data_len (copy.len ∙ sym copy.listed_len) in
        let room = c.requires.takes.room in
        let r = ready (g.F.Flash.device c.args.flash.now) c.args.area.now c.args.sector c.args.opened.now.cycle c.args.opened.now.slots c.args.opened.now.data_end (data_len (length (value_of (sector_bytes (g.F.Flash.device c.args.flash.now) c.args.area.now c.args.from_sector) c.ordinary_entry-from.result))) c.requires.takes.zms (g.met.F.Flash.is_lawful c.args.flash.now) c.requires.takes.sound c.requires.opened.cycle c.requires.opened.slots c.requires.opened.data_end (omega (arith, room, same)) in
        on_err_weaker c.put_slot.result
        (λ cut. subst (λ (n : ℕ). KeepsList (kind_on (g.F.Flash.device c.args.flash.now) c.args.area.now) (left_over (kind_on (g.F.Flash.device c.args.flash.now) c.args.area.now) (data_len n)) (sector_bytes (g.F.Flash.device c.args.flash.now) c.args.area.now c.args.sector) (sector_bytes (g.F.Flash.device c.put_slot.new.flash) c.args.area.now c.args.sector)) (copy.len ∙ sym copy.listed_len)
        (ready_cut (g.F.Flash.device c.args.flash.now) c.args.area.now c.args.sector c.args.opened.now.cycle c.args.opened.now.slots c.args.opened.now.data_end (data_len (length (value_of (sector_bytes (g.F.Flash.device c.args.flash.now) c.args.area.now c.args.from_sector) c.ordinary_entry-from.result))) r (sector_bytes (g.F.Flash.device c.copy_value.new.flash) c.args.area.now c.args.sector) (sector_bytes (g.F.Flash.device c.put_slot.new.flash) c.args.area.now c.args.sector) c.moved_entry-entry.result (kind_on (g.F.Flash.device c.copy_value.new.flash) c.args.area.now) (same_kind (g.F.Flash.device c.args.flash.now) (g.F.Flash.device c.copy_value.new.flash) c.args.area.now c.in_ok-copy_value.ensures.touches.banks) (ap (λ (e : ZEntry). e.cycle) c.moved_entry-entry.ensures)
        (ready_value (g.F.Flash.device c.args.flash.now) c.args.area.now c.args.sector c.args.opened.now.cycle c.args.opened.now.slots c.args.opened.now.data_end (value_of (sector_bytes (g.F.Flash.device c.args.flash.now) c.args.area.now c.args.from_sector) c.ordinary_entry-from.result) (sector_bytes (g.F.Flash.device c.copy_value.new.flash) c.args.area.now c.args.sector) r c.in_ok-copy_value.ensures.ok) cut))
        c.put_slot.ensures.lost;
    spends =
        let copy = copied (sector_bytes (g.F.Flash.device c.args.flash.now) c.args.area.now c.args.from_sector) c.args.from_slot c.ordinary_entry-from.result c.requires.takes.source.from_sound c.requires.takes.source.from c.requires.takes.source.listed (omega arith) c.ordinary_entry-from.ensures.entry in
        let same = ap data_len copy.listed_len in
        on_ok_weaker c.put_slot.result (λ spends. between_within (between_then c.in_ok-copy_value.ensures.ends.spends spends) (cost (entry_len (sector_bytes (g.F.Flash.device c.args.flash.now) c.args.area.now c.args.from_sector) c.args.from_slot) / 16) (cost (entry_len (sector_bytes (g.F.Flash.device c.args.flash.now) c.args.area.now c.args.from_sector) c.args.from_slot) / 16 + 1) (omega arith) (omega arith)) c.put_slot.ensures.spends;
    guards =
        let copy = copied (sector_bytes (g.F.Flash.device c.args.flash.now) c.args.area.now c.args.from_sector) c.args.from_slot c.ordinary_entry-from.result c.requires.takes.source.from_sound c.requires.takes.source.from c.requires.takes.source.listed (omega arith) c.ordinary_entry-from.ensures.entry in
        let same = ap data_len (copy.len ∙ sym copy.listed_len) in
        let room = c.requires.takes.room in
        let r = ready (g.F.Flash.device c.args.flash.now) c.args.area.now c.args.sector c.args.opened.now.cycle c.args.opened.now.slots c.args.opened.now.data_end (data_len (length (value_of (sector_bytes (g.F.Flash.device c.args.flash.now) c.args.area.now c.args.from_sector) c.ordinary_entry-from.result))) c.requires.takes.zms (g.met.F.Flash.is_lawful c.args.flash.now) c.requires.takes.sound c.requires.opened.cycle c.requires.opened.slots c.requires.opened.data_end (omega (arith, room, same)) in
        let under = ap (λ (b : List ℕ). slot_of b (length (valid_slots (sector_bytes (g.F.Flash.device c.args.flash.now) c.args.area.now c.args.sector)) + 2 + 1)) c.in_ok-copy_value.ensures.ok ∙ value_under (kind_on (g.F.Flash.device c.args.flash.now) c.args.area.now) (sector_bytes (g.F.Flash.device c.args.flash.now) c.args.area.now c.args.sector) (value_of (sector_bytes (g.F.Flash.device c.args.flash.now) c.args.area.now c.args.from_sector) c.ordinary_entry-from.result) c.args.opened.now.data_end r.end_is r.fits in
        let due = ap (λ (k : Kind). guard_units k (Some c.moved_entry-entry.result.cycle) (c.args.opened.now.slots + 2 + 1) (sector_bytes (g.F.Flash.device c.copy_value.new.flash) c.args.area.now c.args.sector)) (same_kind (g.F.Flash.device c.args.flash.now) (g.F.Flash.device c.copy_value.new.flash) c.args.area.now c.in_ok-copy_value.ensures.touches.banks)
        ∙ entry_guard (g.F.Flash.device c.args.flash.now) c.args.area.now c.args.sector c.args.opened.now.cycle c.args.opened.now.slots c.args.opened.now.data_end (data_len (length (value_of (sector_bytes (g.F.Flash.device c.args.flash.now) c.args.area.now c.args.from_sector) c.ordinary_entry-from.result))) c.moved_entry-entry.result.cycle (sector_bytes (g.F.Flash.device c.copy_value.new.flash) c.args.area.now c.args.sector) r (ap (λ (e : ZEntry). e.cycle) c.moved_entry-entry.ensures) under in
        let listed = ap data_len copy.listed_len in
        on_ok_weaker c.put_slot.result (λ spends. between_within (between_then c.in_ok-copy_value.ensures.ends.spends spends) _ _ (omega arith) (omega arith)) c.put_slot.ensures.guards;
    in_pieces =
        let m = g.F.Flash.device c.copy_value.new.flash in
        let last = g.F.Flash.device c.put_slot.new.flash in
        on_err_weaker c.put_slot.result (λ within. within_then COPY_PIECE (g.F.Flash.device c.args.flash.now) m last (c.args.area.now ∷ []) c.in_ok-copy_value.ensures.touches (within_most SLOT COPY_PIECE m last (omega arith) within)) c.put_slot.ensures.in_pieces;
    spends_lost =
        let copy = copied (sector_bytes (g.F.Flash.device c.args.flash.now) c.args.area.now c.args.from_sector) c.args.from_slot c.ordinary_entry-from.result c.requires.takes.source.from_sound c.requires.takes.source.from c.requires.takes.source.listed (omega arith) c.ordinary_entry-from.ensures.entry in
        let same = ap data_len copy.listed_len in
        on_err_weaker c.put_slot.result (λ spends. between_within (between_then c.in_ok-copy_value.ensures.ends.spends spends) 0 (cost (entry_len (sector_bytes (g.F.Flash.device c.args.flash.now) c.args.area.now c.args.from_sector) c.args.from_slot) / 16) (omega arith) (omega arith)) c.put_slot.ensures.spends_lost;
  };
  views =
      let copy = copied (sector_bytes (g.F.Flash.device c.args.flash.now) c.args.area.now c.args.from_sector) c.args.from_slot c.ordinary_entry-from.result c.requires.takes.source.from_sound c.requires.takes.source.from c.requires.takes.source.listed (omega arith) c.ordinary_entry-from.ensures.entry in
      let kind = kind_on (g.F.Flash.device c.args.flash.now) c.args.area.now in
      let mid = kind_on (g.F.Flash.device c.copy_value.new.flash) c.args.area.now in
      subst (λ (n : ℕ). TakesViews (copy_views (kind_on (g.F.Flash.device c.args.flash.now) c.args.area.now) n) c.args.steps.now c.put_slot.new.steps c.put_slot.result) (sym copy.listed_len)
      (copy_viewed kind mid c.ordinary_entry-from.result.len c.args.steps.now c.ordinary_entry-from.new.steps c.copy_value.new.steps c.put_slot.new.steps c.put_slot.result
      (same_kind (g.F.Flash.device c.args.flash.now) (g.F.Flash.device c.copy_value.new.flash) c.args.area.now c.in_ok-copy_value.ensures.touches.banks)
      c.ordinary_entry-from.ensures.step c.in_ok-copy_value.ensures.views.whole c.put_slot.ensures.steps);
}
