use Rattle.std.proofs.Common.{ℕ, refl, ap, subst, arith}
use Rattle.std.proofs.lemmas.Result.{on_ok_weaker, on_err_weaker}
use Rattle.flash_map.specs.Area.{sector_bytes}
use Rattle.flash_map.proofs.SpendingBounds.{between_within}
use Rattle.zms_cycle.specs.declared.entry.ZEntry.{ZEntry}
use Rattle.flash_sim.specs.Device.{Device}
use Rattle.zms_cycle.specs.Areas.{kind_on}
use Rattle.zms_cycle.specs.Changes.{KeepsList}
use Rattle.zms_cycle.proofs.Ends.{nothing_left}
use Rattle.zms_cycle.proofs.Frames.{keeps_same}
use Rattle.zms_cycle.proofs.EntryCalls.{gone, ready, ready_slots, ready_slot, ready_next, ready_cut, ready_done}
use Rattle.zms_cycle.proofs.GuardUnits.{entry_guard}
use Rattle.zms_cycle.proofs.appending.put_done_at.Goals as goal

pub overflow_add-opened : goal.overflow_add-opened
overflow_add-opened g c =
    let r = ready (g.F.Flash.device c.args.flash.now) c.args.area.now c.args.sector c.args.opened.now.cycle c.args.opened.now.slots c.args.opened.now.data_end 0 c.requires.takes.zms (g.met.F.Flash.is_lawful c.args.flash.now) c.requires.takes.sound c.requires.opened.cycle c.requires.opened.slots c.requires.opened.data_end (let room = c.requires.takes.room in omega arith) in
    let few = ready_slots (g.F.Flash.device c.args.flash.now) c.args.area.now c.args.sector c.args.opened.now.cycle c.args.opened.now.slots c.args.opened.now.data_end 0 r in omega arith

pub put_slot-requires-clause-slot : goal.put_slot-requires-clause-slot
put_slot-requires-clause-slot g c =
    let r = ready (g.F.Flash.device c.args.flash.now) c.args.area.now c.args.sector c.args.opened.now.cycle c.args.opened.now.slots c.args.opened.now.data_end 0 c.requires.takes.zms (g.met.F.Flash.is_lawful c.args.flash.now) c.requires.takes.sound c.requires.opened.cycle c.requires.opened.slots c.requires.opened.data_end (let room = c.requires.takes.room in omega arith) in
    ready_slot (g.F.Flash.device c.args.flash.now) c.args.area.now c.args.sector c.args.opened.now.cycle c.args.opened.now.slots c.args.opened.now.data_end 0 r (g.F.Flash.device c.args.flash.now) refl

pub put_slot-requires-clause-erased : goal.put_slot-requires-clause-erased
put_slot-requires-clause-erased g c =
    let r = ready (g.F.Flash.device c.args.flash.now) c.args.area.now c.args.sector c.args.opened.now.cycle c.args.opened.now.slots c.args.opened.now.data_end 0 c.requires.takes.zms (g.met.F.Flash.is_lawful c.args.flash.now) c.requires.takes.sound c.requires.opened.cycle c.requires.opened.slots c.requires.opened.data_end (let room = c.requires.takes.room in omega arith) in
    ready_next (g.F.Flash.device c.args.flash.now) c.args.area.now c.args.sector c.args.opened.now.cycle c.args.opened.now.slots c.args.opened.now.data_end 0 r (g.F.Flash.device c.args.flash.now) refl (keeps_same (kind_on (g.F.Flash.device c.args.flash.now) c.args.area.now) (gone (g.F.Flash.device c.args.flash.now) c.args.area.now 0) (sector_bytes (g.F.Flash.device c.args.flash.now) c.args.area.now c.args.sector))

pub returns : goal.returns
returns g c = record {
  touches = c.put_slot.ensures.touches;
  others = c.put_slot.ensures.others;
  ok =
      let r = ready (g.F.Flash.device c.args.flash.now) c.args.area.now c.args.sector c.args.opened.now.cycle c.args.opened.now.slots c.args.opened.now.data_end 0 c.requires.takes.zms (g.met.F.Flash.is_lawful c.args.flash.now) c.requires.takes.sound c.requires.opened.cycle c.requires.opened.slots c.requires.opened.data_end (let room = c.requires.takes.room in omega arith) in
      on_ok_weaker c.put_slot.result (ready_done (g.F.Flash.device c.args.flash.now) c.args.area.now c.args.sector c.args.opened.now.cycle c.args.opened.now.slots c.args.opened.now.data_end 0 r (sector_bytes (g.F.Flash.device c.put_slot.new.flash) c.args.area.now c.args.sector) c.done_entry-entry.result c.done_entry-entry.ensures) c.put_slot.ensures.ok;
  ends = record {
    lost =
        let d : Device = g.F.Flash.device c.args.flash.now in
        let b = sector_bytes (g.F.Flash.device c.args.flash.now) c.args.area.now c.args.sector in
        let kind = kind_on (g.F.Flash.device c.args.flash.now) c.args.area.now in
        let new = sector_bytes (g.F.Flash.device c.put_slot.new.flash) c.args.area.now c.args.sector in
        let r = ready (g.F.Flash.device c.args.flash.now) c.args.area.now c.args.sector c.args.opened.now.cycle c.args.opened.now.slots c.args.opened.now.data_end 0 c.requires.takes.zms (g.met.F.Flash.is_lawful c.args.flash.now) c.requires.takes.sound c.requires.opened.cycle c.requires.opened.slots c.requires.opened.data_end (let room = c.requires.takes.room in omega arith) in
        on_err_weaker c.put_slot.result
        (λ cut. subst (λ (n : ℕ). KeepsList (kind_on (g.F.Flash.device c.args.flash.now) c.args.area.now) n (sector_bytes (g.F.Flash.device c.args.flash.now) c.args.area.now c.args.sector) (sector_bytes (g.F.Flash.device c.put_slot.new.flash) c.args.area.now c.args.sector)) (nothing_left kind)
        (ready_cut d c.args.area.now c.args.sector c.args.opened.now.cycle c.args.opened.now.slots c.args.opened.now.data_end 0 r b new c.done_entry-entry.result kind refl (ap (λ (e : ZEntry). e.cycle) c.done_entry-entry.ensures) (keeps_same kind (gone d c.args.area.now 0) b) cut))
        c.put_slot.ensures.lost;
    spends = c.put_slot.ensures.spends;
    guards =
        let r = ready (g.F.Flash.device c.args.flash.now) c.args.area.now c.args.sector c.args.opened.now.cycle c.args.opened.now.slots c.args.opened.now.data_end 0 c.requires.takes.zms (g.met.F.Flash.is_lawful c.args.flash.now) c.requires.takes.sound c.requires.opened.cycle c.requires.opened.slots c.requires.opened.data_end (let room = c.requires.takes.room in omega arith) in
        let due = entry_guard (g.F.Flash.device c.args.flash.now) c.args.area.now c.args.sector c.args.opened.now.cycle c.args.opened.now.slots c.args.opened.now.data_end 0 c.done_entry-entry.result.cycle (sector_bytes (g.F.Flash.device c.args.flash.now) c.args.area.now c.args.sector) r (ap (λ (e : ZEntry). e.cycle) c.done_entry-entry.ensures) refl in
        on_ok_weaker c.put_slot.result (λ spends. between_within spends _ _ (omega arith) (omega arith)) c.put_slot.ensures.guards;
    in_pieces = c.put_slot.ensures.in_pieces;
    spends_lost = on_err_weaker c.put_slot.result (λ spends. between_within spends 0 1 (omega arith) (omega arith)) c.put_slot.ensures.spends_lost;
  };
  steps = c.put_slot.ensures.steps;
}

pub put_slot-requires-clause-zms : goal.put_slot-requires-clause-zms
put_slot-requires-clause-zms g c = c.requires.takes.zms
