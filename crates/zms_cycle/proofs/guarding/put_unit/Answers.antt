use Rattle.std.proofs.Common.{refl, arith}
use Rattle.std.proofs.lemmas.Result.{on_ok_weaker, on_err_weaker}
use Rattle.flash_map.specs.Area.{place_of}
use Rattle.zms_cycle.proofs.AreaFacts.{others_same}
use Rattle.zms_cycle.proofs.UnitCalls.{both_ends, can_unit, unit_written, unit_others, unit_lost, unit_spends, unit_spends_lost}
use Rattle.flash_map.proofs.PieceLemmas.{loses_one}
use Rattle.zms_cycle.specs.declared.reading.TheConstants.{SLOT}
use Rattle.zms_cycle.proofs.guarding.put_unit.Goals as goal

pub area_program-requires-clause-can : goal.area_program-requires-clause-can
area_program-requires-clause-can g c =
    can_unit (g.F.Flash.device c.args.flash.now) (g.F.Flash.device c.args.flash.now) c.args.area.now c.args.sector c.args.slot c.slot_start-start.result c.args.bytes.now c.requires.zms (g.met.F.Flash.is_lawful c.args.flash.now) c.slot_start-start.ensures c.requires.slot c.requires.unit c.requires.erased

pub returns-clause-ok : goal.returns-clause-ok
returns-clause-ok g c = on_ok_weaker c.area_program.result (unit_written (g.F.Flash.device c.args.flash.now) (g.F.Flash.device c.area_program.new.flash) c.args.area.now c.args.sector c.args.slot c.slot_start-start.result c.args.bytes.now c.requires.zms (g.met.F.Flash.is_lawful c.args.flash.now) c.slot_start-start.ensures c.requires.slot c.requires.unit) c.area_program.ensures.written

pub returns-clause-ends : goal.returns-clause-ends
returns-clause-ends g c = record {
  few = omega arith;
  lost = on_err_weaker c.area_program.result (unit_lost (g.F.Flash.device c.args.flash.now) (g.F.Flash.device c.area_program.new.flash) c.args.area.now c.args.sector c.args.slot c.slot_start-start.result c.args.bytes.now c.requires.zms (g.met.F.Flash.is_lawful c.args.flash.now) c.slot_start-start.ensures c.requires.slot c.requires.unit) c.area_program.ensures.part;
  spends = on_ok_weaker c.area_program.result (unit_spends (g.F.Flash.device c.args.flash.now) (g.F.Flash.device c.area_program.new.flash) c.args.area.now c.args.sector c.args.slot c.slot_start-start.result c.args.bytes.now c.requires.zms (g.met.F.Flash.is_lawful c.args.flash.now) c.slot_start-start.ensures c.requires.slot c.requires.unit (place_of (g.F.Flash.device c.args.flash.now) c.args.area.now c.args.sector c.slot_start-start.result) refl) c.area_program.ensures.ok;
  in_pieces = on_err_weaker c.area_program.result (λ fails. loses_one SLOT (g.F.Flash.device c.args.flash.now) (g.F.Flash.device c.area_program.new.flash) (place_of (g.F.Flash.device c.args.flash.now) c.args.area.now c.args.sector c.slot_start-start.result) c.args.bytes.now fails (omega (arith, c.requires.unit))) c.area_program.ensures.lost;
  spends_lost = on_err_weaker c.area_program.result (unit_spends_lost (g.F.Flash.device c.args.flash.now) (g.F.Flash.device c.area_program.new.flash) c.args.area.now c.args.sector c.args.slot c.slot_start-start.result c.args.bytes.now c.requires.zms (g.met.F.Flash.is_lawful c.args.flash.now) c.slot_start-start.ensures c.requires.slot c.requires.unit (place_of (g.F.Flash.device c.args.flash.now) c.args.area.now c.args.sector c.slot_start-start.result) refl) c.area_program.ensures.lost;
}

pub returns-clause-others : goal.returns-clause-others
returns-clause-others g c =
    both_ends c.area_program.result
    (on_ok_weaker c.area_program.result (unit_others (g.F.Flash.device c.args.flash.now) (g.F.Flash.device c.area_program.new.flash) c.args.area.now c.args.sector c.args.slot c.slot_start-start.result c.args.bytes.now c.requires.zms (g.met.F.Flash.is_lawful c.args.flash.now) c.slot_start-start.ensures c.requires.slot c.requires.unit) c.area_program.ensures.written)
    (on_err_weaker c.area_program.result (λ same. others_same (g.F.Flash.device c.args.flash.now) (g.F.Flash.device c.area_program.new.flash) c.args.area.now c.args.sector same) (returns-clause-ends g c).lost)
