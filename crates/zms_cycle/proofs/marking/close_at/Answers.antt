use Rattle.flash_map.proofs.Touches.{then}
use Rattle.flash_map.specs.Touches.{Touches}
use Rattle.std.proofs.Common.{rules, ◌≡◌, ◌+◌, ◌-◌, ◌*◌, List, sym, ap, ◌∙◌, arith, Bool, subst, [], ◌∷◌}
use Rattle.std.proofs.lemmas.Result.{on_ok_weaker, on_err_weaker}
use Rattle.flash_sim.specs.Bank.{bank_at}
use Rattle.flash_sim.specs.declared.flash.Bank.{Bank}
use Rattle.flash_sim.specs.Device.{Device}
use Rattle.flash_map.specs.Area.{sector_bytes, sector_size}
use Rattle.flash_map.specs.declared.area.Geometry.{Geometry}
use Rattle.flash_map.proofs.PieceLemmas.{on_err}
use Rattle.flash_map.proofs.SpendingBounds.{between_then, between_within}
use Rattle.zms_cycle.specs.Areas.{kind_on}
use Rattle.zms_cycle.specs.OnArea.{free_on, closing_units}
use Rattle.zms_cycle.proofs.AreaFacts.{size_is, same_kind, still_zms, others_then}
use Rattle.zms_cycle.proofs.EmptyCalls.{same_bytes}
use Rattle.zms_cycle.proofs.CloseCalls.{lowest_of, still_closable, close_ok, keeps_equal, closing_some}
use Rattle.zms_cycle.proofs.marking.close_at.Goals as goal

pub overflow_add-low : goal.overflow_add-low
overflow_add-low g c =
    let size = size_is (g.F.Flash.device c.args.flash.now) c.args.area.now c.args.sector c.requires.takes.zms (g.met.F.Flash.is_lawful c.args.flash.now) in
    let shape = ap (λ (shape : Geometry). shape.sector) c.geometry.ensures in
    let most = c.requires.takes.zms.lawful.at_most in
    let lowest = lowest_of (sector_bytes (g.F.Flash.device c.args.flash.now) c.args.area.now c.args.sector) c.geometry.result.sector c.args.opened.now.slots c.requires.takes.sound (size ∙ sym shape) c.requires.opened.slots in
    let fits = lowest.slots in
    omega (arith, fits, shape, most)

pub overflow_mul-low : goal.overflow_mul-low
overflow_mul-low g c =
    let size = size_is (g.F.Flash.device c.args.flash.now) c.args.area.now c.args.sector c.requires.takes.zms (g.met.F.Flash.is_lawful c.args.flash.now) in
    let shape = ap (λ (shape : Geometry). shape.sector) c.geometry.ensures in
    let most = c.requires.takes.zms.lawful.at_most in
    let lowest = lowest_of (sector_bytes (g.F.Flash.device c.args.flash.now) c.args.area.now c.args.sector) c.geometry.result.sector c.args.opened.now.slots c.requires.takes.sound (size ∙ sym shape) c.requires.opened.slots in
    let fits = lowest.slots in
    omega (arith, fits, shape, most)

pub overflow_sub-low : goal.overflow_sub-low
overflow_sub-low g c =
    let size = size_is (g.F.Flash.device c.args.flash.now) c.args.area.now c.args.sector c.requires.takes.zms (g.met.F.Flash.is_lawful c.args.flash.now) in
    let shape = ap (λ (shape : Geometry). shape.sector) c.geometry.ensures in
    let most = c.requires.takes.zms.lawful.at_most in
    let lowest = lowest_of (sector_bytes (g.F.Flash.device c.args.flash.now) c.args.area.now c.args.sector) c.geometry.result.sector c.args.opened.now.slots c.requires.takes.sound (size ∙ sym shape) c.requires.opened.slots in
    let fits = lowest.slots in
    omega (arith, fits, shape, most)

pub put_unit-requires-clause-zms : goal.put_unit-requires-clause-zms
put_unit-requires-clause-zms g c = still_zms (g.F.Flash.device c.args.flash.now) (g.F.Flash.device c.fill_free.new.flash) c.args.area.now c.args.sector c.in_ok-fill_free.ensures.touches.banks c.requires.takes.zms

pub put_unit-requires-clause-slot : goal.put_unit-requires-clause-slot
put_unit-requires-clause-slot g c =
    let same : sector_size (g.F.Flash.device c.fill_free.new.flash) c.args.area.now ≡ sector_size (g.F.Flash.device c.args.flash.now) c.args.area.now = ap (λ (l : List Bank). (bank_at l c.args.area.now.bank).sector) c.in_ok-fill_free.ensures.touches.banks in
    let least = c.requires.takes.zms.lawful.at_least in
    omega arith

pub put_unit-requires-clause-erased : goal.put_unit-requires-clause-erased
put_unit-requires-clause-erased g c = λ erasing.
    still_closable (kind_on (g.F.Flash.device c.args.flash.now) c.args.area.now) (sector_bytes (g.F.Flash.device c.args.flash.now) c.args.area.now c.args.sector) (sector_bytes (g.F.Flash.device c.fill_free.new.flash) c.args.area.now c.args.sector) c.requires.takes.closable c.in_ok-fill_free.ensures.keeps.close_slot (sym (same_kind (g.F.Flash.device c.args.flash.now) (g.F.Flash.device c.fill_free.new.flash) c.args.area.now c.in_ok-fill_free.ensures.touches.banks) ∙ erasing)

pub returns-in_err-fill_free : goal.returns-in_err-fill_free
returns-in_err-fill_free g c = record {
  touches = subst (λ (t : Bool). Touches (c.args.area.now ∷ []) (g.F.Flash.device c.args.flash.now) (g.F.Flash.device c.fill_free.new.flash) t) (sym c.from_residual.ensures.0) c.in_err-fill_free.ensures.touches;
  others = c.in_err-fill_free.ensures.others;
  ok = search rules;
  ends = record {
    lost = on_err c.from_residual.result c.in_err-fill_free.ensures.keeps;
    idle_lost = λ erasing. on_err c.from_residual.result (ap (λ (d : Device). sector_bytes d c.args.area.now c.args.sector) (c.in_err-fill_free.ensures.idle erasing));
    spends = search rules;
    spends_lost =
        on_err c.from_residual.result
        (between_within c.in_err-fill_free.ensures.spends 0 (closing_units (g.F.Flash.device c.args.flash.now) c.args.area.now c.args.sector) (omega arith) (omega arith));
  };
  steps = c.in_err-fill_free.ensures.steps;
}

pub returns : goal.returns
returns g c = record {
  touches = then c.in_ok-fill_free.ensures.touches c.put_unit.ensures.touches;
  others = others_then (g.F.Flash.device c.args.flash.now) (g.F.Flash.device c.fill_free.new.flash) (g.F.Flash.device c.put_unit.new.flash) c.args.area.now c.args.sector c.in_ok-fill_free.ensures.others c.put_unit.ensures.others;
  ok =
      let size = size_is (g.F.Flash.device c.args.flash.now) c.args.area.now c.args.sector c.requires.takes.zms (g.met.F.Flash.is_lawful c.args.flash.now) in
      let shape = ap (λ (shape : Geometry). shape.sector) c.geometry.ensures in
      let lowest = lowest_of (sector_bytes (g.F.Flash.device c.args.flash.now) c.args.area.now c.args.sector) c.geometry.result.sector c.args.opened.now.slots c.requires.takes.sound (size ∙ sym shape) c.requires.opened.slots in
      on_ok_weaker c.put_unit.result
      (close_ok (kind_on (g.F.Flash.device c.args.flash.now) c.args.area.now) (sector_bytes (g.F.Flash.device c.args.flash.now) c.args.area.now c.args.sector) (sector_bytes (g.F.Flash.device c.fill_free.new.flash) c.args.area.now c.args.sector) (sector_bytes (g.F.Flash.device c.put_unit.new.flash) c.args.area.now c.args.sector) c.args.opened.now.cycle (c.geometry.result.sector - (c.args.opened.now.slots + 2) * 16) c.close_entry.result c.encode_zentry.result c.requires.takes.sound c.in_ok-fill_free.ensures.keeps c.requires.opened.cycle lowest.lowest c.in_ok-fill_free.ensures.filled c.close_entry.ensures c.encode_zentry.ensures)
      c.put_unit.ensures.ok;
  ends = record {
    lost =
        on_err_weaker c.put_unit.result (λ same. keeps_equal (kind_on (g.F.Flash.device c.args.flash.now) c.args.area.now) (sector_bytes (g.F.Flash.device c.args.flash.now) c.args.area.now c.args.sector) (sector_bytes (g.F.Flash.device c.fill_free.new.flash) c.args.area.now c.args.sector) (sector_bytes (g.F.Flash.device c.put_unit.new.flash) c.args.area.now c.args.sector) c.in_ok-fill_free.ensures.keeps (same_bytes (g.F.Flash.device c.fill_free.new.flash) (g.F.Flash.device c.put_unit.new.flash) c.args.area.now c.args.sector same)) c.put_unit.ensures.ends.lost;
    idle_lost = λ erasing.
        on_err_weaker c.put_unit.result
        (λ same. same_bytes (g.F.Flash.device c.fill_free.new.flash) (g.F.Flash.device c.put_unit.new.flash) c.args.area.now c.args.sector same ∙ ap (λ (d : Device). sector_bytes d c.args.area.now c.args.sector) (c.in_ok-fill_free.ensures.idle erasing))
        c.put_unit.ensures.ends.lost;
    spends =
        let some = closing_some (kind_on (g.F.Flash.device c.args.flash.now) c.args.area.now) (free_on (g.F.Flash.device c.args.flash.now) c.args.area.now c.args.sector) in
        on_ok_weaker c.put_unit.result (λ spends. between_within (between_then c.in_ok-fill_free.ensures.spends spends) 1 (closing_units (g.F.Flash.device c.args.flash.now) c.args.area.now c.args.sector) (omega arith) (omega arith)) c.put_unit.ensures.ends.spends;
    spends_lost =
        on_err_weaker c.put_unit.result (λ spends. between_within (between_then c.in_ok-fill_free.ensures.spends spends) 0 (closing_units (g.F.Flash.device c.args.flash.now) c.args.area.now c.args.sector) (omega arith) (omega arith)) c.put_unit.ensures.ends.spends_lost;
  };
  steps = c.in_ok-fill_free.ensures.steps;
}
