use Rattle.std.proofs.Common.{◌≡◌, ◌+◌, [], ◌∷◌, true, false, subst, ◌∙◌}
use Rattle.std.proofs.lemmas.Bool.{eqb-true}
use Rattle.flash_sim.specs.Device.{Device}
use Rattle.flash_map.specs.declared.area.Area.{Area}
use Rattle.flash_map.specs.Touches.{Touches}
use Rattle.flash_map.proofs.SpendingLemmas.{spends_most}
use Rattle.flash_map.proofs.Touches.{then}
use Rattle.fcb_ring.specs.declared.ring.Ring.{Ring}
use Rattle.fcb_ring.specs.Standing.{KeepsEntries}
use Rattle.fcb_ring.proofs.AppendLemmas.{is_err_by}
use Rattle.backend_fcb.proofs.CopySteps.{keeps-then}
use Rattle.backend_fcb.proofs.PutsCosts.{undamaged-kept}
use Rattle.backend_fcb.proofs.Ends.{not-ok}
use Rattle.backend_fcb.proofs.Collected.{Copied, Ended, settings-kept, begun-undamaged, begun-end, begun-fresh, collected, collected-undamaged, collected-ready, collected-settings, after-used, begin-units, stop-units, end-units, copied-now}
use Rattle.flash_map.proofs.PieceLemmas.{on_err}
use Rattle.fcb_ring.specs.Chance.{HasNoChance}
use Rattle.fcb_ring.specs.Changing.{next_place}
use Rattle.fcb_ring.proofs.AreaLemmas.{area_after}
use Rattle.fcb_ring.proofs.ChanceLemmas.{header-chance, erase-chance}
use Rattle.backend_fcb.proofs.Tearing.{lost-then}
use Rattle.backend_fcb.proofs.DueLemmas.{cut-due, scratch-others, same-others}
use Rattle.flash_map.specs.Area.{sectors_of}
use Rattle.backend_fcb.proofs.collecting.collect.Goals as goal

pub returns-in_err-begin_collect-clause-collected : goal.returns-in_err-begin_collect-clause-collected
returns-in_err-begin_collect-clause-collected g c = not-ok _ c.from_residual.result c.from_residual.ensures.0

pub returns-in_err-copy_live-clause-collected : goal.returns-in_err-copy_live-clause-collected
returns-in_err-copy_live-clause-collected g c = not-ok _ c.from_residual-in_err-copy_live.result c.from_residual-in_err-copy_live.ensures.0

pub returns-in_err-end_collect-clause-collected : goal.returns-in_err-end_collect-clause-collected
returns-in_err-end_collect-clause-collected g c = not-ok _ c.from_residual-in_err-end_collect.result c.from_residual-in_err-end_collect.ensures.0

pub returns-in_err-begin_collect-clause-touches : goal.returns-in_err-begin_collect-clause-touches
returns-in_err-begin_collect-clause-touches g c =
    is_err_by c.from_residual.result (Touches (c.args.ring.now.area ∷ []) (g.F.Flash.device c.args.flash.now) (g.F.Flash.device c.begin_collect.new.flash)) c.from_residual.ensures.0 c.in_err-begin_collect.ensures.touches

pub returns-in_err-copy_live-clause-touches : goal.returns-in_err-copy_live-clause-touches
returns-in_err-copy_live-clause-touches g c =
    let a : Device = g.F.Flash.device c.args.flash.now in
    let b : Device = g.F.Flash.device c.begin_collect.new.flash in
    let d : Device = g.F.Flash.device c.copy_live.new.flash in
    let area : Area = c.args.ring.now.area in
    is_err_by c.from_residual-in_err-copy_live.result (Touches (area ∷ []) a d) c.from_residual-in_err-copy_live.ensures.0
    (then c.in_ok-begin_collect.ensures.touches (subst (λ (x : Area). Touches (x ∷ []) b d true) c.in_ok-begin_collect.ensures.begun.area c.in_err-copy_live.ensures.touches))

pub returns : goal.returns
returns g c =
    let b : Device = g.F.Flash.device c.begin_collect.new.flash in
    let one = c.in_ok-begin_collect.ensures.begun in
    let d : Device = g.F.Flash.device c.copy_live.new.flash in
    let two = c.in_ok-copy_live.ensures in
    let e : Device = g.F.Flash.device c.end_collect.new.flash in
    let three = c.in_ok-end_collect.ensures in
    let a : Device = g.F.Flash.device c.args.flash.now in
    let before : Ring = c.args.ring.now in
    let lawful = g.met.F.Flash.is_lawful c.args.flash.now in
    let ring : Ring = c.begin_collect.new.self in
    let now : Ring = c.copy_live.new.ring in
    let copied : Copied b d ring now = record { banks = two.touches.banks; list = two.only.list; others = two.only.others; area = two.only.area; reserve = two.only.reserve; copies = two.copies } in
    let after : Ring = c.end_collect.new.self in
    let ended : Ended d e now after = record { banks = three.touches.banks; others = three.others; area = three.ended.area; reserve = three.ended.reserve; stands = three.ended.stands; ready = three.ended.ready; end = three.ended.end; oldest = three.ended.ends.oldest; used = three.ended.ends.used } in
    let left : before.used + 1 ≡ before.area.sectors = eqb-true (before.used + 1) before.area.sectors c.requires.left in
    record {
      stopped = tt;
      touches = then (then c.in_ok-begin_collect.ensures.touches (subst (λ (x : Area). Touches (x ∷ []) b d false) one.area two.touches)) (subst (λ (x : Area). Touches (x ∷ []) d e false) (two.only.area ∙ one.area) three.touches);
      area = three.ended.area ∙ two.only.area ∙ one.area;
      settings = collected-settings a b d e before ring now after c.requires.ready left lawful one copied ended;
      undamaged = collected-undamaged a b d e before ring now after c.requires.ready left lawful one copied ended (g.met.F.Flash.is_lawful c.end_collect.new.flash);
      at_most =
          let copies = copied-now b d ring now one.stands one.stage two.copies in
          end-units a b before ring lawful c.requires.ready.stands one one.units d e now copies.0 (g.met.F.Flash.is_lawful c.copy_live.new.flash) two.touches.banks two.only.area copies.1 (spends_most d e 1 three.ended.units);
      collected = record {
        ready = collected-ready a b d e before ring now after c.requires.ready left lawful one copied ended (g.met.F.Flash.is_lawful c.end_collect.new.flash);
        collects = collected a b d e before ring now after c.requires.ready left lawful one copied ended;
        used = after-used a b d e before ring now after c.requires.ready left lawful one copied ended;
        reserve = three.ended.reserve ∙ two.only.reserve ∙ one.reserve;
      };
    }

pub returns-in_err-begin_collect-clause-settings : goal.returns-in_err-begin_collect-clause-settings
returns-in_err-begin_collect-clause-settings g c =
    let a : Device = g.F.Flash.device c.args.flash.now in
    let before : Ring = c.args.ring.now in
    let lawful = g.met.F.Flash.is_lawful c.args.flash.now in
    let b : Device = g.F.Flash.device c.begin_collect.new.flash in
    settings-kept a b before.area c.in_err-begin_collect.ensures.stopped.list

pub returns-in_err-begin_collect-clause-undamaged : goal.returns-in_err-begin_collect-clause-undamaged
returns-in_err-begin_collect-clause-undamaged g c =
    let a : Device = g.F.Flash.device c.args.flash.now in
    let before : Ring = c.args.ring.now in
    let lawful = g.met.F.Flash.is_lawful c.args.flash.now in
    let b : Device = g.F.Flash.device c.begin_collect.new.flash in
    undamaged-kept a b before.area lawful (g.met.F.Flash.is_lawful c.begin_collect.new.flash) c.requires.ready.stands.area c.in_err-begin_collect.ensures.touches.banks c.in_err-begin_collect.ensures.stopped.list c.requires.ready.undamaged

pub returns-in_err-begin_collect-clause-at_most : goal.returns-in_err-begin_collect-clause-at_most
returns-in_err-begin_collect-clause-at_most g c =
    let a : Device = g.F.Flash.device c.args.flash.now in
    let before : Ring = c.args.ring.now in
    let lawful = g.met.F.Flash.is_lawful c.args.flash.now in
    let b : Device = g.F.Flash.device c.begin_collect.new.flash in
    begin-units a b before lawful c.requires.ready.stands c.in_err-begin_collect.ensures.stopped.bound

pub copy_live-requires : goal.copy_live-requires
copy_live-requires g c =
    let a : Device = g.F.Flash.device c.args.flash.now in
    let before : Ring = c.args.ring.now in
    let b : Device = g.F.Flash.device c.begin_collect.new.flash in
    let ring : Ring = c.begin_collect.new.self in
    let one = c.in_ok-begin_collect.ensures.begun in
    record {
      undamaged =
          let lawful = g.met.F.Flash.is_lawful c.args.flash.now in
          begun-undamaged a b before ring one lawful (g.met.F.Flash.is_lawful c.begin_collect.new.flash) c.requires.ready;
      scratch = record {
        stands = one.stands;
        collecting = one.stage;
        no_copies = begun-fresh a b before ring one;
        end = begun-end a b before ring one;
      };
    }

pub returns-in_err-copy_live-clause-settings : goal.returns-in_err-copy_live-clause-settings
returns-in_err-copy_live-clause-settings g c =
    let a : Device = g.F.Flash.device c.args.flash.now in
    let before : Ring = c.args.ring.now in
    let lawful = g.met.F.Flash.is_lawful c.args.flash.now in
    let b : Device = g.F.Flash.device c.begin_collect.new.flash in
    let ring : Ring = c.begin_collect.new.self in
    let one = c.in_ok-begin_collect.ensures.begun in
    let d : Device = g.F.Flash.device c.copy_live.new.flash in
    let now : Ring = c.copy_live.new.ring in
    let two = c.in_err-copy_live.ensures in
    let kept : KeepsEntries a d before.area = keeps-then a b d before.area one.list (subst (λ (x : Area). KeepsEntries b d x) one.area two.only.list) in
    settings-kept a d before.area kept

pub returns-in_err-copy_live-clause-undamaged : goal.returns-in_err-copy_live-clause-undamaged
returns-in_err-copy_live-clause-undamaged g c =
    let a : Device = g.F.Flash.device c.args.flash.now in
    let before : Ring = c.args.ring.now in
    let lawful = g.met.F.Flash.is_lawful c.args.flash.now in
    let b : Device = g.F.Flash.device c.begin_collect.new.flash in
    let ring : Ring = c.begin_collect.new.self in
    let one = c.in_ok-begin_collect.ensures.begun in
    let d : Device = g.F.Flash.device c.copy_live.new.flash in
    let now : Ring = c.copy_live.new.ring in
    let two = c.in_err-copy_live.ensures in
    let kept : KeepsEntries a d before.area = keeps-then a b d before.area one.list (subst (λ (x : Area). KeepsEntries b d x) one.area two.only.list) in
    undamaged-kept a d before.area lawful (g.met.F.Flash.is_lawful c.copy_live.new.flash) c.requires.ready.stands.area (two.touches.banks ∙ one.banks) kept c.requires.ready.undamaged

pub returns-in_err-copy_live-clause-at_most : goal.returns-in_err-copy_live-clause-at_most
returns-in_err-copy_live-clause-at_most g c =
    let a : Device = g.F.Flash.device c.args.flash.now in
    let before : Ring = c.args.ring.now in
    let lawful = g.met.F.Flash.is_lawful c.args.flash.now in
    let b : Device = g.F.Flash.device c.begin_collect.new.flash in
    let ring : Ring = c.begin_collect.new.self in
    let one = c.in_ok-begin_collect.ensures.begun in
    let d : Device = g.F.Flash.device c.copy_live.new.flash in
    let now : Ring = c.copy_live.new.ring in
    let two = c.in_err-copy_live.ensures in
    let kept : KeepsEntries a d before.area = keeps-then a b d before.area one.list (subst (λ (x : Area). KeepsEntries b d x) one.area two.only.list) in
    stop-units a b before ring lawful c.requires.ready.stands one one.units d now two.stops

pub end_collect-requires : goal.end_collect-requires
end_collect-requires g c =
    let b : Device = g.F.Flash.device c.begin_collect.new.flash in
    let ring : Ring = c.begin_collect.new.self in
    let one = c.in_ok-begin_collect.ensures.begun in
    let d : Device = g.F.Flash.device c.copy_live.new.flash in
    let now : Ring = c.copy_live.new.ring in
    let two = c.in_ok-copy_live.ensures in
    let copies = copied-now b d ring now one.stands one.stage two.copies in
    record {
      stands = copies.1.stands;
      collecting = copies.1.stage;
    }

pub returns-in_err-end_collect-clause-touches : goal.returns-in_err-end_collect-clause-touches
returns-in_err-end_collect-clause-touches g c =
    let a : Device = g.F.Flash.device c.args.flash.now in
    let before : Ring = c.args.ring.now in
    let lawful = g.met.F.Flash.is_lawful c.args.flash.now in
    let b : Device = g.F.Flash.device c.begin_collect.new.flash in
    let ring : Ring = c.begin_collect.new.self in
    let one = c.in_ok-begin_collect.ensures.begun in
    let d : Device = g.F.Flash.device c.copy_live.new.flash in
    let now : Ring = c.copy_live.new.ring in
    let two = c.in_ok-copy_live.ensures in
    let copied : Copied b d ring now = record { banks = two.touches.banks; list = two.only.list; others = two.only.others; area = two.only.area; reserve = two.only.reserve; copies = two.copies } in
    let copies = copied-now b d ring now one.stands one.stage two.copies in
    let e : Device = g.F.Flash.device c.end_collect.new.flash in
    let three = c.in_err-end_collect.ensures in
    let kept : KeepsEntries a e before.area = keeps-then a d e before.area (keeps-then a b d before.area one.list (subst (λ (x : Area). KeepsEntries b d x) one.area two.only.list)) (subst (λ (x : Area). KeepsEntries d e x) (two.only.area ∙ one.area) three.stopped.list) in
    is_err_by c.from_residual-in_err-end_collect.result (Touches (before.area ∷ []) a e) c.from_residual-in_err-end_collect.ensures.0
    (then (then c.in_ok-begin_collect.ensures.touches (subst (λ (x : Area). Touches (x ∷ []) b d false) one.area two.touches)) (subst (λ (x : Area). Touches (x ∷ []) d e true) (two.only.area ∙ one.area) three.touches))

pub returns-in_err-end_collect-clause-settings : goal.returns-in_err-end_collect-clause-settings
returns-in_err-end_collect-clause-settings g c =
    let a : Device = g.F.Flash.device c.args.flash.now in
    let before : Ring = c.args.ring.now in
    let lawful = g.met.F.Flash.is_lawful c.args.flash.now in
    let b : Device = g.F.Flash.device c.begin_collect.new.flash in
    let ring : Ring = c.begin_collect.new.self in
    let one = c.in_ok-begin_collect.ensures.begun in
    let d : Device = g.F.Flash.device c.copy_live.new.flash in
    let now : Ring = c.copy_live.new.ring in
    let two = c.in_ok-copy_live.ensures in
    let copied : Copied b d ring now = record { banks = two.touches.banks; list = two.only.list; others = two.only.others; area = two.only.area; reserve = two.only.reserve; copies = two.copies } in
    let copies = copied-now b d ring now one.stands one.stage two.copies in
    let e : Device = g.F.Flash.device c.end_collect.new.flash in
    let three = c.in_err-end_collect.ensures in
    let kept : KeepsEntries a e before.area = keeps-then a d e before.area (keeps-then a b d before.area one.list (subst (λ (x : Area). KeepsEntries b d x) one.area two.only.list)) (subst (λ (x : Area). KeepsEntries d e x) (two.only.area ∙ one.area) three.stopped.list) in
    settings-kept a e before.area kept

pub returns-in_err-end_collect-clause-undamaged : goal.returns-in_err-end_collect-clause-undamaged
returns-in_err-end_collect-clause-undamaged g c =
    let a : Device = g.F.Flash.device c.args.flash.now in
    let before : Ring = c.args.ring.now in
    let lawful = g.met.F.Flash.is_lawful c.args.flash.now in
    let b : Device = g.F.Flash.device c.begin_collect.new.flash in
    let ring : Ring = c.begin_collect.new.self in
    let one = c.in_ok-begin_collect.ensures.begun in
    let d : Device = g.F.Flash.device c.copy_live.new.flash in
    let now : Ring = c.copy_live.new.ring in
    let two = c.in_ok-copy_live.ensures in
    let copied : Copied b d ring now = record { banks = two.touches.banks; list = two.only.list; others = two.only.others; area = two.only.area; reserve = two.only.reserve; copies = two.copies } in
    let copies = copied-now b d ring now one.stands one.stage two.copies in
    let e : Device = g.F.Flash.device c.end_collect.new.flash in
    let three = c.in_err-end_collect.ensures in
    let kept : KeepsEntries a e before.area = keeps-then a d e before.area (keeps-then a b d before.area one.list (subst (λ (x : Area). KeepsEntries b d x) one.area two.only.list)) (subst (λ (x : Area). KeepsEntries d e x) (two.only.area ∙ one.area) three.stopped.list) in
    undamaged-kept a e before.area lawful (g.met.F.Flash.is_lawful c.end_collect.new.flash) c.requires.ready.stands.area (three.touches.banks ∙ two.touches.banks ∙ one.banks) kept c.requires.ready.undamaged

pub returns-in_err-end_collect-clause-at_most : goal.returns-in_err-end_collect-clause-at_most
returns-in_err-end_collect-clause-at_most g c =
    let a : Device = g.F.Flash.device c.args.flash.now in
    let before : Ring = c.args.ring.now in
    let lawful = g.met.F.Flash.is_lawful c.args.flash.now in
    let b : Device = g.F.Flash.device c.begin_collect.new.flash in
    let ring : Ring = c.begin_collect.new.self in
    let one = c.in_ok-begin_collect.ensures.begun in
    let d : Device = g.F.Flash.device c.copy_live.new.flash in
    let now : Ring = c.copy_live.new.ring in
    let two = c.in_ok-copy_live.ensures in
    let copied : Copied b d ring now = record { banks = two.touches.banks; list = two.only.list; others = two.only.others; area = two.only.area; reserve = two.only.reserve; copies = two.copies } in
    let copies = copied-now b d ring now one.stands one.stage two.copies in
    let e : Device = g.F.Flash.device c.end_collect.new.flash in
    let three = c.in_err-end_collect.ensures in
    let kept : KeepsEntries a e before.area = keeps-then a d e before.area (keeps-then a b d before.area one.list (subst (λ (x : Area). KeepsEntries b d x) one.area two.only.list)) (subst (λ (x : Area). KeepsEntries d e x) (two.only.area ∙ one.area) three.stopped.list) in
    end-units a b before ring lawful c.requires.ready.stands one one.units d e now copies.0 (g.met.F.Flash.is_lawful c.copy_live.new.flash) two.touches.banks two.only.area copies.1 three.stopped.bound

pub returns-in_err-begin_collect-clause-stopped : goal.returns-in_err-begin_collect-clause-stopped
returns-in_err-begin_collect-clause-stopped g c =
    let b : Device = g.F.Flash.device c.begin_collect.new.flash in
    on_err c.from_residual.result (record {
      down = c.in_err-begin_collect.ensures.stopped.down;
      due = cut-due (g.F.Flash.device c.args.flash.now) b c.args.ring.now c.requires.ready.stands c.requires.ready.ready c.in_err-begin_collect.ensures.touches.banks (next_place c.args.ring.now) c.in_err-begin_collect.ensures.stopped.others;
      lost = λ on. header-chance b c.args.ring.now.area (g.met.F.Flash.is_lawful c.begin_collect.new.flash) (area_after (g.F.Flash.device c.args.flash.now) b c.args.ring.now.area c.in_err-begin_collect.ensures.touches.banks c.requires.ready.stands.area) (next_place c.args.ring.now) (c.in_err-begin_collect.ensures.stopped.lost on);
    })

pub returns-in_err-copy_live-clause-stopped : goal.returns-in_err-copy_live-clause-stopped
returns-in_err-copy_live-clause-stopped g c =
    let one = c.in_ok-begin_collect.ensures.begun in
    on_err c.from_residual-in_err-copy_live.result (record {
      down = c.in_err-copy_live.ensures.stops.down;
      due =
          let a : Device = g.F.Flash.device c.args.flash.now in
          let b : Device = g.F.Flash.device c.begin_collect.new.flash in
          let d : Device = g.F.Flash.device c.copy_live.new.flash in
          cut-due a d c.args.ring.now c.requires.ready.stands c.requires.ready.ready (c.in_err-copy_live.ensures.touches.banks ∙ one.banks) (next_place c.args.ring.now)
          (scratch-others a b c.args.ring.now c.begin_collect.new.self one d c.in_err-copy_live.ensures.only.others);
      lost = lost-then (g.F.Flash.device c.args.flash.now) (g.F.Flash.device c.begin_collect.new.flash) (g.F.Flash.device c.copy_live.new.flash) c.args.ring.now.area c.begin_collect.new.self.area c.in_ok-begin_collect.ensures.touches one.area c.in_err-copy_live.ensures.lost;
    })

pub returns-in_err-end_collect-clause-stopped : goal.returns-in_err-end_collect-clause-stopped
returns-in_err-end_collect-clause-stopped g c =
    let a : Device = g.F.Flash.device c.args.flash.now in
    let b : Device = g.F.Flash.device c.begin_collect.new.flash in
    let d : Device = g.F.Flash.device c.copy_live.new.flash in
    let e : Device = g.F.Flash.device c.end_collect.new.flash in
    let area : Area = c.args.ring.now.area in
    let one = c.in_ok-begin_collect.ensures.begun in
    let two = c.in_ok-copy_live.ensures in
    let three = c.in_err-end_collect.ensures in
    let touches : Touches (area ∷ []) a d false = then c.in_ok-begin_collect.ensures.touches (subst (λ (x : Area). Touches (x ∷ []) b d false) one.area two.touches) in
    let erase : (on : d.is_on ≡ true) → HasNoChance e c.copy_live.new.ring.area = λ on. erase-chance e c.copy_live.new.ring.area (g.met.F.Flash.is_lawful c.end_collect.new.flash) (area_after d e c.copy_live.new.ring.area three.touches.banks (copied-now b d c.begin_collect.new.self c.copy_live.new.ring one.stands one.stage two.copies).1.stands.area) c.copy_live.new.ring.oldest (three.stopped.lost on) in
    on_err c.from_residual-in_err-end_collect.result (record {
      down = c.in_err-end_collect.ensures.stopped.ring.down;
      due =
          cut-due a e c.args.ring.now c.requires.ready.stands c.requires.ready.ready (three.touches.banks ∙ two.touches.banks ∙ one.banks) (next_place c.args.ring.now)
          (same-others a d e area (next_place c.args.ring.now) (scratch-others a b c.args.ring.now c.begin_collect.new.self one d two.only.others)
          (subst (λ (x : Area). sectors_of e x ≡ sectors_of d x) (two.only.area ∙ one.area) three.stopped.same));
      lost = lost-then a d e area c.copy_live.new.ring.area touches (two.only.area ∙ one.area) erase;
    })
