-- the mount, then each line, is carried out behind those before it; or memory was wanting
use Rattle.std.proofs.Common.{◌+◌, ◌≤◌, List, [], ◌∷◌, ◌++◌, length, Ok, Err, inl, refl, sym, subst, ◌∙◌, arith}
use Rattle.std.proofs.lemmas.Result.{err_from_is_err_and}
use Rattle.flash_map.specs.declared.area.Area.{Area}
use Rattle.flash_sim.specs.declared.flash.Bank.{Bank}
use Rattle.item_store.specs.Standing.{IsStoreArea}
use Rattle.item_session.specs.declared.fault.SessionFault.TheVariants.{NoMemory}
use Rattle.item_session.specs.declared.line.Line.{Line}
use Rattle.item_session.specs.declared.line.Line.TheVariants.{Mount}
use Rattle.item_session.specs.Device.{IsServedOn}
use Rattle.item_session.specs.LineDone.{LineDone}
use Rattle.item_session.proofs.FoldLemmas.{left_as, one_more, opened, ran, served_there, sound_at, stops, stops_next, stops_open, stops_sound}
use Rattle.item_session.proofs.OwesLemmas.{owes-after, run-banks, run-boots}
use Rattle.item_session.proofs.RestLemmas.{rests_still}
use Rattle.item_session.proofs.running.run_lines.Goals as goal

pub loop-line-init : goal.loop-line-init
loop-line-init g c =
    let device = g.B.Flash.device in
    let done = c.in_ok-session.ensures.done in
    record {
      so_far = rw (c.in-Ok.ensures.ok, c.new-answers.ensures) (opened g.T.SlotSectors.format_of c.args.area.now c.args.lines.now c.in_ok-session.first (device c.args.bench.now) (device c.open.new.bench) c.in_ok-session.ensures.done);
      ready = c.in_ok-session.ensures.ready;
      area = c.in_ok-session.ensures.area;
      banks = done.keeps.banks;
    }

pub carry_out-requires-clause-line : goal.carry_out-requires-clause-line
carry_out-requires-clause-line g c =
    let device = g.B.Flash.device in
    let format_of = g.T.SlotSectors.format_of in
    let served = subst (λ (x : Line). IsServedOn format_of (device c.args.bench.now) c.args.area.now x) (sym c.line-item.is) (c.requires.lines c.loop-line.line-index c.line-item.result c.loop-line-test.true) in
    served_there format_of c.args.area.now c.loop-line.session.area (device c.args.bench.now) (device c.loop-line.bench) c.line-item.result c.loop-line.invariant.banks c.loop-line.invariant.area served

pub loop-line-preserved : goal.loop-line-preserved
loop-line-preserved g c =
    let device = g.B.Flash.device in
    let format_of = g.T.SlotSectors.format_of in
    let so_far = c.loop-line.invariant in
    let done = subst (λ (a : Area). LineDone format_of a c.line-item.result c.in-Ok-carry_out.answer (device c.loop-line.bench) (device c.carry_out.new.bench)) so_far.area c.in-Ok-carry_out.ensures.done in
    let here = one_more format_of c.args.area.now c.args.lines.now c.loop-line.line-index c.line-item.result c.loop-line.answers c.in-Ok-carry_out.answer (device c.args.bench.now) (device c.loop-line.bench) (device c.carry_out.new.bench)
    c.loop-line-test.true c.line-item.is so_far.so_far done in
    record {
      so_far = rw (c.in-Ok-push.ensures.ok) here;
      ready = c.in-Ok-carry_out.ensures.ready;
      area = c.carry_out.ensures.area ∙ so_far.area;
      banks = done.keeps.banks ∙ so_far.banks;
    }

pub returns-clause-ends : goal.returns-clause-ends
returns-clause-ends g c =
    let device = g.B.Flash.device in
    let all : length c.args.lines.now ≤ c.loop-line.line-index = omega (arith, c.loop-line-test.false) in
    (c.in_ok-session.ensures.before, ran g.T.SlotSectors.format_of c.args.area.now c.args.lines.now c.loop-line.line-index c.loop-line.answers (device c.args.bench.now) (device c.loop-line.bench) all c.loop-line.invariant.so_far)

pub returns-clause-undamaged : goal.returns-clause-undamaged
returns-clause-undamaged g c = λ was.
    let ready = c.loop-line.invariant.ready in
    sound_at g.T.SlotSectors.format_of c.args.area.now c.loop-line.session.area (g.B.Flash.device c.loop-line.bench) c.loop-line.invariant.area ready.sound.undamaged

pub returns-clause-rests : goal.returns-clause-rests
returns-clause-rests g c = λ on.
    rests_still g.T.SlotSectors.role g.T.SlotSectors.format_of g.T.SlotSectors.kept g.met.T.SlotSectors.lawful (g.B.Flash.device c.loop-line.bench) (g.met.B.Flash.is_lawful c.loop-line.bench) c.args.area.now c.loop-line.session c.loop-line.invariant.area c.loop-line.invariant.ready on

pub returns-in-Err-carry_out-clause-ends : goal.returns-in-Err-carry_out-clause-ends
returns-in-Err-carry_out-clause-ends g c =
    let device = g.B.Flash.device in
    stops_next g.T.SlotSectors.format_of c.args.area.now c.args.lines.now c.loop-line.line-index c.line-item.result c.loop-line.answers (device c.args.bench.now) (device c.loop-line.bench) (device c.carry_out.new.bench) c.loop-line-test.true c.line-item.is c.loop-line.invariant.so_far
    (left_as g.T.SlotSectors.format_of c.loop-line.session.area c.line-item.result (device c.loop-line.bench) (device c.carry_out.new.bench) c.in-Err-carry_out.ensures.wants)

pub returns-in-Err-carry_out-clause-undamaged : goal.returns-in-Err-carry_out-clause-undamaged
returns-in-Err-carry_out-clause-undamaged g c = λ was.
    sound_at g.T.SlotSectors.format_of c.args.area.now c.loop-line.session.area (g.B.Flash.device c.carry_out.new.bench) c.loop-line.invariant.area c.carry_out.ensures.undamaged

pub returns-in-Err-push-clause-ends : goal.returns-in-Err-push-clause-ends
returns-in-Err-push-clause-ends g c =
    let device = g.B.Flash.device in
    let format_of = g.T.SlotSectors.format_of in
    let so_far = c.loop-line.invariant in
    let done = subst (λ (a : Area). LineDone format_of a c.line-item.result c.in-Ok-carry_out.answer (device c.loop-line.bench) (device c.carry_out.new.bench)) so_far.area c.in-Ok-carry_out.ensures.done in
    let here = one_more format_of c.args.area.now c.args.lines.now c.loop-line.line-index c.line-item.result c.loop-line.answers c.in-Ok-carry_out.answer (device c.args.bench.now) (device c.loop-line.bench) (device c.carry_out.new.bench)
    c.loop-line-test.true c.line-item.is so_far.so_far done in
    stops format_of c.args.area.now c.args.lines.now (c.loop-line.line-index + 1) (c.loop-line.answers ++ c.in-Ok-carry_out.answer ∷ []) (device c.args.bench.now) (device c.carry_out.new.bench) (device c.carry_out.new.bench) here (inl refl)

pub returns-in-Err-push-clause-undamaged : goal.returns-in-Err-push-clause-undamaged
returns-in-Err-push-clause-undamaged g c = λ was.
    sound_at g.T.SlotSectors.format_of c.args.area.now c.loop-line.session.area (g.B.Flash.device c.carry_out.new.bench) c.loop-line.invariant.area c.carry_out.ensures.undamaged

pub returns-in-Err-clause-ends : goal.returns-in-Err-clause-ends
returns-in-Err-clause-ends g c =
    let device = g.B.Flash.device in
    let here = opened g.T.SlotSectors.format_of c.args.area.now c.args.lines.now c.in_ok-session.first (device c.args.bench.now) (device c.open.new.bench) c.in_ok-session.ensures.done in
    stops g.T.SlotSectors.format_of c.args.area.now c.args.lines.now 0 ([] ++ c.in_ok-session.first ∷ []) (device c.args.bench.now) (device c.open.new.bench) (device c.open.new.bench) here (inl refl)

pub returns-in-Err-clause-undamaged : goal.returns-in-Err-clause-undamaged
returns-in-Err-clause-undamaged g c = λ was.
    let ready = c.in_ok-session.ensures.ready in
    sound_at g.T.SlotSectors.format_of c.args.area.now c.in_ok-session.session.area (g.B.Flash.device c.open.new.bench) c.in_ok-session.ensures.area ready.sound.undamaged

pub returns-in_err-session-clause-ends : goal.returns-in_err-session-clause-ends
returns-in_err-session-clause-ends g c =
    let device = g.B.Flash.device in
    let fault = err_from_is_err_and c.from_residual.result c.from_residual.ensures.1 in
    rw (fault.1, fault.2) (stops_open g.T.SlotSectors.format_of c.args.area.now c.args.lines.now (device c.args.bench.now) (device c.open.new.bench) c.in_err-session.field-0.0 c.in_err-session.ensures.stops)

pub returns-in_err-session-clause-undamaged : goal.returns-in_err-session-clause-undamaged
returns-in_err-session-clause-undamaged g c = λ was.
    let device = g.B.Flash.device in
    stops_sound g.T.SlotSectors.format_of c.args.area.now (device c.args.bench.now) (device c.open.new.bench) c.in_err-session.field-0.0 c.in_err-session.ensures.stops was

pub returns-clause-boots : goal.returns-clause-boots
returns-clause-boots g c =
    let device = g.B.Flash.device in
    run-boots g.T.SlotSectors.format_of c.args.area.now (Mount ∷ c.args.lines.now) (device c.args.bench.now) (device c.loop-line.bench) (Ok c.loop-line.answers) (returns-clause-ends g c)

pub returns-clause-left : goal.returns-clause-left
returns-clause-left g c = λ was.
    let d = g.B.Flash.device c.args.bench.now in
    let e = g.B.Flash.device c.loop-line.bench in
    let s = g.T.SlotSectors in
    let banks = run-banks s.format_of c.args.area.now (Mount ∷ c.args.lines.now) d e (Ok c.loop-line.answers) (returns-clause-ends g c) in
    let own = subst (λ (all : List Bank). IsStoreArea s.role all c.args.area.now) (sym banks) c.requires.area in
    owes-after s.role s.format_of g.met.T.SlotSectors.lawful e (g.met.B.Flash.is_lawful c.loop-line.bench) c.args.area.now own (returns-clause-undamaged g c was) d banks

pub returns-in-Err-carry_out-clause-left : goal.returns-in-Err-carry_out-clause-left
returns-in-Err-carry_out-clause-left g c = λ was.
    let d = g.B.Flash.device c.args.bench.now in
    let e = g.B.Flash.device c.carry_out.new.bench in
    let s = g.T.SlotSectors in
    let banks = run-banks s.format_of c.args.area.now (Mount ∷ c.args.lines.now) d e (Err NoMemory) (returns-in-Err-carry_out-clause-ends g c) in
    let own = subst (λ (all : List Bank). IsStoreArea s.role all c.args.area.now) (sym banks) c.requires.area in
    owes-after s.role s.format_of g.met.T.SlotSectors.lawful e (g.met.B.Flash.is_lawful c.carry_out.new.bench) c.args.area.now own (returns-in-Err-carry_out-clause-undamaged g c was) d banks

pub returns-in-Err-push-clause-left : goal.returns-in-Err-push-clause-left
returns-in-Err-push-clause-left g c = λ was.
    let d = g.B.Flash.device c.args.bench.now in
    let e = g.B.Flash.device c.carry_out.new.bench in
    let s = g.T.SlotSectors in
    let banks = run-banks s.format_of c.args.area.now (Mount ∷ c.args.lines.now) d e (Err NoMemory) (returns-in-Err-push-clause-ends g c) in
    let own = subst (λ (all : List Bank). IsStoreArea s.role all c.args.area.now) (sym banks) c.requires.area in
    owes-after s.role s.format_of g.met.T.SlotSectors.lawful e (g.met.B.Flash.is_lawful c.carry_out.new.bench) c.args.area.now own (returns-in-Err-push-clause-undamaged g c was) d banks

pub returns-in-Err-clause-left : goal.returns-in-Err-clause-left
returns-in-Err-clause-left g c = λ was.
    let d = g.B.Flash.device c.args.bench.now in
    let e = g.B.Flash.device c.open.new.bench in
    let s = g.T.SlotSectors in
    let banks = run-banks s.format_of c.args.area.now (Mount ∷ c.args.lines.now) d e (Err NoMemory) (returns-in-Err-clause-ends g c) in
    let own = subst (λ (all : List Bank). IsStoreArea s.role all c.args.area.now) (sym banks) c.requires.area in
    owes-after s.role s.format_of g.met.T.SlotSectors.lawful e (g.met.B.Flash.is_lawful c.open.new.bench) c.args.area.now own (returns-in-Err-clause-undamaged g c was) d banks

pub returns-in_err-session-clause-left : goal.returns-in_err-session-clause-left
returns-in_err-session-clause-left g c = λ was.
    let d = g.B.Flash.device c.args.bench.now in
    let e = g.B.Flash.device c.open.new.bench in
    let s = g.T.SlotSectors in
    let banks = run-banks s.format_of c.args.area.now (Mount ∷ c.args.lines.now) d e c.from_residual.result (returns-in_err-session-clause-ends g c) in
    let own = subst (λ (all : List Bank). IsStoreArea s.role all c.args.area.now) (sym banks) c.requires.area in
    owes-after s.role s.format_of g.met.T.SlotSectors.lawful e (g.met.B.Flash.is_lawful c.open.new.bench) c.args.area.now own (returns-in_err-session-clause-undamaged g c was) d banks
