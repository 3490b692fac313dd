-- the mount, then each line, is carried out behind those before it; or memory was wanting
use Rattle.std.proofs.Common.{◌+◌, ◌≤◌, [], ◌∷◌, ◌++◌, length, Ok, Err, sym, subst, ◌∙◌, arith}
use Rattle.flash_sim.specs.Device.{Device}
use Rattle.flash_map.specs.declared.area.Area.{Area}
use Rattle.log_session.specs.declared.fault.SessionFault.TheVariants.{Damaged as IsDamaged, NoMemory}
use Rattle.log_session.specs.LineDone.{LineDone}
use Rattle.log_session.specs.Running.{RunStops}
use Rattle.log_session.proofs.FoldLemmas.{one_more, opened, ran, sound_still, rested_still, stops}
use Rattle.log_session.proofs.OwesLemmas.{run-boots}
use Rattle.log_session.specs.declared.line.Line.TheVariants.{Mount}
use Rattle.log_session.proofs.running.run_lines.Goals as goal

pub loop-line-init : goal.loop-line-init
loop-line-init g c =
    let device = g.B.Flash.device in
    record {
      so_far = rw (c.in-Ok-push.ensures.ok, c.new-answers.ensures) (opened c.args.area.now c.args.lines.now c.in-Ok.opened.1 (device c.args.bench.now) (device c.open.new.bench) c.in-Ok.ensures.done);
      ready = c.in-Ok.ensures.ready;
      area = c.in-Ok.ensures.area;
    }

pub loop-line-preserved : goal.loop-line-preserved
loop-line-preserved g c =
    let device = g.B.Flash.device in
    let so_far = c.loop-line.invariant in
    let done = subst (λ (a : Area). LineDone a c.line-item.result c.in-Ok-carry_out.answer (device c.loop-line.bench) (device c.carry_out.new.bench)) so_far.area c.in-Ok-carry_out.ensures.done in
    let here = one_more c.args.area.now c.args.lines.now c.loop-line.line-index c.line-item.result c.loop-line.answers c.in-Ok-carry_out.answer (device c.args.bench.now) (device c.loop-line.bench) (device c.carry_out.new.bench)
    c.loop-line-test.true c.line-item.is so_far.so_far done in
    record { so_far = rw (c.in-Ok-push-2.ensures.ok) here; ready = c.carry_out.ensures.ready; area = c.carry_out.ensures.area ∙ so_far.area }

pub returns-clause-ends : goal.returns-clause-ends
returns-clause-ends g c =
    let device = g.B.Flash.device in
    let all : length c.args.lines.now ≤ c.loop-line.line-index = omega (arith, c.loop-line-test.false) in
    (c.in-Ok.ensures.before, ran c.args.area.now c.args.lines.now c.loop-line.line-index c.loop-line.answers (device c.args.bench.now) (device c.loop-line.bench) all c.loop-line.invariant.so_far)

pub returns-clause-undamaged : goal.returns-clause-undamaged
returns-clause-undamaged g c = λ was. sound_still c.args.area.now (g.B.Flash.device c.loop-line.bench) c.loop-line.session c.loop-line.invariant.area c.loop-line.invariant.ready

pub returns-clause-rests : goal.returns-clause-rests
returns-clause-rests g c = λ on. rested_still c.args.area.now (g.B.Flash.device c.loop-line.bench) c.loop-line.session c.loop-line.invariant.area c.loop-line.invariant.ready on

pub returns-in-Err-carry_out-clause-ends : goal.returns-in-Err-carry_out-clause-ends
returns-in-Err-carry_out-clause-ends g c =
    let device = g.B.Flash.device in (
      c.in-Ok.ensures.before,
      subst (λ (d : Device). RunStops c.args.area.now (Mount ∷ c.args.lines.now) (device c.args.bench.now) d) (sym c.in-Err-carry_out.ensures.same)
          (stops c.args.area.now c.args.lines.now c.loop-line.line-index c.loop-line.answers (device c.args.bench.now) (device c.loop-line.bench) c.loop-line.invariant.so_far),
    )

pub returns-in-Err-carry_out-clause-undamaged : goal.returns-in-Err-carry_out-clause-undamaged
returns-in-Err-carry_out-clause-undamaged g c = λ was.
    sound_still c.args.area.now (g.B.Flash.device c.carry_out.new.bench) c.carry_out.new.self (c.carry_out.ensures.area ∙ c.loop-line.invariant.area) c.carry_out.ensures.ready

pub returns-in-Err-push-2-clause-ends : goal.returns-in-Err-push-2-clause-ends
returns-in-Err-push-2-clause-ends g c =
    let device = g.B.Flash.device in
    let so_far = c.loop-line.invariant in
    let done = subst (λ (a : Area). LineDone a c.line-item.result c.in-Ok-carry_out.answer (device c.loop-line.bench) (device c.carry_out.new.bench)) so_far.area c.in-Ok-carry_out.ensures.done in
    let here = one_more c.args.area.now c.args.lines.now c.loop-line.line-index c.line-item.result c.loop-line.answers c.in-Ok-carry_out.answer (device c.args.bench.now) (device c.loop-line.bench) (device c.carry_out.new.bench)
    c.loop-line-test.true c.line-item.is so_far.so_far done in
    (c.in-Ok.ensures.before, stops c.args.area.now c.args.lines.now (c.loop-line.line-index + 1) (c.loop-line.answers ++ c.in-Ok-carry_out.answer ∷ []) (device c.args.bench.now) (device c.carry_out.new.bench) here)

pub returns-in-Err-push-2-clause-undamaged : goal.returns-in-Err-push-2-clause-undamaged
returns-in-Err-push-2-clause-undamaged g c = λ was.
    sound_still c.args.area.now (g.B.Flash.device c.carry_out.new.bench) c.carry_out.new.self (c.carry_out.ensures.area ∙ c.loop-line.invariant.area) c.carry_out.ensures.ready

pub returns-in-Err-push-clause-ends : goal.returns-in-Err-push-clause-ends
returns-in-Err-push-clause-ends g c =
    let device = g.B.Flash.device in
    let here = opened c.args.area.now c.args.lines.now c.in-Ok.opened.1 (device c.args.bench.now) (device c.open.new.bench) c.in-Ok.ensures.done in
    (c.in-Ok.ensures.before, stops c.args.area.now c.args.lines.now 0 ([] ++ c.in-Ok.opened.1 ∷ []) (device c.args.bench.now) (device c.open.new.bench) here)

pub returns-in-Err-push-clause-undamaged : goal.returns-in-Err-push-clause-undamaged
returns-in-Err-push-clause-undamaged g c = λ was. sound_still c.args.area.now (g.B.Flash.device c.open.new.bench) c.in-Ok.opened.0 c.in-Ok.ensures.area c.in-Ok.ensures.ready

pub returns-clause-boots : goal.returns-clause-boots
returns-clause-boots g c =
    let device = g.B.Flash.device in
    run-boots c.args.area.now (Mount ∷ c.args.lines.now) (device c.args.bench.now) (device c.loop-line.bench) (Ok c.loop-line.answers) (returns-clause-ends g c)

pub returns-in-Err-carry_out-clause-boots : goal.returns-in-Err-carry_out-clause-boots
returns-in-Err-carry_out-clause-boots g c =
    let device = g.B.Flash.device in
    run-boots c.args.area.now (Mount ∷ c.args.lines.now) (device c.args.bench.now) (device c.carry_out.new.bench) (Err NoMemory) (returns-in-Err-carry_out-clause-ends g c)

pub returns-in-Err-push-2-clause-boots : goal.returns-in-Err-push-2-clause-boots
returns-in-Err-push-2-clause-boots g c =
    let device = g.B.Flash.device in
    run-boots c.args.area.now (Mount ∷ c.args.lines.now) (device c.args.bench.now) (device c.carry_out.new.bench) (Err NoMemory) (returns-in-Err-push-2-clause-ends g c)

pub returns-in-Err-push-clause-boots : goal.returns-in-Err-push-clause-boots
returns-in-Err-push-clause-boots g c =
    let device = g.B.Flash.device in
    run-boots c.args.area.now (Mount ∷ c.args.lines.now) (device c.args.bench.now) (device c.open.new.bench) (Err NoMemory) (returns-in-Err-push-clause-ends g c)

pub returns-in-Err-clause-boots : goal.returns-in-Err-clause-boots
returns-in-Err-clause-boots g c =
    let device = g.B.Flash.device in
    run-boots c.args.area.now (Mount ∷ c.args.lines.now) (device c.args.bench.now) (device c.open.new.bench) (Err (IsDamaged c.in-Err.damaged)) c.in-Err.ensures.damaged
