-- the mount, then each line, is carried out after those before it; or it stopped; or memory was wanting for its answer
use Rattle.std.proofs.Common.{◌+◌, ◌≤◌, [], ◌∷◌, ◌++◌, length, is_some, arith}
use Rattle.session.specs.Owing.{greatest_boot}
use Rattle.mirror_session.specs.Bench.{meanings}
use Rattle.mirror_session.proofs.BlankOwes.{blanked_owe}
use Rattle.mirror_session.proofs.FoldLemmas.{lacks, one_more, opened, ran, stops_at, stops_first}
use Rattle.mirror_session.proofs.OwesLemmas.{none-less, owing-ends, owing-first, owing-next, owing-stops}
use Rattle.mirror_session.proofs.PlaceLemmas.{first_stores, map_kept}
use Rattle.mirror_session.proofs.HeldLemmas.{rests_now}
use Rattle.mirror_session.proofs.TextLemmas.{can_report_all}
use Rattle.mirror_session.specs.declared.line.Line.TheVariants.{Mount}
use Rattle.mirror_session.proofs.running.run_lines.Goals as goal

pub loop-line-init : goal.loop-line-init
loop-line-init g c =
    let device = g.B.Flash.device in
    let K = g.K.Backend in
    let m = meanings K.damage K.contents K.rests K.room g.K.Priced.prices K.owes in
    record {
      going = record {
        so_far = rw (c.in-Ok-push.ensures.ok, c.new-answers.ensures) (opened m c.args.map.now c.args.lines.now c.in-Ok.opened.1 (device c.args.bench.now) (device c.open.new.bench) (is_some c.in-Ok.opened.0.mirror) c.in-Ok.ensures.done);
        ready = c.in-Ok.ensures.ready;
        map = map_kept K.serves c.args.map.now (device c.args.bench.now) (device c.open.new.bench) c.open.ensures.banks c.requires.map;
      };
      owed = rw (c.in-Ok-push.ensures.ok, c.new-answers.ensures) (owing-first K.owes m c.args.map.now K.serves (greatest_boot K.boot_units (device c.args.bench.now).banks c.args.map.now) c.args.lines.now c.in-Ok.opened.1 (device c.args.bench.now) (device c.open.new.bench) (is_some c.in-Ok.opened.0.mirror)
          c.requires.map c.open.ensures.banks c.in-Ok.ensures.done c.in-Ok.ensures.boots c.in-Ok.ensures.left
          (blanked_owe K.serves K.rests K.owes c.args.map.now (device c.args.bench.now) c.requires.map (g.met.B.Flash.is_lawful c.args.bench.now) (λ x a fine is served blank. g.met.K.Priced.blank_rests x a fine is served blank) (λ a h x n is. g.met.K.Backend.rests_owe a h x n is)));
    }

pub carry_out-requires-clause-map : goal.carry_out-requires-clause-map
carry_out-requires-clause-map g c = c.loop-line.invariant.going.map

pub carry_out-requires-clause-ready : goal.carry_out-requires-clause-ready
carry_out-requires-clause-ready g c = c.loop-line.invariant.going.ready

pub loop-line-preserved : goal.loop-line-preserved
loop-line-preserved g c =
    let device = g.B.Flash.device in
    let K = g.K.Backend in
    let m = meanings K.damage K.contents K.rests K.room g.K.Priced.prices K.owes in
    let so_far = c.loop-line.invariant.going in
    let here = one_more m c.args.map.now c.args.lines.now c.loop-line.line-index c.line-item.result c.loop-line.answers c.in-Ok-carry_out.answer (device c.args.bench.now) (device c.loop-line.bench) (device c.carry_out.new.bench)
    (is_some c.loop-line.session.mirror) (is_some c.carry_out.new.self.mirror) c.loop-line-test.true c.line-item.is so_far.so_far c.in-Ok-carry_out.ensures.done in
    record {
      going = record {
        so_far = rw (c.in-Ok-push-2.ensures.ok) here;
        ready = c.in-Ok-carry_out.ensures.ready;
        map = map_kept K.serves c.args.map.now (device c.loop-line.bench) (device c.carry_out.new.bench) c.carry_out.ensures.banks so_far.map;
      };
      owed = rw (c.in-Ok-push-2.ensures.ok) (owing-next K.owes m c.args.map.now K.serves K.boot_units c.args.lines.now c.loop-line.line-index c.line-item.result c.loop-line.answers c.in-Ok-carry_out.answer (device c.args.bench.now) (device c.loop-line.bench) (device c.carry_out.new.bench)
          (is_some c.loop-line.session.mirror) (is_some c.carry_out.new.self.mirror) so_far.map c.loop-line-test.true c.line-item.is c.loop-line.invariant.owed c.carry_out.ensures.banks c.in-Ok-carry_out.ensures.done c.in-Ok-carry_out.ensures.boots c.in-Ok-carry_out.ensures.left
          (blanked_owe K.serves K.rests K.owes c.args.map.now (device c.loop-line.bench) so_far.map (g.met.B.Flash.is_lawful c.loop-line.bench) (λ x a fine is served blank. g.met.K.Priced.blank_rests x a fine is served blank) (λ a h x n is. g.met.K.Backend.rests_owe a h x n is)));
    }

pub returns-clause-ends : goal.returns-clause-ends
returns-clause-ends g c =
    let device = g.B.Flash.device in
    let K = g.K.Backend in
    let m = meanings K.damage K.contents K.rests K.room g.K.Priced.prices K.owes in
    let all : length c.args.lines.now ≤ c.loop-line.line-index = omega (arith, c.loop-line-test.false) in
    ran m c.args.map.now c.args.lines.now c.loop-line.line-index c.loop-line.answers (device c.args.bench.now) (device c.loop-line.bench) (is_some c.loop-line.session.mirror) all c.loop-line.invariant.going.so_far
    (rests_now K.mounted_on K.stands m K.serves c.args.map.now (device c.loop-line.bench) c.loop-line.invariant.going.map (λ s h x is. g.met.K.Backend.stands_rests s h x is) c.loop-line.session.mirror c.loop-line.invariant.going.ready)

pub returns-in-Err-clause-ends : goal.returns-in-Err-clause-ends
returns-in-Err-clause-ends g c =
    let device = g.B.Flash.device in
    let K = g.K.Backend in
    let m = meanings K.damage K.contents K.rests K.room g.K.Priced.prices K.owes in
    stops_first m c.args.map.now c.args.lines.now (device c.args.bench.now) (device c.open.new.bench) c.in-Err.fault c.in-Err.ensures.stops

pub returns-in-Err-push-clause-ends : goal.returns-in-Err-push-clause-ends
returns-in-Err-push-clause-ends g c =
    let device = g.B.Flash.device in
    let K = g.K.Backend in
    let m = meanings K.damage K.contents K.rests K.room g.K.Priced.prices K.owes in
    let here = opened m c.args.map.now c.args.lines.now c.in-Ok.opened.1 (device c.args.bench.now) (device c.open.new.bench) (is_some c.in-Ok.opened.0.mirror) c.in-Ok.ensures.done in
    lacks m c.args.map.now c.args.lines.now 0 ([] ++ c.in-Ok.opened.1 ∷ []) (device c.args.bench.now) (device c.open.new.bench) (is_some c.in-Ok.opened.0.mirror) here

pub returns-in-Err-carry_out-clause-ends : goal.returns-in-Err-carry_out-clause-ends
returns-in-Err-carry_out-clause-ends g c =
    let device = g.B.Flash.device in
    let K = g.K.Backend in
    let m = meanings K.damage K.contents K.rests K.room g.K.Priced.prices K.owes in
    stops_at m c.args.map.now c.args.lines.now c.loop-line.line-index c.line-item.result c.loop-line.answers (device c.args.bench.now) (device c.loop-line.bench) (device c.carry_out.new.bench) (is_some c.loop-line.session.mirror) c.in-Err-carry_out.fault
    c.loop-line-test.true c.line-item.is c.loop-line.invariant.going.so_far c.in-Err-carry_out.ensures.stops

pub returns-in-Err-push-2-clause-ends : goal.returns-in-Err-push-2-clause-ends
returns-in-Err-push-2-clause-ends g c =
    let device = g.B.Flash.device in
    let K = g.K.Backend in
    let m = meanings K.damage K.contents K.rests K.room g.K.Priced.prices K.owes in
    let so_far = c.loop-line.invariant.going in
    let here = one_more m c.args.map.now c.args.lines.now c.loop-line.line-index c.line-item.result c.loop-line.answers c.in-Ok-carry_out.answer (device c.args.bench.now) (device c.loop-line.bench) (device c.carry_out.new.bench)
    (is_some c.loop-line.session.mirror) (is_some c.carry_out.new.self.mirror) c.loop-line-test.true c.line-item.is so_far.so_far c.in-Ok-carry_out.ensures.done in
    lacks m c.args.map.now c.args.lines.now (c.loop-line.line-index + 1) (c.loop-line.answers ++ c.in-Ok-carry_out.answer ∷ []) (device c.args.bench.now) (device c.carry_out.new.bench) (is_some c.carry_out.new.self.mirror) here

pub returns-clause-texts : goal.returns-clause-texts
returns-clause-texts g c labels =
    let K = g.K.Backend in
    let m = meanings K.damage K.contents K.rests K.room g.K.Priced.prices K.owes in
    can_report_all m c.args.map.now (first_stores K.serves c.args.map.now (g.B.Flash.device c.args.bench.now) c.requires.map) labels (Mount ∷ c.args.lines.now) c.loop-line.answers _ _ (returns-clause-ends g c).1.in_turn

pub returns-clause-boots : goal.returns-clause-boots
returns-clause-boots g c =
    let device = g.B.Flash.device in
    let K = g.K.Backend in
    let m = meanings K.damage K.contents K.rests K.room g.K.Priced.prices K.owes in
    let all : length c.args.lines.now ≤ c.loop-line.line-index = omega (arith, c.loop-line-test.false) in
    owing-ends K.owes m c.args.map.now (greatest_boot K.boot_units (device c.args.bench.now).banks c.args.map.now) c.args.lines.now c.loop-line.line-index c.loop-line.answers (device c.args.bench.now) (device c.loop-line.bench) (is_some c.loop-line.session.mirror) all c.loop-line.invariant.owed

pub returns-in-Err-clause-boots : goal.returns-in-Err-clause-boots
returns-in-Err-clause-boots g c due most some within owes = (c.open.ensures.kept due most some (none-less most) owes, tt)

pub returns-in-Err-push-clause-boots : goal.returns-in-Err-push-clause-boots
returns-in-Err-push-clause-boots g c due most some within owes = (c.open.ensures.kept due most some (none-less most) owes, tt)

pub returns-in-Err-carry_out-clause-boots : goal.returns-in-Err-carry_out-clause-boots
returns-in-Err-carry_out-clause-boots g c due most some within owes =
    let device = g.B.Flash.device in
    let K = g.K.Backend in
    let m = meanings K.damage K.contents K.rests K.room g.K.Priced.prices K.owes in
    let kept = owing-stops K.owes m c.args.map.now K.boot_units c.args.lines.now c.loop-line.line-index c.loop-line.answers (device c.args.bench.now) (device c.loop-line.bench) (device c.carry_out.new.bench) (is_some c.loop-line.session.mirror) c.loop-line.invariant.owed c.carry_out.ensures.kept in
    (kept due most some within owes, tt)

pub returns-in-Err-push-2-clause-boots : goal.returns-in-Err-push-2-clause-boots
returns-in-Err-push-2-clause-boots g c due most some within owes =
    let device = g.B.Flash.device in
    let K = g.K.Backend in
    let m = meanings K.damage K.contents K.rests K.room g.K.Priced.prices K.owes in
    let kept = owing-stops K.owes m c.args.map.now K.boot_units c.args.lines.now c.loop-line.line-index c.loop-line.answers (device c.args.bench.now) (device c.loop-line.bench) (device c.carry_out.new.bench) (is_some c.loop-line.session.mirror) c.loop-line.invariant.owed c.carry_out.ensures.kept in
    (kept due most some within owes, tt)
