use Rattle.std.proofs.Common.{◌∙◌, sym, subst}
use Rattle.std.specs.Prelude.{IfOk}
use Rattle.flash_map.specs.Area.{value_limit}
use Rattle.log_session.specs.declared.answer.Answer.{Answer}
use Rattle.log_session.specs.declared.line.Line.{Line}
use Rattle.log_session.specs.LineDone.{IsServed, LineDone}
use Rattle.log_session.proofs.LineLemmas.{put_no_mount, records_no_mount, cut_no_mount, uncut_no_mount, whole_if_err, wants_if_err}
use Rattle.log_session.proofs.session.run_line.Goals as goal

pub run_put-requires-clause-line : goal.run_put-requires-clause-line
run_put-requires-clause-line g c = subst (IsServed (value_limit c.args.area.now)) c.in-Put.is c.requires.line

pub returns-in-Put : goal.returns-in-Put
returns-in-Put g c = record {
  done = subst (λ (l : Line). LineDone c.args.area.now l c.run_put.result (g.B.Flash.device c.args.bench.now) (g.B.Flash.device c.run_put.new.bench)) (sym c.in-Put.is) c.run_put.ensures.done;
  sound = c.run_put.ensures.sound;
  mounted = c.run_put.ensures.mounted;
  rests = λ is none. absurd (put_no_mount _ (sym c.in-Put.is ∙ is));
  same = tt;
  memory = tt;
}

pub returns-in-Records : goal.returns-in-Records
returns-in-Records g c =
    let d = g.B.Flash.device c.args.bench.now in
    record {
      done = subst (λ (l : Line). IfOk c.run_records.result (λ (answer : Answer). LineDone c.args.area.now l answer d d)) (sym c.in-Records.is) c.run_records.ensures.done;
      sound = c.requires.sound;
      mounted = c.requires.mounted;
      rests = λ is none. absurd (records_no_mount (sym c.in-Records.is ∙ is));
      same = whole_if_err c.run_records.result d;
      memory = wants_if_err c.run_records.result c.args.line.now d c.in-Records.is c.run_records.ensures.memory;
    }

pub returns-in-Mount : goal.returns-in-Mount
returns-in-Mount g c = record {
  done = subst (λ (l : Line). LineDone c.args.area.now l c.mount_again.result (g.B.Flash.device c.args.bench.now) (g.B.Flash.device c.mount_again.new.bench)) (sym c.in-Mount.is) c.mount_again.ensures.done;
  sound = c.mount_again.ensures.sound;
  mounted = c.mount_again.ensures.mounted;
  rests = λ is none. c.mount_again.ensures.rests none;
  same = tt;
  memory = tt;
}

pub returns-in-Cut-clause-done : goal.returns-in-Cut-clause-done
returns-in-Cut-clause-done g c = subst (λ (l : Line). LineDone c.args.area.now l c.plan_loss.result (g.B.Flash.device c.args.bench.now) (g.B.Flash.device c.plan_loss.new.bench)) (sym c.in-Cut.is) c.plan_loss.ensures.done

pub returns-in-Cut-clause-rests : goal.returns-in-Cut-clause-rests
returns-in-Cut-clause-rests g c = λ is none. absurd (cut_no_mount _ (sym c.in-Cut.is ∙ is))

pub returns-in-Uncut-clause-done : goal.returns-in-Uncut-clause-done
returns-in-Uncut-clause-done g c = subst (λ (l : Line). LineDone c.args.area.now l c.drop_plan.result (g.B.Flash.device c.args.bench.now) (g.B.Flash.device c.drop_plan.new.bench)) (sym c.in-Uncut.is) c.drop_plan.ensures.done

pub returns-in-Uncut-clause-rests : goal.returns-in-Uncut-clause-rests
returns-in-Uncut-clause-rests g c = λ is none. absurd (uncut_no_mount (sym c.in-Uncut.is ∙ is))
