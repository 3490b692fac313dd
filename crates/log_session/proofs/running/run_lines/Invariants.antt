use Rattle.std.proofs.Common.{◌≡◌}
use Rattle.log_session.specs.Standing.{IsReady}
use Rattle.log_session.proofs.FoldLemmas.{RanTo}
use Rattle.log_session.proofs.running.run_lines.Given as goal

abbrev pub invariant-loop-line : goal.invariant-loop-line
invariant-loop-line g l =
    let device = g.B.Flash.device in
    record {
      so_far : RanTo l.area l.lines l.line-index l.answers (device l.fn.bench) (device l.bench);
      ready : IsReady (device l.bench) l.session;
      area : l.session.area ≡ l.area;
    }
