use Rattle.std.proofs.Common.{◌≡◌}
use Rattle.item_session.specs.Standing.{IsReady}
use Rattle.item_session.proofs.FoldLemmas.{RanTo}
use Rattle.item_session.proofs.running.run_lines.Given as goal

abbrev pub invariant-loop-line : goal.invariant-loop-line
invariant-loop-line g l =
    let device = g.B.Flash.device in
    let s = g.T.SlotSectors in
    record {
      so_far : RanTo s.format_of l.area l.lines l.line-index l.answers (device l.fn.bench) (device l.bench);
      ready : IsReady s.role s.format_of s.kept (device l.bench) l.session;
      area : l.session.area ≡ l.area;
      banks : (device l.bench).banks ≡ (device l.fn.bench).banks;
    }
