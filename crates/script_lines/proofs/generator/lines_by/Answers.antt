use Rattle.std.proofs.Common.{◌≡◌, ◌+◌}
use Rattle.script_lines.specs.Generator.{state_after}
use Rattle.script_lines.proofs.GeneratorLemmas.{state_step, lines_step, lines_end}
use Rattle.script_lines.proofs.generator.lines_by.Goals as goal

pub loop-i-preserved : goal.loop-i-preserved
loop-i-preserved c =
    let state : c.next_state-s.result ≡ state_after c.args.n (c.loop-i.i + 1) =
    state_step c.args.n c.loop-i.i c.loop-i.s c.next_state-s.result c.next_state-s.ensures c.loop-i.invariant.state in
    record {
      state = state;
      lines = lines_step c.args.n c.loop-i.i c.next_state-s.result c.in_ok-line_by.field-0 c.loop-i.lines.items c.push.new.self.items state c.in_ok-line_by.ensures c.in_ok-push.ensures.items c.loop-i.invariant.lines;
    }

pub returns : goal.returns
returns c = lines_end c.args.n c.loop-i.i c.args.n c.loop-i.lines.items c.loop-i-test.false c.loop-i.auto.i-end c.loop-i.invariant.lines
