use Rattle.std.proofs.Common.{◌+◌, ◌/◌, ◌%◌, ◌∙◌}
use Rattle.script_lines.proofs.GeneratorLemmas.{bytes_step, bytes_end}
use Rattle.script_lines.proofs.generator.value_by.Goals as goal

pub loop-j-preserved : goal.loop-j-preserved
loop-j-preserved c = bytes_step c.args.i c.loop-j.j c.loop-j.value.items c.push.new.self.items c.in_ok-push.ensures.items c.loop-j.invariant

pub returns : goal.returns
returns c =
    let count = 1 + c.args.s / 65536 % 32 in
    c.from_vec.ensures ∙ bytes_end c.args.i c.loop-j.j count c.loop-j.value.items c.loop-j-test.false c.loop-j.auto.j-end c.loop-j.invariant
