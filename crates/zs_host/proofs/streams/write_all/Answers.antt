use Rattle.std.proofs.Common.{arith, length-take, length-drop, ℕ}
use Rattle.zs_host.proofs.StreamLemmas.{appends_more}
use Rattle.zs_host.proofs.streams.write_all.Goals as goal

pub loop-at-preserved : goal.loop-at-preserved
loop-at-preserved g c = record {
  within = omega (arith, c.in-Ok.ensures.bound, length-take {A = ℕ}, length-drop {A = ℕ});
  written = appends_more _ _ _ c.args.bytes.now c.loop-at.at c.in-Ok.count c.loop-at.invariant.written c.in-Ok.ensures.bytes;
}
