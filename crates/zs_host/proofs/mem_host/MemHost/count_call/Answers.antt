use Rattle.std.proofs.Common.{◌≡◌, ◌-◌, ◌<◌, ℕ, List, get_or, length, ap, sym, arith}
use Rattle.std.proofs.lemmas.Grind.{get_or_default_zero}
use Rattle.std.proofs.lemmas.List.Edits.{map_over_more}
use Rattle.zs_host.proofs.mem_host.MemHost.count_call.Goals as goal

pub loop-n-preserved : goal.loop-n-preserved
loop-n-preserved c =
    let old : List ℕ = c.args.self.now.failing.items in
    let kept : length old ≡ length c.loop-n.n-items = omega (arith, c.loop-n.auto.n-items, ap length c.deref_mut-n-items.ensures.value) in
    let within : c.loop-n.n-index < length old = omega arith in
    rw c.saturating_sub.ensures
    (map_over_more (λ n. n - 1) old c.loop-n.n-items c.loop-n.n-index (get_or c.loop-n.n-items c.loop-n.n-index 0) within c.loop-n.invariant
    (sym (get_or_default_zero c.loop-n.n-items c.loop-n.n-index (get_or c.loop-n.n-items c.loop-n.n-index 0) (omega arith))))
