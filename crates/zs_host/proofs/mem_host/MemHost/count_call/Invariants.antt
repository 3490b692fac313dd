use Rattle.std.proofs.Common.{◌≡◌, ◌-◌, ◌++◌, map, take, drop}
use Rattle.zs_host.proofs.mem_host.MemHost.count_call.Given as goal

abbrev pub invariant-loop-n : goal.invariant-loop-n
invariant-loop-n l = l.n-items ≡ map (λ n. n - 1) (take l.n-index l.fn.self.failing.items) ++ drop l.n-index l.fn.self.failing.items
