use Rattle.std.proofs.Common.{◌≡◌, ◌+◌, drop, length}
use Rattle.std.specs.Prelude.{sum_by}
use Rattle.image_jobs.proofs.report.bytes_in.Given as goal

abbrev pub invariant-loop-pair : goal.invariant-loop-pair
invariant-loop-pair l = l.bytes + sum_by (λ pair. length pair.value) (drop l.pair-index l.pairs) ≡ sum_by (λ pair. length pair.value) l.pairs
