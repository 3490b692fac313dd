use Rattle.std.proofs.Common.{◌≡◌, ◌≤◌, eqb, take}
use Rattle.std.specs.Prelude.{count_by}
use Rattle.mirror.proofs.fitting.count_same.Given as goal

abbrev pub invariant-loop-other : goal.invariant-loop-other
invariant-loop-other l = record { is : l.count ≡ count_by (λ other. eqb other l.class) (take l.other-index l.classes); few : l.count ≤ l.other-index }
