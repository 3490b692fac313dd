use Rattle.std.proofs.Common.{◌≡◌, eqb, leb, take}
use Rattle.std.specs.Prelude.{count_by}
use Rattle.std.specs.List.{list_all}
use Rattle.mirror.proofs.fitting.are_few.Given as goal

abbrev pub invariant-loop-class : goal.invariant-loop-class
invariant-loop-class l = l.few ≡ list_all (λ class. leb (count_by (λ other. eqb other class) l.classes) l.most) (take l.class-index l.classes)
