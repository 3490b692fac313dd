use Rattle.std.proofs.Common.{◌≡◌, map}
use Rattle.migrator.specs.Copying.{pair_of}
use Rattle.migrator.proofs.copying.read_all.Given as goal

abbrev pub invariant-loop-name : goal.invariant-loop-name
invariant-loop-name g l = map pair_of l.all.items ≡ map (λ pair. (pair.0, pair.1.now)) l.yielded
