use Rattle.std.proofs.Common.{All}
use Rattle.flash_map.specs.Map.{HasVersion}
use Rattle.library_tests.proofs.flashes.areas.Given as goal

abbrev pub invariant-loop-label : goal.invariant-loop-label
invariant-loop-label g l = All (HasVersion 1) l.map
