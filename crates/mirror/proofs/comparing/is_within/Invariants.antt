use Rattle.std.specs.FinMap.{keys}
use Rattle.flash_map.specs.On.{on}
use Rattle.migrator.proofs.Names.{left}
use Rattle.mirror.proofs.Comparisons.{IsWithinSoFar}
use Rattle.mirror.proofs.comparing.is_within.Given as goal

abbrev pub invariant-loop-at : goal.invariant-loop-at
invariant-loop-at g l =
    IsWithinSoFar (on g.K.Backend.contents (g.F.Flash.device l.flash) (g.K.Backend.mounted_on l.store)) (on g.K.Backend.contents (g.F.Flash.device l.flash) (g.K.Backend.mounted_on l.other)) l.at

abbrev pub decreases-loop-at : goal.decreases-loop-at
decreases-loop-at g l = left (keys (on g.K.Backend.contents (g.F.Flash.device l.flash) (g.K.Backend.mounted_on l.store))) l.at
