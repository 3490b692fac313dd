use Rattle.std.proofs.Common.{eqb}
use Rattle.std.specs.FinMap.{keys}
use Rattle.flash_map.specs.On.{on}
use Rattle.migrator.proofs.Names.{left}
use Rattle.mirror.specs.Room.{prices_on}
use Rattle.mirror.proofs.Walks.{IsCounted}
use Rattle.mirror.proofs.walking.alike.Given as goal

abbrev pub invariant-loop-at : goal.invariant-loop-at
invariant-loop-at g l =
    IsCounted (λ other. eqb ((prices_on g.K.Priced.prices (g.F.Flash.device l.flash) l.area).class other) l.class) (on g.K.Backend.contents (g.F.Flash.device l.flash) (g.K.Backend.mounted_on l.store)) l.at l.count

abbrev pub decreases-loop-at : goal.decreases-loop-at
decreases-loop-at g l = left (keys (on g.K.Backend.contents (g.F.Flash.device l.flash) (g.K.Backend.mounted_on l.store))) l.at
