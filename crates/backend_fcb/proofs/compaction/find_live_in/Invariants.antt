use Rattle.std.specs.List.{All}
use Rattle.std.specs.Option.{ForSome}
use Rattle.fcb_ring.specs.Standing.{entries_on, record_places, IsListed}
use Rattle.backend_fcb.specs.Compaction.{IsKept, AreKeptWithin, PassesFrom}
use Rattle.backend_fcb.proofs.WalkLemmas.{left_at}
use Rattle.backend_fcb.proofs.compaction.find_live_in.Given as goal

abbrev pub invariant-loop-at : goal.invariant-loop-at
invariant-loop-at g l = record {
  kept : All (IsKept (g.F.Flash.device l.flash) l.ring.area) l.table.items;
  within : AreKeptWithin l.part l.table.items;
  passes : PassesFrom (g.F.Flash.device l.flash) l.ring.area l.part l.fn.from l.table.items l.at;
  listed : ForSome l.at (IsListed (g.F.Flash.device l.flash) l.ring.area);
}

abbrev pub decreases-loop-at : goal.decreases-loop-at
decreases-loop-at g l = left_at (record_places (entries_on (g.F.Flash.device l.flash) l.ring.area)) l.at
