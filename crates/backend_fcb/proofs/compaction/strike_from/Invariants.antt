use Rattle.std.proofs.Common.{Bool}
use Rattle.std.specs.List.{All, AllPass}
use Rattle.std.specs.Option.{ForSome}
use Rattle.fcb_ring.specs.Standing.{entries_on, record_places, IsListed}
use Rattle.backend_fcb.specs.Compaction.{IsKept}
use Rattle.backend_fcb.specs.declared.compaction.Kept.{Kept}
use Rattle.backend_fcb.proofs.CompactionSteps.{StruckFrom}
use Rattle.backend_fcb.proofs.WalkLemmas.{left_at}
use Rattle.backend_fcb.proofs.compaction.strike_from.Given as goal

abbrev pub invariant-loop-at : goal.invariant-loop-at
invariant-loop-at g l = record {
  kept : All (IsKept (g.F.Flash.device l.flash) l.ring.area) l.table.items;
  some : (test : Kept → Bool) → AllPass test l.initial.table.items → AllPass test l.table.items;
  struck : StruckFrom (g.F.Flash.device l.flash) l.ring.area l.fn.from l.initial.table.items l.table.items l.at;
  listed : ForSome l.at (IsListed (g.F.Flash.device l.flash) l.ring.area);
}

abbrev pub decreases-loop-at : goal.decreases-loop-at
decreases-loop-at g l = left_at (record_places (entries_on (g.F.Flash.device l.flash) l.ring.area)) l.at
