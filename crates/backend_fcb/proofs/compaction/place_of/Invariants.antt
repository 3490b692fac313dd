use Rattle.std.proofs.Common.{◌≡◌, ◌++◌, take, drop}
use Rattle.backend_fcb.specs.Compaction.{is_kept_of, without_first}
use Rattle.backend_fcb.proofs.compaction.place_of.Given as goal

abbrev pub invariant-loop-place : goal.invariant-loop-place
invariant-loop-place g l =
    without_first (is_kept_of (g.F.Flash.device l.flash) l.ring.area l.name) l.table ≡ take l.place l.table ++ without_first (is_kept_of (g.F.Flash.device l.flash) l.ring.area l.name) (drop l.place l.table)
