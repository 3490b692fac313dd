use Rattle.std.proofs.Common.{◌≤◌, length}
use Rattle.fcb_ring.specs.Changing.{kept_room}
use Rattle.backend_fcb.proofs.PutSteps.{IsSearching}
use Rattle.backend_fcb.proofs.writing.put.Given as goal

abbrev pub invariant-loop-round : goal.invariant-loop-round
invariant-loop-round g l = record {
  within : l._round ≤ l.rounds;
  so_far : IsSearching (g.F.Flash.device l.initial.flash) (g.F.Flash.device l.flash) l.initial.ring l.ring (length l.body) (kept_room l.initial.ring l.into_reserve) l._round;
}
