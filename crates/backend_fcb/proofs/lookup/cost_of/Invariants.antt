use Rattle.std.proofs.Common.{◌≡◌, ◌*◌, ◌≤◌, take}
use Rattle.std.specs.Prelude.{sum_by}
use Rattle.flash_sim.specs.declared.flash.TheConstants.{PROGRAM_LIMIT}
use Rattle.flash_map.specs.Area.{value_limit, unit_of}
use Rattle.record_settings.specs.Room.{put_cost}
use Rattle.backend_fcb.specs.Compaction.{bodies_at}
use Rattle.backend_fcb.proofs.lookup.cost_of.Given as goal

abbrev pub invariant-loop-kept : goal.invariant-loop-kept
invariant-loop-kept g l = record {
  says : l.cost ≡ sum_by (put_cost (value_limit l.ring.area) (unit_of (g.F.Flash.device l.flash) l.ring.area)) (bodies_at (g.F.Flash.device l.flash) l.ring.area (take l.kept-index l.table));
  small : l.cost ≤ PROGRAM_LIMIT * l.kept-index;
}
