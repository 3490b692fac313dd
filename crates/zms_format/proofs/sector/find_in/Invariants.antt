use Rattle.std.proofs.Common.{◌≡◌, ◌≤◌, length}
use Rattle.zms_cycle.specs.Sector.{valid_slots, entries}
use Rattle.zms_cycle.proofs.Scanning.{entries_to}
use Rattle.zms_format.specs.Area.{last_in}
use Rattle.zms_format.proofs.sector.find_in.Given as goal

abbrev pub invariant-loop-count : goal.invariant-loop-count
invariant-loop-count l = record { inside : l.count ≤ length (valid_slots l.sector); later : last_in l.id (entries_to l.sector l.count) ≡ last_in l.id (entries l.sector) }

abbrev pub decreases-loop-count : goal.decreases-loop-count
decreases-loop-count l = l.count
