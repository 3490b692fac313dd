use Rattle.std.proofs.Common.{◌≡◌, ◌-◌, ◌%◌, ◌≤◌, length, find}
use Rattle.fcb_ring.specs.Records.{record_at, walk, passes}
use Rattle.fcb_ring.proofs.record.next_checked.Given as goal

abbrev pub invariant-loop-extent : goal.invariant-loop-extent
invariant-loop-extent l = record {
  aligned : l.at % l.unit ≡ 0;
  at_most : l.at ≤ length l.sector;
  same_rest : find (passes l.sector l.prefix) (walk (record_at l.unit l.sector) (length l.sector) l.at) ≡ find (passes l.sector l.prefix) (walk (record_at l.unit l.sector) (length l.sector) l.from);
}

abbrev pub decreases-loop-extent : goal.decreases-loop-extent
decreases-loop-extent l = length l.sector - l.at
