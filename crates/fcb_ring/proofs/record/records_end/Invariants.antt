use Rattle.std.proofs.Common.{◌≡◌, ◌-◌, ◌%◌, ◌≤◌, length}
use Rattle.fcb_ring.specs.Records.{record_at, records_end}
use Rattle.fcb_ring.proofs.Walks.{walk_end}
use Rattle.fcb_ring.proofs.record.records_end.Given as goal

abbrev pub invariant-loop-record : goal.invariant-loop-record
invariant-loop-record l = record {
  aligned : l.end % l.unit ≡ 0;
  at_most : l.end ≤ length l.sector;
  same_end : walk_end (record_at l.unit l.sector) (length l.sector) l.end ≡ records_end l.unit l.sector;
}

abbrev pub decreases-loop-record : goal.decreases-loop-record
decreases-loop-record l = length l.sector - l.end
