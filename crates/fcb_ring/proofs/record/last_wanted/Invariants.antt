use Rattle.std.proofs.Common.{◌≡◌, ◌-◌, ◌%◌, ◌≤◌, ℕ, length, Some}
use Rattle.std.specs.List.{last_or, filter}
use Rattle.std.specs.Option.{option_map}
use Rattle.fcb_ring.specs.Records.{record_of, record_at, walk, is_wanted, last_wanted}
use Rattle.fcb_ring.proofs.record.last_wanted.Given as goal

abbrev pub invariant-loop-extent : goal.invariant-loop-extent
invariant-loop-extent l = record {
  aligned : l.at % l.unit ≡ 0;
  at_most : l.at ≤ length l.sector;
  same : last_or (option_map (record_of l.unit l.sector) l.found) (filter (is_wanted l.sector l.prefix l.most l.checked) (walk (record_at l.unit l.sector) (length l.sector) l.at))
      ≡ last_wanted l.unit l.sector l.prefix l.most l.checked;
  reads : (at : ℕ) → l.found ≡ Some at → record_at l.unit l.sector at ≡ Some (record_of l.unit l.sector at);
}

abbrev pub decreases-loop-extent : goal.decreases-loop-extent
decreases-loop-extent l = length l.sector - l.at
