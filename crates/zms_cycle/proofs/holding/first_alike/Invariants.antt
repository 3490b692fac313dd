use Rattle.std.proofs.Common.{◌≤◌}
use Rattle.zms_cycle.specs.Holding.{EndsSlot, number_below, NoneAlike}
use Rattle.zms_cycle.proofs.holding.first_alike.Given as goal

-- no slot so far is alike
abbrev pub invariant-loop-end : goal.invariant-loop-end
invariant-loop-end l = record {
  inside : EndsSlot l.sector l.end;
  behind : l.from ≤ number_below l.sector l.end;
  none : NoneAlike l.sector l.least l.most l.bytes l.from (number_below l.sector l.end);
}

abbrev pub decreases-loop-end : goal.decreases-loop-end
decreases-loop-end l = l.end
